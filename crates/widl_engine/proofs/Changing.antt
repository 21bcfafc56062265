-- For proofs alone. Actions on properties, as what they do to the world of a place.
use Rattle.std.proofs.Common.{◌≡◌, ℕ, Bool, true, false, List, Option, Some, None, sym, ap, subst, ◌∙◌, refl, if◌then◌else◌, ◌≢◌, Result, OnOk, OnErr, IfOk}
use Rattle.std.specs.declared.result.Result.TheVariants as results
use Rattle.widl_dialog.specs.Dialog.{End}
use Rattle.widl_dialog.specs.Runs.{Went}
use Rattle.widl_text.specs.declared.key.Key.{Key}
use Rattle.widl_value.specs.declared.object.ObjRef.{ObjRef}
use Rattle.widl_value.specs.declared.value.Value.{Value}
use Rattle.widl_script_tree.specs.Tables.{Tables}
use Rattle.widl_store.specs.declared.effects.DefineFault.{DefineFault}
use Rattle.widl_store.specs.declared.effects.DefineFault.TheVariants as defining
use Rattle.widl_store.specs.declared.effects.NotConfigurable as refusal
use Rattle.widl_store.specs.declared.effects.Put.{Put}
use Rattle.widl_store.specs.declared.effects.Put.TheVariants as puts
use Rattle.widl_store.specs.declared.effects.PutFault.{PutFault}
use Rattle.widl_store.specs.declared.effects.PutFault.TheVariants as putting
use Rattle.widl_store.specs.declared.found.Found.{Found}
use Rattle.widl_store.specs.declared.found.Found.TheVariants.{Held, Getter, NoGetter, Nothing}
use Rattle.widl_store.specs.declared.property.Prop.{Prop}
use Rattle.widl_store.specs.declared.property.Prop.TheVariants.{Plain, Accessor}
use Rattle.widl_store.specs.Effects.{is_fixed, put_of, put_in, define_of, defined, delete_of, deleted}
use Rattle.widl_store.specs.Found.{Shows, found_at}
use Rattle.widl_store.specs.Objects.{Obj, StoreState, with_objects, own_at}
use Rattle.widl_trace.specs.EventTerms.{EventTerm}
use Rattle.widl_runs.specs.Ends.{Normal}
use Rattle.widl_runs.specs.Actions.{IsPut, IsDefined, IsDeleted, is_put, is_made, put_result, define_result, with_store}
use Rattle.widl_runs.specs.Jobs.{Program, Doing}
use Rattle.widl_runs.specs.Members.{read_value, put_done, define_done, delete_done}
use Rattle.widl_runs.specs.Worlds.{World}
use Rattle.widl_engine.specs.declared.contexts.Place.{Place}
use Rattle.widl_engine.specs.declared.due.Due.TheVariants as due
use Rattle.widl_engine.specs.declared.moves.Move.{Move}
use Rattle.widl_engine.specs.Frames.{move_of}
use Rattle.widl_engine.specs.Place.{world_of, Performed}
use Rattle.widl_engine.specs.Shown.{shown, IsPutAnswer, IsDefineAnswer}
use Rattle.widl_engine.proofs.Acting.{Done, performed}

pub read_shown : (of : ObjRef) (o : Option Prop) (f : Found) → Shows o f → shown of f ≡ read_value of o
read_shown of None f e = ap (shown of) e
read_shown of (Some (Plain v flags)) (Held at) h = ap (λ (x : Value). let d : Doing = End (Normal x) in d) h
read_shown of (Some (Plain v flags)) (Getter g) h = absurd h
read_shown of (Some (Plain v flags)) NoGetter h = absurd h
read_shown of (Some (Plain v flags)) Nothing h = absurd h
read_shown of (Some (Accessor None setter flags)) f e = ap (shown of) e
read_shown of (Some (Accessor (Some g) setter flags)) f e = ap (shown of) e

abbrev IsNot : Bool → Type 0
IsNot true = ⊥
IsNot false = Unit {0}

not_memory : (a : Result Put PutFault) → IsPutAnswer a → a ≢ results.Err putting.Memory
not_memory a h e = subst IsPutAnswer e h

not_define_memory : (a : Result (Unit {0}) DefineFault) → IsDefineAnswer a → a ≢ results.Err defining.Memory
not_define_memory a h e = subst IsDefineAnswer e h

module _ (s : Tables) (t u : StoreState) (x : Place) where
  put_world : (a : Result Put PutFault) (objects : List Obj) (k : ℕ) (ls : List EventTerm) → (a ≡ results.Ok puts.Done → u ≡ with_objects t objects) → (a ≢ results.Ok puts.Done → u ≡ t) → (if is_put a then with_store (world_of s t x k ls) objects else world_of s t x k ls) ≡ world_of s u x k ls
  put_world (results.Ok puts.Done) objects k ls done kept = ap (λ (z : StoreState). world_of s z x k ls) (sym (done refl))
  put_world (results.Ok (puts.Setter g v)) objects k ls done kept = ap (λ (z : StoreState). world_of s z x k ls) (sym (kept (λ e. subst (λ (r : Result Put PutFault). IsNot (is_put r)) e tt)))
  put_world (results.Err fault) objects k ls done kept = ap (λ (z : StoreState). world_of s z x k ls) (sym (kept (λ e. subst (λ (r : Result Put PutFault). IsNot (is_put r)) e tt)))

  pub put_performed : (p : Program) (obj : ObjRef) (key : Key) (v : Value) (a : Result Put PutFault) (next : Move) → (a ≢ results.Err putting.Memory → a ≡ put_of (is_fixed t.objects obj.id key) (found_at t.objects obj.id key) v) → (a ≡ results.Ok puts.Done → u ≡ with_objects t (put_in t.objects obj.id key v)) → (a ≢ results.Ok puts.Done → u ≡ t) → IsPutAnswer a → move_of p s next ≡ put_done obj a → Performed p s (due.Put obj key v) t x u x next
  put_performed p obj key v a next answer done kept some goes =
      let same : put_result t.objects obj key v ≡ a = sym (answer (not_memory a some)) in
      performed (IsPut a) (λ k ls.
      ap (λ (r : Result Put PutFault). let d : Done = Went (if is_put r then with_store (world_of s t x k ls) (put_in t.objects obj.id key v) else world_of s t x k ls) (IsPut r) in d) same
      ∙ ap (λ (w : World). let d : Done = Went w (IsPut a) in d) (put_world a (put_in t.objects obj.id key v) k ls done kept)) goes

  made_world : {E : Type 0} (a : Result (Unit {0}) E) (objects : List Obj) (k : ℕ) (ls : List EventTerm) → OnOk a (u ≡ with_objects t objects) → OnErr a (u ≡ t) → (if is_made a then with_store (world_of s t x k ls) objects else world_of s t x k ls) ≡ world_of s u x k ls
  made_world (results.Ok done) objects k ls ok err = ap (λ (z : StoreState). world_of s z x k ls) (sym ok)
  made_world (results.Err fault) objects k ls ok err = ap (λ (z : StoreState). world_of s z x k ls) (sym err)

  pub define_performed : (p : Program) (obj : ObjRef) (key : Key) (prop : Prop) (a : Result (Unit {0}) DefineFault) (next : Move) → (a ≢ results.Err defining.Memory → a ≡ define_of (is_fixed t.objects obj.id key) (own_at t.objects obj.id key)) → OnOk a (u ≡ with_objects t (defined t.objects obj.id key prop)) → OnErr a (u ≡ t) → IsDefineAnswer a → move_of p s next ≡ define_done a → Performed p s (due.Define obj key prop) t x u x next
  define_performed p obj key prop a next answer done kept some goes =
      let same : define_result t.objects obj key ≡ a = sym (answer (not_define_memory a some)) in
      performed (IsDefined a) (λ k ls.
      ap (λ (r : Result (Unit {0}) DefineFault). let d : Done = Went (if is_made r then with_store (world_of s t x k ls) (defined t.objects obj.id key prop) else world_of s t x k ls) (IsDefined r) in d) same
      ∙ ap (λ (w : World). let d : Done = Went w (IsDefined a) in d) (made_world a (defined t.objects obj.id key prop) k ls done kept)) goes

  pub delete_performed : (p : Program) (obj : ObjRef) (key : Key) (a : Result (Unit {0}) refusal.NotConfigurable) (next : Move) → a ≡ delete_of (own_at t.objects obj.id key) → OnOk a (u ≡ with_objects t (deleted t.objects obj.id key)) → OnErr a (u ≡ t) → move_of p s next ≡ delete_done a → Performed p s (due.Delete obj key) t x u x next
  delete_performed p obj key a next answer done kept goes =
      performed (IsDeleted a) (λ k ls.
      ap (λ (r : Result (Unit {0}) refusal.NotConfigurable). let d : Done = Went (if is_made r then with_store (world_of s t x k ls) (deleted t.objects obj.id key) else world_of s t x k ls) (IsDeleted r) in d) (sym answer)
      ∙ ap (λ (w : World). let d : Done = Went w (IsDeleted a) in d) (made_world a (deleted t.objects obj.id key) k ls done kept)) goes

pub both_ok : {V E : Type 0} {P Q : V → Type 0} {S : Type 0} (r : Result V E) → OnOk r S → IfOk r P → ((v : V) → S → P v → Q v) → IfOk r Q
both_ok (results.Ok v) s h f = f v s h
both_ok (results.Err e) s h f = tt
