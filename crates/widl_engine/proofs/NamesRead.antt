-- For proofs alone. What names stand for and are bound to, in the world of a place.
use Rattle.std.proofs.Common.{◌≡◌, ℕ, Bool, true, false, List, ◌∷◌, Option, Some, None, sym, ap, subst, ◌∙◌, if◌then◌else◌, bytes_eq, nat_eq, IfOk, Result, Ok, Err, map}
use Rattle.std.specs.List.{list_any}
use Rattle.std.specs.Map.{lookup}
use Rattle.indexmap.specs.IndexMap.{insert_entry}
use Rattle.widl_dialog.specs.Runs.{Did, Went}
use Rattle.widl_value.specs.declared.value.Value.{Value}
use Rattle.widl_script_tree.specs.Tables.{Tables, name_at}
use Rattle.widl_store.specs.Objects.{StoreState}
use Rattle.widl_trace.specs.EventTerms.{EventTerm}
use Rattle.widl_runs.specs.declared.stop.Stop.{Stop}
use Rattle.widl_runs.specs.Jobs.{Program}
use Rattle.widl_runs.specs.Actions.{BindName, Reply, IsDone}
use Rattle.widl_runs.specs.Worlds.{World, Bindings, value_or_undefined, is_local, local_value, with_local, with_value, global_value, owner_object, owner_named, value_of, named_value, bound_world}
use Rattle.widl_engine.specs.declared.contexts.Context.{Context}
use Rattle.widl_engine.specs.declared.contexts.Place.{Place}
use Rattle.widl_engine.specs.Place.{named, names_of, contexts_of, contexts_in, outer_of, world_of, Acts, global_of}
use Rattle.widl_engine.proofs.NameLaws.{value_named, bind_named, any_named}

abbrev Done : Type 0
Done = Did World Reply Stop

pub if_ok : {V E : Type 0} {P Q : V → Type 0} (r : Result V E) → IfOk r P → ((v : V) → P v → Q v) → IfOk r Q
if_ok (Ok v) h f = f v h
if_ok (Err e) h f = tt

abbrev world_at : Tables → StoreState → Place → Option Context → ℕ → List EventTerm → World
world_at s t x h k ls = record { store = t; globals = named (name_at s) x.globals; next_symbol = x.next_symbol; lines = ls; units = k; contexts = contexts_of s h x.outer.items }

abbrev pub with_here : Place → Option Context → Place
with_here x h = record { globals = x.globals; next_symbol = x.next_symbol; here = h; outer = x.outer }

module _ (s : Tables) (differ : (i j : ℕ) → name_at s i ≡ name_at s j → i ≡ j) where
  pub local_test : (number n : ℕ) (ns : List ℕ) (b : Bool) → b ≡ list_any (nat_eq n) ns → b ≡ list_any (bytes_eq (name_at s n)) (map (name_at s) ns)
  local_test number n ns b is = is ∙ sym (any_named s differ n ns)

  pub local_read : (p : Program) (t : StoreState) (x : Place) (c : Context) (n : ℕ) (r : Option Value) (k : ℕ) (ls : List EventTerm) → x.here ≡ Some c → list_any (bytes_eq (name_at s n)) (names_of s c.function) ≡ true → lookup (nat_eq n) c.locals ≡ r → value_or_undefined r ≡ named_value p.list (world_of s t x k ls) (name_at s n)
  local_read p t x c n r k ls here test is =
      sym (
      ap (λ (h : Option Context). named_value p.list (world_at s t x h k ls) (name_at s n)) here
      ∙ ap (λ (b : Bool). if b then value_or_undefined (local_value (contexts_of s (Some c) x.outer.items) (name_at s n)) else global_value (value_of (named (name_at s) x.globals) (name_at s n)) (owner_object t (owner_named p.list (name_at s n)))) test
      ∙ ap value_or_undefined (value_named s differ n c.locals ∙ is))

  pub global_read : (p : Program) (t : StoreState) (x : Place) (n : ℕ) (r : Option Value) → lookup (nat_eq n) x.globals ≡ r → global_value r (owner_object t (owner_named p.list (name_at s n))) ≡ global_value (global_of s x n) (owner_object t (owner_named p.list (name_at s n)))
  global_read p t x n r is = ap (λ (o : Option Value). global_value o (owner_object t (owner_named p.list (name_at s n)))) (sym is ∙ sym (value_named s differ n x.globals))

  pub bound_local : (p : Program) (t : StoreState) (x : Place) (c : Context) (n : ℕ) (v : Value) (es : List (ℕ × Value)) → x.here ≡ Some c → list_any (bytes_eq (name_at s n)) (names_of s c.function) ≡ true → es ≡ insert_entry nat_eq c.locals n v → Acts p s (BindName (name_at s n) v) t x t (record { globals = x.globals; next_symbol = x.next_symbol; here = Some (record { this = c.this; function = c.function; locals = es }); outer = x.outer }) IsDone
  bound_local p t x c n v es here test is = record {
    went = λ k ls.
        ap (λ (h : Option Context). let d : Done = Went (bound_world (world_at s t x h k ls) (name_at s n) v) IsDone in d) here
        ∙ ap (λ (b : Bool). let w : World = world_at s t x (Some c) k ls in let d : Done = Went (if b then record w { contexts = with_local w.contexts (name_at s n) v } else record w { globals = with_value w.globals (name_at s n) v }) IsDone in d) test
        ∙ ap (λ (l : Bindings). let d : Done = Went (record (world_at s t x (Some c) k ls) { contexts = record { this = c.this; names = names_of s c.function; locals = l } ∷ outer_of s x.outer.items }) IsDone in d) (sym (bind_named s differ n v c.locals) ∙ ap (named (name_at s)) (sym is));
  }

  pub bound_global : (p : Program) (t : StoreState) (x : Place) (n : ℕ) (v : Value) (es : List (ℕ × Value)) → is_local (contexts_in s x) (name_at s n) ≡ false → es ≡ insert_entry nat_eq x.globals n v → Acts p s (BindName (name_at s n) v) t x t (record { globals = es; next_symbol = x.next_symbol; here = x.here; outer = x.outer }) IsDone
  bound_global p t x n v es test is = record {
    went = λ k ls.
        ap (λ (b : Bool). let w : World = world_of s t x k ls in let d : Done = Went (if b then record w { contexts = with_local w.contexts (name_at s n) v } else record w { globals = with_value w.globals (name_at s n) v }) IsDone in d) test
        ∙ ap (λ (l : Bindings). let d : Done = Went (record (world_of s t x k ls) { globals = l }) IsDone in d) (sym (bind_named s differ n v x.globals) ∙ ap (named (name_at s)) (sym is));
  }

  pub bound_outside : (p : Program) (t : StoreState) (x q : Place) (n : ℕ) (v : Value) (es : List (ℕ × Value)) → q ≡ x → is_local (contexts_in s x) (name_at s n) ≡ false → es ≡ insert_entry nat_eq q.globals n v → Acts p s (BindName (name_at s n) v) t x t (record { globals = es; next_symbol = q.next_symbol; here = q.here; outer = q.outer }) IsDone
  bound_outside p t x q n v es same test is =
      let inside : is_local (contexts_in s q) (name_at s n) ≡ false = ap (λ (z : Place). is_local (contexts_in s z) (name_at s n)) same ∙ test in
      subst (λ (z : Place). Acts p s (BindName (name_at s n) v) t z t (record { globals = es; next_symbol = q.next_symbol; here = q.here; outer = q.outer }) IsDone) same (bound_global p t q n v es inside is)

pub not_local : (s : Tables) (h : Option Context) (o : List Context) (n : ℕ) → h ≡ None → is_local (contexts_of s h o) (name_at s n) ≡ false
not_local s h o n none = ap (λ (g : Option Context). is_local (contexts_of s g o) (name_at s n)) none

pub not_here : (s : Tables) (h : Option Context) (o : List Context) (c : Context) (n : ℕ) → h ≡ Some c → list_any (bytes_eq (name_at s n)) (names_of s c.function) ≡ false → is_local (contexts_of s h o) (name_at s n) ≡ false
not_here s h o c n some test = ap (λ (g : Option Context). is_local (contexts_of s g o) (name_at s n)) some ∙ test
