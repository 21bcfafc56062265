-- For proofs alone. An inner part that is changed, and one that a change leaves as it is.
use Rattle.std.proofs.Common.{◌≡◌, ℕ, zero, suc, List, [], ◌∷◌, Option, Some, None, refl, sym, ◌∙◌, ap}
use Rattle.std.specs.Prelude.{slice_get, slice_set}
use Rattle.std.specs.Option.{option_map, option_map_or}
use Rattle.widl_dialog.specs.Runs.{Went}
use Rattle.widl_value.specs.declared.object.ObjRef.{ObjRef}
use Rattle.widl_script_tree.specs.Tables.{Tables}
use Rattle.widl_store.specs.Effects.{with_inner, with_part}
use Rattle.widl_store.specs.Inners.{InnerTerm, InnerKind, kind_of}
use Rattle.widl_store.specs.Objects.{Obj, StoreState, with_objects}
use Rattle.widl_steps.specs.declared.ask.Change.{Change}
use Rattle.widl_steps.specs.AskTerms.{ChangeTerm, change_term}
use Rattle.widl_runs.specs.Actions.{IsDone, changed_part, inner_at, with_change}
use Rattle.widl_runs.specs.Jobs.{Program, nothing}
use Rattle.widl_engine.specs.declared.contexts.Place.{Place}
use Rattle.widl_engine.specs.declared.due.Due.TheVariants as due
use Rattle.widl_engine.specs.declared.moves.Move.{Move}
use Rattle.widl_engine.specs.Frames.{move_of}
use Rattle.widl_engine.specs.Place.{Performed, world_of}
use Rattle.widl_engine.proofs.Acting.{Done, performed}

set_same : (objects : List Obj) (id : ℕ) (o : Obj) → slice_get objects id ≡ Some o → slice_set objects id o ≡ objects
set_same [] id o is = absurd (let bad : None ≡ Some o = is in cc)
set_same (x ∷ xs) zero o is = let one : x ≡ o = (let f : Some x ≡ Some o = is in cc) in ap (λ (y : Obj). y ∷ xs) (sym one)
set_same (x ∷ xs) (suc id) o is = ap (λ (ys : List Obj). x ∷ ys) (set_same xs id o is)

-- the objects by the inner part that is there
change_by : (objects : List Obj) (object : ObjRef) (change : ChangeTerm) (inner : InnerTerm) → inner_at objects object ≡ Some inner → with_change objects object change ≡ with_inner objects object.id (changed_part change inner)
change_by objects object change inner is = ap (λ (o : Option InnerTerm). option_map_or (λ x. with_inner objects object.id (changed_part change x)) o objects) is

-- an inner part that stays as it is
still_part : (objects : List Obj) (id : ℕ) (inner : InnerTerm) → option_map (λ (o : Obj). o.inner) (slice_get objects id) ≡ Some inner → with_inner objects id inner ≡ objects
still_part objects id inner is = by (slice_get objects id) refl is
  where
    by : (found : Option Obj) → slice_get objects id ≡ found → option_map (λ (o : Obj). o.inner) found ≡ Some inner → option_map_or (λ o. slice_set objects id (with_part o inner)) found objects ≡ objects
    by None at same = absurd (let bad : None ≡ Some inner = same in cc)
    by (Some o) at same =
        let part : o.inner ≡ inner = (let f : Some o.inner ≡ Some inner = same in cc) in
        ap (λ (i : InnerTerm). slice_set objects id (with_part o i)) (sym part) ∙ set_same objects id o at

stays : (objects : List Obj) (object : ObjRef) (change : ChangeTerm) (inner : InnerTerm) → inner_at objects object ≡ Some inner → changed_part change inner ≡ inner → objects ≡ with_change objects object change
stays objects object change inner is still =
    sym (change_by objects object change inner is ∙ ap (with_inner objects object.id) still ∙ still_part objects object.id inner is)

-- in the world of a place
change_performed : (p : Program) (s : Tables) (t u : StoreState) (x : Place) (object : ObjRef) (change : Change) (next : Move) → u ≡ with_objects t (with_change t.objects object (change_term change)) → move_of p s next ≡ nothing → Performed p s (due.Change object change) t x u x next
change_performed p s t u x object change next is goes = performed IsDone (λ k ls. ap (λ (v : StoreState). let d : Done = Went (world_of s v x k ls) IsDone in d) (sym is)) goes

pub not_changed : (p : Program) (s : Tables) (t : StoreState) (x : Place) (object : ObjRef) (change : Change) (next : Move) (inner : InnerTerm) → inner_at t.objects object ≡ Some inner → changed_part (change_term change) inner ≡ inner → move_of p s next ≡ nothing → Performed p s (due.Change object change) t x t x next
not_changed p s t x object change next inner is still goes = change_performed p s t t x object change next (ap (with_objects t) (stays t.objects object (change_term change) inner is still)) goes

pub changed_to : (p : Program) (s : Tables) (t u : StoreState) (x : Place) (object : ObjRef) (change : Change) (next : Move) (inner new : InnerTerm) → inner_at t.objects object ≡ Some inner → changed_part (change_term change) inner ≡ new → u ≡ with_objects t (with_inner t.objects object.id new) → move_of p s next ≡ nothing → Performed p s (due.Change object change) t x u x next
changed_to p s t u x object change next inner new is changed done goes =
    change_performed p s t u x object change next (done ∙ ap (with_objects t) (sym (change_by t.objects object (change_term change) inner is ∙ ap (with_inner t.objects object.id) changed))) goes

-- an object's kind by its inner part
pub kind_by : (o : Option Obj) (inner : InnerTerm) (kind : InnerKind) → option_map (λ (x : Obj). x.inner) o ≡ Some inner → kind_of inner ≡ kind → option_map (λ (x : Obj). kind_of x.inner) o ≡ Some kind
kind_by None inner kind is same = absurd (let bad : None ≡ Some inner = is in cc)
kind_by (Some o) inner kind is same = ap Some (ap kind_of (let f : Some o.inner ≡ Some inner = is in let e : o.inner ≡ inner = cc in e) ∙ same)
