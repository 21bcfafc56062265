-- The lines of a world only grow, and are paid.
use Rattle.std.proofs.Common.{◌≡◌, ◌+◌, ◌-◌, ◌≤◌, Bool, true, false, List, [], ◌∷◌, ◌++◌, length, sum_by, arith, refl, sym, ap, ◌∙◌, append-nil, if◌then◌else◌}
use Rattle.std.specs.Prelude.{nat_lt}
use Rattle.std.proofs.lemmas.Bool.{ltb-false}
use Rattle.std.proofs.lemmas.List.Sums.{sum_by-append}
use Rattle.widl_dialog.specs.Kept.{Grown, Holds}
use Rattle.widl_dialog.specs.Runs.{Did, Went, Stops}
use Rattle.widl_dialog.proofs.Keeping.{runs_keep, grows}
use Rattle.widl_text.specs.Limits.{most_open_calls}
use Rattle.widl_idl.specs.DefinitionTerms.{DefsTerm}
use Rattle.widl_value.specs.declared.value.Value.{Value}
use Rattle.widl_store.specs.Objects.{Obj, own_at}
use Rattle.widl_store.specs.Effects.{put_in, defined, delete_of, deleted}
use Rattle.widl_script_tree.specs.Trees.{Text}
use Rattle.widl_trace.specs.EventTerms.{EventTerm}
use Rattle.widl_runs.specs.declared.stop.Stop.{Stop}
use Rattle.widl_runs.specs.declared.stop.Stop.TheVariants as stops
use Rattle.widl_runs.specs.Worlds.{World, is_local, with_local, with_value}
use Rattle.widl_runs.specs.Actions.{Action, Pay, Write, TestDepth, Enter, Leave, FindBody, ReadThis, ReadName, BindName, TakeSymbol, AddObject, FindProperty, PutProperty, DefineProperty, DeleteProperty, FindKeys, FindOwn, FindInner, ChangePart, Reach, Reply, IsDone, event_cost, put_result, define_result, is_put, is_made, with_store, act}
use Rattle.widl_runs.specs.Jobs.{Program}
use Rattle.widl_runs.specs.Rules.{rule}
use Rattle.widl_runs.specs.Laws.{LinesGrow, LinesArePaid, cost_of_lines}

-- an action that leaves lines and units as they are, that takes units, or that writes a line and takes its cost
pub record Unwritten (w v : World) : Type 0 where
  pub lines : v.lines ≡ w.lines
  pub units : v.units ≡ w.units

made_unwritten : (b : Bool) (w : World) (objects : List Obj) → Unwritten w (if b then with_store w objects else w)
made_unwritten true w objects = record { lines = refl; units = refl }
made_unwritten false w objects = record { lines = refl; units = refl }

bound_unwritten : (b : Bool) (w : World) (name : Text) (v : Value) → Unwritten w (if b then record w { contexts = with_local w.contexts name v } else record w { globals = with_value w.globals name v })
bound_unwritten true w name v = record { lines = refl; units = refl }
bound_unwritten false w name v = record { lines = refl; units = refl }

module _ (list : DefsTerm) (Kept : World → World → Type 0) (unwritten : (w v : World) → Unwritten w v → Kept w v) (pays : (w : World) → Kept w (record w { units = w.units - 1 })) (writes : (w : World) (e : EventTerm) → nat_lt w.units (event_cost list e) ≡ false → Kept w (record w { units = w.units - event_cost list e; lines = w.lines ++ e ∷ [] })) where
  abbrev IsKept : World → Did World Reply Stop → Type 0
  IsKept = Holds Kept

  pay_kept : (b : Bool) (w : World) → IsKept w (if b then Stops stops.Budget else Went (record w { units = w.units - 1 }) IsDone)
  pay_kept true w = tt
  pay_kept false w = pays w

  write_kept : (b : Bool) (w : World) (e : EventTerm) → nat_lt w.units (event_cost list e) ≡ b → IsKept w (if b then Stops stops.Budget else Went (record w { units = w.units - event_cost list e; lines = w.lines ++ e ∷ [] }) IsDone)
  write_kept true w e test = tt
  write_kept false w e test = writes w e test

  deep_kept : (b : Bool) (w : World) → IsKept w (if b then Went w IsDone else Stops stops.Depth)
  deep_kept true w = unwritten w w (record { lines = refl; units = refl })
  deep_kept false w = tt

  same_kept : (w v : World) → v.lines ≡ w.lines → v.units ≡ w.units → Kept w v
  same_kept w v e f = unwritten w v (record { lines = e; units = f })

  pub each_keeps : (q : Action) (w : World) → Holds Kept w (act list q w)
  each_keeps Pay w = pay_kept (nat_lt w.units 1) w
  each_keeps (Write event) w = write_kept (nat_lt w.units (event_cost list event)) w event refl
  each_keeps TestDepth w = deep_kept (nat_lt (length w.contexts) most_open_calls) w
  each_keeps (Enter context) w = same_kept w _ refl refl
  each_keeps Leave w = same_kept w _ refl refl
  each_keeps (FindBody object) w = same_kept w _ refl refl
  each_keeps ReadThis w = same_kept w _ refl refl
  each_keeps (ReadName name) w = same_kept w _ refl refl
  each_keeps (BindName name v) w = unwritten w _ (bound_unwritten (is_local w.contexts name) w name v)
  each_keeps TakeSymbol w = same_kept w _ refl refl
  each_keeps (AddObject new) w = same_kept w _ refl refl
  each_keeps (FindProperty object key) w = same_kept w _ refl refl
  each_keeps (PutProperty object key v) w = unwritten w _ (made_unwritten (is_put (put_result w.store.objects object key v)) w (put_in w.store.objects object.id key v))
  each_keeps (DefineProperty object key prop) w = unwritten w _ (made_unwritten (is_made (define_result w.store.objects object key)) w (defined w.store.objects object.id key prop))
  each_keeps (DeleteProperty object key) w = unwritten w _ (made_unwritten (is_made (delete_of (own_at w.store.objects object.id key))) w (deleted w.store.objects object.id key))
  each_keeps (FindKeys object) w = same_kept w _ refl refl
  each_keeps (FindOwn object key) w = same_kept w _ refl refl
  each_keeps (FindInner object) w = same_kept w _ refl refl
  each_keeps (ChangePart object change) w = same_kept w _ refl refl
  each_keeps (Reach end) w = tt

abbrev pub lines_of : World → List EventTerm
lines_of w = w.lines

pub adds_lines : (list : DefsTerm) (q : Action) (w : World) → Holds (Grown lines_of) w (act list q w)
adds_lines list = each_keeps list (Grown lines_of) (λ w v u. ([], u.lines ∙ sym (append-nil w.lines))) (λ w. ([], sym (append-nil w.lines))) (λ w e test. (e ∷ [], refl))

pub lines_grow : (p : Program) → LinesGrow p
lines_grow p d w v f x = grows (rule p) (act p.list) lines_of (adds_lines p.list) x

-- what the lines cost and the units that are left are together no more
abbrev IsPaid : DefsTerm → World → World → Type 0
IsPaid list w v = cost_of_lines list v + v.units ≤ cost_of_lines list w + w.units

same_paid : (list : DefsTerm) (w v : World) → Unwritten w v → IsPaid list w v
same_paid list w v u = let e = ap (sum_by (event_cost list)) u.lines in omega (arith, e, u.units)

write_paid : (list : DefsTerm) (w : World) (e : EventTerm) → nat_lt w.units (event_cost list e) ≡ false → IsPaid list w (record w { units = w.units - event_cost list e; lines = w.lines ++ e ∷ [] })
write_paid list w e test =
    let enough = ltb-false w.units (event_cost list e) test in
    let added = sum_by-append (event_cost list) w.lines (e ∷ []) in
    omega (arith, enough, added)

pub lines_are_paid : (p : Program) → LinesArePaid p
lines_are_paid p = runs_keep (rule p) (act p.list) (IsPaid p.list) (record {
  same = λ w. omega arith;
  goes_on = λ u v w x y. omega (arith, x, y);
  holds = each_keeps p.list (IsPaid p.list) (same_paid p.list) (λ w. omega arith) (write_paid p.list);
})
