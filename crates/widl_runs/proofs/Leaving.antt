-- What each action leaves of the units: less where it pays, and never more.
use Rattle.std.proofs.Common.{◌≡◌, ℕ, ◌-◌, ◌<◌, ◌≤◌, Bool, true, false, List, [], ◌∷◌, ◌++◌, length, arith, refl, if◌then◌else◌}
use Rattle.std.specs.Prelude.{nat_lt}
use Rattle.std.proofs.lemmas.Bool.{ltb-false}
use Rattle.widl_dialog.specs.Calm.{Leaves, Calming}
use Rattle.widl_dialog.specs.Runs.{Went, Stops}
use Rattle.widl_text.specs.Limits.{most_open_calls}
use Rattle.widl_idl.specs.DefinitionTerms.{DefsTerm}
use Rattle.widl_value.specs.declared.value.Value.{Value}
use Rattle.widl_store.specs.Objects.{Obj, own_at}
use Rattle.widl_store.specs.Effects.{put_in, defined, delete_of, deleted}
use Rattle.widl_script_tree.specs.Trees.{Text}
use Rattle.widl_runs.specs.declared.stop.Stop.{Stop}
use Rattle.widl_runs.specs.declared.stop.Stop.TheVariants as stops
use Rattle.widl_runs.specs.Worlds.{World, is_local, with_local, with_value}
use Rattle.widl_runs.specs.Actions.{Action, Pay, Write, TestDepth, Enter, Leave, FindBody, ReadThis, ReadName, BindName, TakeSymbol, AddObject, FindProperty, PutProperty, DefineProperty, DeleteProperty, FindKeys, FindOwn, FindInner, ChangePart, Reach, Reply, IsDone, event_cost, put_result, define_result, is_put, is_made, with_store, act}
use Rattle.widl_runs.specs.Jobs.{Program}
use Rattle.widl_runs.specs.Rules.{rule}
use Rattle.widl_runs.proofs.Ranks.{pays, ranks}
use Rattle.widl_runs.proofs.CalmJobs.{calm, spend}

abbrev pub units_of : World → ℕ
units_of w = w.units

paid_leaves : (b : Bool) (cost : ℕ) (w v : World) → 0 < cost → nat_lt w.units cost ≡ b → Leaves {A = Reply} {S = Stop} units_of true w (if b then Stops stops.Budget else Went (record v { units = w.units - cost }) IsDone)
paid_leaves true cost w v some test = tt
paid_leaves false cost w v some test = let enough = ltb-false w.units cost test in omega (arith, enough, some)

deep_leaves : (b : Bool) (w : World) → Leaves {A = Reply} {S = Stop} units_of false w (if b then Went w IsDone else Stops stops.Depth)
deep_leaves true w = omega arith
deep_leaves false w = tt

made_leaves : (b : Bool) (w : World) (objects : List Obj) → (if b then with_store w objects else w).units ≤ w.units
made_leaves true w objects = omega arith
made_leaves false w objects = omega arith

bound_leaves : (b : Bool) (w : World) (name : Text) (v : Value) → Leaves {A = Reply} {S = Stop} units_of false w (Went (if b then record w { contexts = with_local w.contexts name v } else record w { globals = with_value w.globals name v }) IsDone)
bound_leaves true w name v = omega arith
bound_leaves false w name v = omega arith

pub leaves : (list : DefsTerm) (q : Action) (w : World) → Leaves units_of (pays q) w (act list q w)
leaves list Pay w = paid_leaves (nat_lt w.units 1) 1 w w (omega arith) refl
leaves list (Write event) w = paid_leaves (nat_lt w.units (event_cost list event)) (event_cost list event) w (record w { lines = w.lines ++ event ∷ [] }) (omega arith) refl
leaves list TestDepth w = deep_leaves (nat_lt (length w.contexts) most_open_calls) w
leaves list (Enter context) w = omega arith
leaves list Leave w = omega arith
leaves list (FindBody object) w = omega arith
leaves list ReadThis w = omega arith
leaves list (ReadName name) w = omega arith
leaves list (BindName name v) w = bound_leaves (is_local w.contexts name) w name v
leaves list TakeSymbol w = omega arith
leaves list (AddObject new) w = omega arith
leaves list (FindProperty object key) w = omega arith
leaves list (PutProperty object key v) w = made_leaves (is_put (put_result w.store.objects object key v)) w (put_in w.store.objects object.id key v)
leaves list (DefineProperty object key prop) w = made_leaves (is_made (define_result w.store.objects object key)) w (defined w.store.objects object.id key prop)
leaves list (DeleteProperty object key) w = made_leaves (is_made (delete_of (own_at w.store.objects object.id key))) w (deleted w.store.objects object.id key)
leaves list (FindKeys object) w = omega arith
leaves list (FindOwn object key) w = omega arith
leaves list (FindInner object) w = omega arith
leaves list (ChangePart object change) w = omega arith
leaves list (Reach end) w = tt

pub calming : (p : Program) → Calming (rule p) (act p.list) units_of (ranks p.list)
calming p = record { leaves = leaves p.list; calm = calm p; spends = spend p }
