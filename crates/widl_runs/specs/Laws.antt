-- The laws of runs, each a statement about all of them. The functions of `laws` have them as contracts.
-- Source: this program's own.
use Rattle.std.specs.Prelude.{◌≡◌, ℕ, ◌+◌, ◌^◌, ◌<◌, ◌≤◌, List, length, sum_by}
use Rattle.widl_dialog.specs.Runs.{Finish, Outcome}
use Rattle.widl_dialog.specs.Kept.{Grown}
use Rattle.widl_idl.specs.DefinitionTerms.{DefsTerm}
use Rattle.widl_store.specs.Realm.{realm_of}
use Rattle.widl_script_tree.specs.Trees.{ScriptTree}
use Rattle.widl_runs.specs.Ends.{JobEnd}
use Rattle.widl_runs.specs.declared.stop.Stop.{Stop}
use Rattle.widl_runs.specs.Worlds.{World}
use Rattle.widl_runs.specs.Actions.{act, event_cost}
use Rattle.widl_runs.specs.Jobs.{Program, Job, Doing}
use Rattle.widl_runs.specs.Rules.{rule}
use Rattle.widl_runs.specs.Traces.{Run, whole, first_world, Ending, IsTrace, left_of, taken_in}
use Rattle.widl_runs.specs.Fitting.{IsRunnable, KeepsFitting}

-- the steps have an outcome in the world, whichever they are, and no other one
pub record HasOneOutcome (p : Program) (d : Doing) (w : World) : Type 0 where
  pub some : Outcome (rule p) (act p.list) d w
  pub one : (v v' : World) (f f' : Finish JobEnd Stop) → Run p d w v f → Run p d w v' f' → (v ≡ v') × (f ≡ f')

-- a trace, with its lines and its end
pub record Traced (list : DefsTerm) (script : ScriptTree) (budget : ℕ) : Type 0 where
  pub lines : List (List ℕ)
  pub end : Ending
  pub trace : IsTrace list script budget lines end

-- there is a trace, and each other one is the same
pub record HasOneTrace (list : DefsTerm) (script : ScriptTree) (budget : ℕ) : Type 0 where
  pub some : Traced list script budget
  pub one : (lines lines' : List (List ℕ)) (end end' : Ending) → IsTrace list script budget lines end → IsTrace list script budget lines' end' → (lines ≡ lines') × (end ≡ end')

-- whatever is done, the lines that are written stay, and none comes between them
abbrev pub LinesGrow : Program → Type 0
LinesGrow p = (d : Doing) (w v : World) (f : Finish JobEnd Stop) → Run p d w v f → Grown (λ (x : World). x.lines) w v

-- what the lines of a world cost together
abbrev pub cost_of_lines : DefsTerm → World → ℕ
cost_of_lines list w = sum_by (event_cost list) w.lines

-- whatever is done, the lines that it writes cost no more than the units that it takes
abbrev pub LinesArePaid : Program → Type 0
LinesArePaid p = (d : Doing) (w v : World) (f : Finish JobEnd Stop) → Run p d w v f → cost_of_lines p.list v + v.units ≤ cost_of_lines p.list w + w.units

abbrev pub count_of_objects : World → ℕ
count_of_objects w = length w.store.objects

-- a job adds no more objects than the units that it takes
abbrev pub ObjectsArePaid : Program → Type 0
ObjectsArePaid p = (j : Job) (w v : World) (f : Finish JobEnd Stop) → Run p (rule p j) w v f → count_of_objects v + v.units ≤ count_of_objects w + w.units

-- nor objects and symbols together
abbrev pub SymbolsArePaid : Program → Type 0
SymbolsArePaid p = (j : Job) (w v : World) (f : Finish JobEnd Stop) → Run p (rule p j) w v f → count_of_objects v + v.next_symbol + v.units ≤ count_of_objects w + w.next_symbol + w.units

-- a whole run adds no more objects and symbols together than the units that it takes, and has at most one line more than that
pub record IsPaidFor {list : DefsTerm} {script : ScriptTree} {budget : ℕ} {lines : List (List ℕ)} {end : Ending} (trace : IsTrace list script budget lines end) : Type 0 where
  pub few_objects : length (left_of trace).objects ≤ length (realm_of list).objects + taken_in trace
  pub few_symbols : length (left_of trace).objects + trace.world.next_symbol ≤ length (realm_of list).objects + 3 + taken_in trace
  pub few_lines : length lines ≤ taken_in trace + 1

abbrev pub TracesArePaid : DefsTerm → ScriptTree → ℕ → Type 0
TracesArePaid list script budget = (lines : List (List ℕ)) (end : Ending) (trace : IsTrace list script budget lines end) → IsPaidFor trace

-- Where the functions of a script are there, its rows are short and no step throws an object, and all objects and symbols that the budget
-- pays for have numbers of 32 bits, each place that the script's run comes to fits: what an action names is live, there is room for what it
-- adds, and a call has few arguments.
abbrev pub ScriptsFit : Program → ℕ → Type 0
ScriptsFit p budget = IsRunnable p.script → length (realm_of p.list).objects + 3 + budget < 2 ^ 32 → KeepsFitting p (whole p) (first_world (realm_of p.list) budget)
