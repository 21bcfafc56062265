-- Each script has one trace.
use Rattle.std.proofs.Common.{◌≡◌, ℕ, ap, sym, refl, ◌∙◌, ◌++◌, map}
use Rattle.widl_dialog.specs.Runs.{Finish, Outcome}
use Rattle.widl_dialog.proofs.Ending.{ends}
use Rattle.widl_dialog.proofs.Running.{one_outcome}
use Rattle.widl_idl.specs.DefinitionTerms.{DefsTerm}
use Rattle.widl_store.specs.Realm.{realm_of}
use Rattle.widl_script_tree.specs.Trees.{ScriptTree}
use Rattle.widl_trace.specs.EventLines.{line_of}
use Rattle.widl_runs.specs.Ends.{JobEnd}
use Rattle.widl_runs.specs.declared.stop.Stop.{Stop}
use Rattle.widl_runs.specs.Worlds.{World}
use Rattle.widl_runs.specs.Actions.{act}
use Rattle.widl_runs.specs.Jobs.{Program, Doing}
use Rattle.widl_runs.specs.Rules.{rule}
use Rattle.widl_runs.specs.Traces.{whole, first_world, stop_events, ending_of}
use Rattle.widl_runs.specs.Laws.{HasOneOutcome, Traced, HasOneTrace}
use Rattle.widl_runs.proofs.Ranks.{ranks}
use Rattle.widl_runs.proofs.Leaving.{units_of, calming}

pub some_outcome : (p : Program) (d : Doing) (w : World) → Outcome (rule p) (act p.list) d w
some_outcome p d w = ends (rule p) (act p.list) units_of (ranks p.list) (calming p) d w

pub has_one_outcome : (p : Program) (d : Doing) (w : World) → HasOneOutcome p d w
has_one_outcome p d w = record { some = some_outcome p d w; one = λ v v' f f' x y. one_outcome (rule p) (act p.list) x y }

-- the lines and the end, by where the run ends and how it finishes
same_lines : (list : DefsTerm) (v v' : World) (f f' : Finish JobEnd Stop) → v ≡ v' → f ≡ f' → map (line_of list) (v.lines ++ stop_events f) ≡ map (line_of list) (v'.lines ++ stop_events f')
same_lines list v v' f f' e g = ap (λ (u : World). map (line_of list) (u.lines ++ stop_events f)) e ∙ ap (λ (h : Finish JobEnd Stop). map (line_of list) (v'.lines ++ stop_events h)) g

traced : (list : DefsTerm) (script : ScriptTree) (budget : ℕ) → Traced list script budget
traced list script budget =
    let p : Program = record { list = list; script = script } in
    let o = some_outcome p (whole p) (first_world (realm_of list) budget) in
    record {
      lines = map (line_of list) (o.world.lines ++ stop_events o.finish);
      end = ending_of o.finish;
      trace = record { world = o.world; finish = o.finish; runs = o.does; written = refl; ended = refl };
    }

pub has_one_trace : (list : DefsTerm) (script : ScriptTree) (budget : ℕ) → HasOneTrace list script budget
has_one_trace list script budget = record {
  some = traced list script budget;
  one = λ lines lines' end end' x y.
      let p : Program = record { list = list; script = script } in
      let same = one_outcome (rule p) (act p.list) x.runs y.runs in
      (x.written ∙ same_lines list x.world y.world x.finish y.finish same.0 same.1 ∙ sym y.written, x.ended ∙ ap ending_of same.1 ∙ sym y.ended);
}
