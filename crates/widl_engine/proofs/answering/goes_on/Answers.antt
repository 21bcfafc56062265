use Rattle.std.proofs.Common.{IfOk, subst, sym}
use Rattle.widl_script_tree.specs.Tables.{Tables}
use Rattle.widl_convert.specs.declared.outcome.Next.{Next}
use Rattle.widl_runs.specs.Jobs.{Program}
use Rattle.widl_engine.specs.Conversing.{IsNextMove}
use Rattle.widl_engine.proofs.answering.goes_on.Goals as goal

pub returns-in-Ask : goal.returns-in-Ask
returns-in-Ask c = subst (λ (n : Next). IfOk c.waits.result (λ m. (p : Program) (s : Tables) → IsNextMove p s c.args.asker.value n m)) (sym c.in-Ask.is) c.waits.ensures
