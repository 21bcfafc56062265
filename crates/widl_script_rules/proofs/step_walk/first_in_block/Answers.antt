use Rattle.std.proofs.Common.{◌∙◌, List, sym}
use Rattle.std.proofs.lemmas.Result.{IfOk-weaker}
use Rattle.widl_first.specs.Keys.{IsFirst}
use Rattle.widl_idl.specs.DefinitionTerms.{DefsTerm}
use Rattle.widl_lines.specs.TextBreaks.{Line}
use Rattle.widl_script_rules.specs.FormedLines.{IsFormed}
use Rattle.widl_script_rules.specs.LeastBreak.{place_key}
use Rattle.widl_script_rules.specs.Lookups.{overload_term}
use Rattle.widl_script_rules.specs.StepWalks.{InLine, InStep, IsFor}
use Rattle.widl_script_rules.specs.Surroundings.{plain_line}
use Rattle.widl_script_rules.specs.ListLookups.{AreListTables}
use Rattle.widl_script_rules.proofs.StepWalks.{block_line, step_line, step_runs}
use Rattle.widl_script_rules.proofs.step_walk.first_in_block.Goals as goal

pub returns-then-is_block_line : goal.returns-then-is_block_line
returns-then-is_block_line c = λ list around known f formed. block_line list around (plain_line c.args.line.now) (sym c.is_block_line.ensures ∙ c.if-is_block_line.true)

pub returns : goal.returns
returns c =
    let line = plain_line c.args.line.now in
    let v = overload_term c.args.overload in
    let step = c.in_ok-step.step in
    IfOk-weaker c.first_in_step.result (λ first. (list : DefsTerm) → AreListTables list c.args.tables.now → IsFirst place_key (InStep list v line step) first)
    (λ first. (list : DefsTerm) (around : List Line) → AreListTables list c.args.tables.now → IsFor list around v → IsFormed around line → IsFirst place_key (InLine list around line) first)
    (λ first h list around known f formed. step_line list around line v step first f (c.in_ok-step.ensures (step_runs list around line v f formed)) (h list known))
    c.first_in_step.ensures
