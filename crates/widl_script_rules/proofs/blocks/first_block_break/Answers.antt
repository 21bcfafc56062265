use Rattle.std.proofs.Common.{List, Option, subst, sym}
use Rattle.widl_idl.specs.DefinitionTerms.{defs_term}
use Rattle.widl_script_rules.specs.declared.targets.Opening.{Opening}
use Rattle.widl_script_rules.specs.BrokenRules.{BreaksBlocks, BreaksSteps, BreaksTargets}
use Rattle.widl_script_rules.specs.Lookups.{AreOpenings}
use Rattle.widl_script_rules.specs.Standings.{standings}
use Rattle.widl_script_rules.specs.Surroundings.{plain_lines}
use Rattle.widl_script_rules.specs.Targets.{LacksTarget, RepeatsTarget}
use Rattle.widl_script_rules.proofs.FormedLines.{formed}
use Rattle.widl_script_rules.proofs.LeastBreaks.{First, one_more}
use Rattle.widl_script_rules.proofs.StepWalks.{each_rule}
use Rattle.widl_script_rules.proofs.blocks.first_block_break.Goals as goal

pub openings-requires-clause-formed : goal.openings-requires-clause-formed
openings-requires-clause-formed c = formed (plain_lines c.args.lines.now) c.requires.formed

pub first_step_break-requires-clause-formed : goal.first_step_break-requires-clause-formed
first_step_break-requires-clause-formed c = formed (plain_lines c.args.lines.now) c.requires.formed

pub returns : goal.returns
returns c =
    let list = defs_term c.args.list.now in
    let lines = plain_lines c.args.lines.now in
    let script = standings lines in
    let known : AreOpenings list lines c.in_ok-opened.opened.items = c.in_ok-opened.ensures.each list c.in_ok-namespaces.ensures in
    let at_missing : AreOpenings list lines c.deref.result.now = subst (λ (all : List (Option Opening)). AreOpenings list lines all) (sym c.deref.ensures.value) known in
    let at_repeated : AreOpenings list lines c.deref-2.result.now = subst (λ (all : List (Option Opening)). AreOpenings list lines all) (sym c.deref-2.ensures.value) known in
    let at_step : AreOpenings list lines c.deref-3.result.now = subst (λ (all : List (Option Opening)). AreOpenings list lines all) (sym c.deref-3.ensures.value) known in
    let targets : First (BreaksTargets list script) c.first_of-target.result =
    subst (First (BreaksTargets list script)) (sym c.first_of-target.ensures)
    (one_more (LacksTarget list script) (RepeatsTarget list script) c.first_missing_target-missing.result c.in_ok-repeated.repeated
    (c.first_missing_target-missing.ensures list at_missing) (c.in_ok-repeated.ensures list at_repeated)) in
    subst (First (BreaksBlocks list script)) (sym c.first_of.ensures)
    (one_more (BreaksTargets list script) (BreaksSteps list script) c.first_of-target.result c.in_ok-step.step targets
    (each_rule list script c.in_ok-step.step (c.in_ok-step.ensures list c.in_ok-tables.ensures at_step)))
