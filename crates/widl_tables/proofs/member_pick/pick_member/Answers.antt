use Rattle.std.proofs.Common.{◌≡◌, rules, None, sym, ◌∙◌, arith}
use Rattle.widl_idl.specs.DefinitionTerms.{defs_term}
use Rattle.widl_idl.specs.Flattened.{flattened_members}
use Rattle.widl_idl.specs.Terms.{packed, type_terms}
use Rattle.widl_tables.specs.Decided.{met_step, steps}
use Rattle.widl_tables.proofs.Picking.{settled, steps_are_met, undecided}
use Rattle.widl_tables.proofs.member_pick.pick_member.Goals as goal

pub loop-step-init : goal.loop-step-init
loop-step-init c = steps_are_met (defs_term c.args.defs.now) c.args.class (flattened_members (packed (type_terms c.args.members.now))) c.args.probed

pub returns-in-Some : goal.returns-in-Some
returns-in-Some c =
    sym (settled (met_step (defs_term c.args.defs.now) c.args.class (flattened_members (packed (type_terms c.args.members.now)))) c.args.probed steps c.loop-step.step-index _ c.in-Some.pick (omega arith) (sym c.step_pick.ensures ∙ c.in-Some.is))
    ∙ c.loop-step.invariant

pub loop-step-preserved : goal.loop-step-preserved
loop-step-preserved c =
    let none : c.step_pick.result ≡ None = search rules in
    sym (undecided (met_step (defs_term c.args.defs.now) c.args.class (flattened_members (packed (type_terms c.args.members.now)))) c.args.probed steps c.loop-step.step-index _ (omega arith) (sym c.step_pick.ensures ∙ none))
    ∙ c.loop-step.invariant
