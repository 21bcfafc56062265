use Rattle.std.proofs.Common.{arith, length, sym, ap, ◌∙◌}
use Rattle.std.proofs.lemmas.Grind.{common_steps}
use Rattle.widl_idl.specs.DefinitionTerms.{defs_term}
use Rattle.widl_value.specs.IdlTerms.{idl_term}
use Rattle.widl_trace.specs.Unfinished.{labelled}
use Rattle.widl_trace.proofs.UnfinishedTexts.{end_left, next_left, nothing_left, place_within}
use Rattle.widl_trace.proofs.idl_value_text.push_items.Goals as goal

pub returns-in_err-push_front-clause-front : goal.returns-in_err-push_front-clause-front
returns-in_err-push_front-clause-front c =
    let next = ap length (next_left (defs_term c.args.defs.now) c.loop-value.begun (idl_term c.in-Some.value.now) (sym (c.in-Some.ensures.value (defs_term c.args.defs.now)))) in
    let same = ap length c.loop-value.invariant.0 in
    grind (arith, common_steps, next, same)

pub returns-in_err-push_head-clause-front : goal.returns-in_err-push_head-clause-front
returns-in_err-push_head-clause-front c =
    let next = ap length (next_left (defs_term c.args.defs.now) c.loop-value.begun (idl_term c.in-Some.value.now) (sym (c.in-Some.ensures.value (defs_term c.args.defs.now)))) in
    let same = ap length c.loop-value.invariant.0 in
    grind (arith, common_steps, next, same)

pub returns-then-is_some-clause-front : goal.returns-then-is_some-clause-front
returns-then-is_some-clause-front c =
    let next = next_left (defs_term c.args.defs.now) c.loop-value.begun (idl_term c.in-Some.value.now) (sym (c.in-Some.ensures.value (defs_term c.args.defs.now))) in
    let whole = c.of-inner.ensures.whole (defs_term c.args.defs.now) in
    grind (arith, common_steps, next, whole)

pub loop-value-smaller : goal.loop-value-smaller
loop-value-smaller c =
    let within = place_within (labelled (defs_term c.args.defs.now) c.loop-value.begun.contents) c.loop-value.begun.place (idl_term c.in-Some.value.now) (sym (c.in-Some.ensures.value (defs_term c.args.defs.now))) in
    omega (arith, within)

pub loop-value-preserved : goal.loop-value-preserved
loop-value-preserved c =
    let next = next_left (defs_term c.args.defs.now) c.loop-value.begun (idl_term c.in-Some.value.now) (sym (c.in-Some.ensures.value (defs_term c.args.defs.now))) in
    let whole = c.of-inner.ensures.whole (defs_term c.args.defs.now) in
    let none = nothing_left (defs_term c.args.defs.now) c.of-inner.result (sym c.is_some.ensures ∙ c.if-is_some.false) in
    grind (arith, common_steps, next, whole, none)

pub returns-clause-ended : goal.returns-clause-ended
returns-clause-ended c = λ none. end_left (defs_term c.args.defs.now) c.loop-value.begun (sym (c.in_default.ensures.value (defs_term c.args.defs.now)))
