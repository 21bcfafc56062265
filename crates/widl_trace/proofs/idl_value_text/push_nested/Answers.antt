use Rattle.std.proofs.Common.{rules, arith, ◌++◌, length, ap, ◌∙◌}
use Rattle.std.specs.Option.{is_some}
use Rattle.std.proofs.lemmas.Grind.{common_steps}
use Rattle.widl_idl.specs.DefinitionTerms.{defs_term}
use Rattle.widl_trace.proofs.UnfinishedTexts.{closed, closed_less, ends, less_left, opened}
use Rattle.widl_trace.proofs.idl_value_text.push_nested.Goals as goal

pub returns-in_err-inner : goal.returns-in_err-inner
returns-in_err-inner c =
    let same = ap length c.loop-inner.invariant.0 in
    grind (arith, common_steps, same)

pub loop-inner-smaller-in-Some : goal.loop-inner-smaller-in-Some
loop-inner-smaller-in-Some c =
    let all = opened (defs_term c.args.defs.now) _ c.in-Some.inner c.loop-inner.inmost c.push_items.new.begun c.loop-inner.outer.items c.push.new.self.items _ _ c.in-Some.is c.in_ok-inner.ensures.front.0 c.in_ok-push-in-Some.ensures.items in
    let less = less_left c.loop-inner.draft.bytes.items c.push_items.new.draft.bytes.items _ _ all (c.in_ok-inner.ensures.longer (ap is_some c.in-Some.is)) in
    omega (arith, less)

pub loop-inner-preserved-in-Some : goal.loop-inner-preserved-in-Some
loop-inner-preserved-in-Some c =
    let all = opened (defs_term c.args.defs.now) _ c.in-Some.inner c.loop-inner.inmost c.push_items.new.begun c.loop-inner.outer.items c.push.new.self.items _ _ c.in-Some.is c.in_ok-inner.ensures.front.0 c.in_ok-push-in-Some.ensures.items in
    (all ∙ c.loop-inner.invariant.0, search rules)

pub returns-in_err-push-in-None : goal.returns-in_err-push-in-None
returns-in_err-push-in-None c =
    let end = ap length (ends (defs_term c.args.defs.now) _ c.loop-inner.inmost c.push_items.new.begun _ _ c.in-None.is c.in_ok-inner.ensures.front.0 (c.in_ok-inner.ensures.ended c.in-None.is)) in
    let same = ap length c.loop-inner.invariant.0 in
    grind (arith, common_steps, end, same)

pub loop-inner-smaller : goal.loop-inner-smaller
loop-inner-smaller c =
    let less = closed_less (defs_term c.args.defs.now) c.loop-inner.inmost c.in-Some-pop.next c.loop-inner.outer.items c.pop.new.self.items c.in-Some-pop.ensures.items in
    omega (arith, less)

pub loop-inner-preserved : goal.loop-inner-preserved
loop-inner-preserved c =
    let end = ends (defs_term c.args.defs.now) _ c.loop-inner.inmost c.push_items.new.begun _ _ c.in-None.is c.in_ok-inner.ensures.front.0 (c.in_ok-inner.ensures.ended c.in-None.is) in
    let written = c.in_ok-push-in-None.ensures.0 ∙ ap (λ t. c.push_items.new.draft.bytes.items ++ t) c.end.ensures ∙ end in
    (closed (defs_term c.args.defs.now) c.loop-inner.inmost c.in-Some-pop.next c.loop-inner.outer.items c.pop.new.self.items c.loop-inner.draft.bytes.items _ written c.in-Some-pop.ensures.items ∙ c.loop-inner.invariant.0, search rules)
