use Rattle.std.proofs.Common.{arith, [], ◌∷◌, ◌++◌, sym, ap, subst, ◌∙◌}
use Rattle.std.specs.Prelude.{Some}
use Rattle.widl_value.specs.Copies.{IsBegun, IsFront, copied, source_term}
use Rattle.widl_value.specs.IdlTerms.{idl_term}
use Rattle.widl_value.proofs.StandingIn.{StandsIn, less_popped, less_whole, less_within, stands_pop, stands_push}
use Rattle.widl_value.proofs.copying.copy_within.Goals as goal

pub loop-value-smaller-in-Continue-branch-3 : goal.loop-value-smaller-in-Continue-branch-3
loop-value-smaller-in-Continue-branch-3 c =
    let less = less_whole c.loop-value.outer.items c.loop-value.inmost c.add.new.self (idl_term c.in-Some.value.now) (sym c.in-Some.ensures) c.in_ok-add-in-Whole.ensures.parts c.in_ok-add-in-Whole.ensures.copied in
    omega (arith, less)

pub loop-value-smaller-in-Continue-branch-4 : goal.loop-value-smaller-in-Continue-branch-4
loop-value-smaller-in-Continue-branch-4 c =
    let begun = subst (IsBegun (idl_term c.in-Some.value.now)) c.in-Within.is c.in_ok-copy-in-Some.ensures in
    let pushed = c.in_ok-push-in-Within.ensures.items ∙ ap (λ x. c.loop-value.outer.items ++ x ∷ []) c.replace.ensures.value in
    let less = less_within c.loop-value.outer.items c.push.new.self.items c.loop-value.inmost c.replace.new.dest (idl_term c.in-Some.value.now) (sym c.in-Some.ensures) (ap source_term c.replace.ensures.after ∙ begun.0) (ap copied c.replace.ensures.after ∙ begun.1) pushed in
    omega (arith, less)

pub loop-value-preserved-in-Continue-branch-4 : goal.loop-value-preserved-in-Continue-branch-4
loop-value-preserved-in-Continue-branch-4 c =
    let begun = subst (IsBegun (idl_term c.in-Some.value.now)) c.in-Within.is c.in_ok-copy-in-Some.ensures in
    let pushed = c.in_ok-push-in-Within.ensures.items ∙ ap (λ x. c.loop-value.outer.items ++ x ∷ []) c.replace.ensures.value in
    let inner = source_term c.replace.new.dest in
    let next = sym c.in-Some.ensures ∙ ap Some (sym (ap source_term c.replace.ensures.after ∙ begun.0)) in
    let stands = stands_push c.loop-value.outer.items c.loop-value.inmost inner (source_term c.args.begun) c.loop-value.invariant.1 c.loop-value.invariant.0 next in
    (subst IsFront (sym c.replace.ensures.after) begun.2, subst (λ items. StandsIn items inner (source_term c.args.begun)) (sym pushed) stands)

pub add-requires-in-None-clause-front : goal.add-requires-in-None-clause-front
add-requires-in-None-clause-front c =
    (stands_pop c.loop-value.outer.items c.pop.new.self.items c.in-Some-pop.next (source_term c.loop-value.inmost) (source_term c.args.begun) c.in-Some-pop.ensures.items c.loop-value.invariant.1).1

pub add-requires-in-None-clause-next : goal.add-requires-in-None-clause-next
add-requires-in-None-clause-next c =
    (stands_pop c.loop-value.outer.items c.pop.new.self.items c.in-Some-pop.next (source_term c.loop-value.inmost) (source_term c.args.begun) c.in-Some-pop.ensures.items c.loop-value.invariant.1).2
    ∙ ap Some (sym c.finish-copy.ensures)

pub loop-value-smaller : goal.loop-value-smaller
loop-value-smaller c =
    let less = less_popped c.loop-value.outer.items c.pop.new.self.items c.loop-value.inmost c.in-Some-pop.next c.add-in-None.new.self c.in-Some-pop.ensures.items c.in_ok-add-in-None.ensures.parts c.in_ok-add-in-None.ensures.copied in
    omega (arith, less)

pub loop-value-preserved : goal.loop-value-preserved
loop-value-preserved c =
    let pop = stands_pop c.loop-value.outer.items c.pop.new.self.items c.in-Some-pop.next (source_term c.loop-value.inmost) (source_term c.args.begun) c.in-Some-pop.ensures.items c.loop-value.invariant.1 in
    (c.in_ok-add-in-None.ensures.front, subst (λ inner. StandsIn c.pop.new.self.items inner (source_term c.args.begun)) (sym c.in_ok-add-in-None.ensures.source) pop.0)
