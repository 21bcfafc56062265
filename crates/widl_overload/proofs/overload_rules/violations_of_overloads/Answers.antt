use Rattle.std.proofs.Common.{arith, subst, sym, map}
use Rattle.std.proofs.lemmas.List.{length-map}
use Rattle.widl_idl.specs.DefinitionTerms.{defs_term, sig_term}
use Rattle.widl_overload.specs.rules.OverloadRules.{DifferEarly, LacksIndex}
use Rattle.widl_overload.specs.sets.Spans.{AreSpans}
use Rattle.widl_overload.proofs.OnlyViolations.{callee_violation}
use Rattle.widl_overload.proofs.ViolationSteps.{none_indistinguishable_beyond, none_early_beyond, violations_of_few}
use Rattle.widl_overload.proofs.overload_rules.violations_of_overloads.Goals as goal

pub returns-then-sigs-lt2 : goal.returns-then-sigs-lt2
returns-then-sigs-lt2 c = violations_of_few (defs_term c.args.defs.now).ifaces (map sig_term c.args.sigs.now) c.none.result (omega (arith, length-map c.args.sigs.now sig_term, c.if-sigs-lt2.true)) c.none.ensures

pub returns : goal.returns
returns c =
    let ifaces = (defs_term c.args.defs.now).ifaces in
    let sigs = map sig_term c.args.sigs.now in
    let most = c.longest_list-most.result in
    let lengths = c.in_ok-lengths.lengths in
    record {
      indistinguishable = callee_violation (LacksIndex ifaces) sigs c.as_slice-2.result.now most lengths.indistinguishable c.in_ok-indistinguishable.indistinguishable c.longest_list-most.ensures.is (subst (AreSpans sigs) (sym c.as_slice-2.ensures) c.in_ok-spans.ensures) (λ m. none_indistinguishable_beyond ifaces sigs most m c.longest_list-most.ensures.is) c.in_ok-lengths.ensures.indistinguishable c.in_ok-indistinguishable.ensures;
      early = callee_violation (DifferEarly ifaces) sigs c.as_slice-3.result.now most lengths.early c.in_ok-early.early c.longest_list-most.ensures.is (subst (AreSpans sigs) (sym c.as_slice-3.ensures) c.in_ok-spans.ensures) (λ m. none_early_beyond ifaces sigs most m c.longest_list-most.ensures.is) c.in_ok-lengths.ensures.early c.in_ok-early.ensures;
    }
