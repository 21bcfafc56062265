use Rattle.std.proofs.Common.{◌≡◌, true, arith, subst, map}
use Rattle.std.specs.List.{All}
use Rattle.std.proofs.lemmas.List.{take_all}
use Rattle.std.proofs.lemmas.List.Elements.{All-more}
use Rattle.widl_idl.specs.DefinitionTerms.{sig_term}
use Rattle.widl_overload.specs.sets.Numbers.{NumbersAgreeBefore}
use Rattle.widl_overload.proofs.DifferingTuples.{when_true}
use Rattle.widl_overload.proofs.differing.differs_from_one.Goals as goal

pub loop-other-preserved : goal.loop-other-preserved
loop-other-preserved c =
    let same : c.agree_before.result ≡ true = (let not = c.if-not-agree_before.false in cc) in
    All-more (NumbersAgreeBefore (map sig_term c.args.sigs.now) c.args.index c.args.first) c.args.overloads.now c.loop-other.other-index _ (omega arith) c.loop-other.invariant (when_true c.agree_before.result _ _ same c.agree_before.ensures)

pub returns : goal.returns
returns c = subst (All (NumbersAgreeBefore (map sig_term c.args.sigs.now) c.args.index c.args.first)) (take_all c.loop-other.other-index c.args.overloads.now (omega arith)) c.loop-other.invariant
