use Rattle.std.proofs.Common.{subst}
use Rattle.widl_names.specs.KindNumbers.{AreCounts, AreNumbers}
use Rattle.widl_names.proofs.NameMeanings.{all_plain}
use Rattle.widl_names.proofs.resolver.Resolver.of.Goals as goal

pub invariant_of-result : goal.invariant_of-result
invariant_of-result c =
    let same = all_plain c.all.result.now c.args.meanings c.all.ensures in
    (subst (λ ds. AreNumbers ds c.in_ok-kinds.kinds.numbers.items) same c.in_ok-kinds.ensures.numbers, subst (λ ds. AreCounts ds c.in_ok-kinds.kinds.counts) same c.in_ok-kinds.ensures.counts, c.in_ok-ends.ensures)
