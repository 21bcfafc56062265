use Rattle.std.proofs.Common.{◌+◌}
use Rattle.widl_value.specs.Copies.{IsFront, source_term}
use Rattle.widl_value.proofs.StandingIn.{StandsIn, left_size, outer_size}
use Rattle.widl_value.proofs.copying.copy_within.Given as goal

abbrev pub invariant-loop-value : goal.invariant-loop-value
invariant-loop-value l = IsFront l.inmost × StandsIn l.outer.items (source_term l.inmost) (source_term l.fn.begun)

abbrev pub decreases-loop-value : goal.decreases-loop-value
decreases-loop-value l = left_size l.inmost + outer_size l.outer.items
