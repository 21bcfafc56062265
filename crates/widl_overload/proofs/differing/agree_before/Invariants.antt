use Rattle.std.proofs.Common.{map}
use Rattle.widl_idl.specs.DefinitionTerms.{sig_term}
use Rattle.widl_overload.specs.sets.Numbers.{NumbersAgreeBefore}
use Rattle.widl_overload.proofs.differing.agree_before.Given as goal

abbrev pub invariant-loop-place : goal.invariant-loop-place
invariant-loop-place l = NumbersAgreeBefore (map sig_term l.sigs) l.place l.overload l.other
