use Rattle.std.proofs.Common.{take, map}
use Rattle.std.specs.List.{All}
use Rattle.widl_idl.specs.DefinitionTerms.{sig_term}
use Rattle.widl_overload.specs.sets.Numbers.{NumbersAgreeBefore}
use Rattle.widl_overload.proofs.differing.differs_from_one.Given as goal

abbrev pub invariant-loop-other : goal.invariant-loop-other
invariant-loop-other l = All (NumbersAgreeBefore (map sig_term l.sigs) l.index l.first) (take l.other-index l.overloads)
