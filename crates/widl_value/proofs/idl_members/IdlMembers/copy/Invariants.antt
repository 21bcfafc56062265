use Rattle.std.proofs.Common.{◌≡◌, take, map}
use Rattle.widl_value.specs.IdlTerms.{member_term, member_terms}
use Rattle.widl_value.proofs.idl_members.IdlMembers.copy.Given as goal

abbrev pub invariant-loop-member : goal.invariant-loop-member
invariant-loop-member l = member_terms l.copy ≡ map member_term (take l.member-index l.member-items)
