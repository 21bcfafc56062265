use Rattle.std.proofs.Common.{map, take}
use Rattle.widl_idl.specs.DefinitionTerms.{member_term}
use Rattle.widl_inheritance.specs.MemberEnds.{end_of}
use Rattle.widl_inheritance.proofs.Keeping.{MembersKept}
use Rattle.widl_inheritance.proofs.member_names.keep_members.Given as goal

abbrev pub invariant-loop-member : goal.invariant-loop-member
invariant-loop-member l = MembersKept (end_of l.fn.ends) (end_of l.ends) l.span.start l.span.past (map member_term (take l.member-index l.members)) l.best
