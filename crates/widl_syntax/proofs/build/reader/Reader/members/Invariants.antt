use Rattle.widl_syntax.specs.MemberLists.{members_rule}
use Rattle.widl_syntax.specs.UnparsedMembers.{member}
use Rattle.widl_syntax.proofs.Lists.{Goes}
use Rattle.widl_syntax.proofs.build.reader.Reader.members.Given as goal

abbrev pub invariant-loop : goal.invariant-loop
invariant-loop l = Goes (members_rule l.list) member l.fn.self l.self l.members l.counter
