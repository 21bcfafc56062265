use Rattle.std.proofs.Common.{take}
use Rattle.widl_idl.specs.First.{AtOne, FirstWhere}
use Rattle.widl_overload.specs.rules.MemberRules.{HasKeptName}
use Rattle.widl_names.specs.Listings.{listed_members}
use Rattle.widl_member_rules.proofs.kept_names.first_kept_name.Given as goal

abbrev pub invariant-loop-member : goal.invariant-loop-member
invariant-loop-member l = FirstWhere (AtOne HasKeptName (listed_members (take l.member-index l.members))) l.best
