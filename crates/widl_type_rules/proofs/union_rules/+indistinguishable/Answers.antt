use Rattle.std.proofs.Common.{subst, sym}
use Rattle.std.specs.List.{All}
use Rattle.widl_idl.specs.Terms.{type_term}
use Rattle.widl_type_rules.specs.IndistinguishablePairs.{IsFlat}
use Rattle.widl_type_rules.proofs.FlatMembers.{member_flat}
use Rattle.widl_type_rules.proofs.union_rules.+indistinguishable.Goals as goal

pub have_indistinguishable-requires-clause-flat : goal.have_indistinguishable-requires-clause-flat
have_indistinguishable-requires-clause-flat t c = subst (All IsFlat) (sym c.in_ok-members-in-Union.ensures) (member_flat (type_term c.args.t.now))
