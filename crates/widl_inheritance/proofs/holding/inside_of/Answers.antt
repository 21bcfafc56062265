use Rattle.std.proofs.Common.{arith, flat_map, ap, ◌∙◌}
use Rattle.std.proofs.lemmas.List.{take_all}
use Rattle.widl_idl.specs.Terms.{type_term}
use Rattle.widl_overload.specs.rules.Dictionaries.{dictionaries_in}
use Rattle.widl_inheritance.proofs.HoldingNodes.{members_inside}
use Rattle.widl_inheritance.proofs.holding.inside_of.Goals as goal

pub returns : goal.returns
returns c = c.loop-member.invariant ∙ ap (flat_map (λ m. dictionaries_in (type_term m.ty))) (take_all c.loop-member.member-index c.as_slice-members.result.now (omega arith)) ∙ ap (flat_map (λ m. dictionaries_in (type_term m.ty))) c.as_slice-members.ensures ∙ members_inside c.args.dict.now.members
