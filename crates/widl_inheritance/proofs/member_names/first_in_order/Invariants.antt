use Rattle.std.proofs.Common.{map}
use Rattle.widl_idl.specs.DefinitionTerms.{dict_term}
use Rattle.widl_inheritance.specs.MemberEnds.{end_of}
use Rattle.widl_inheritance.proofs.Inheriting.{Visited}
use Rattle.widl_inheritance.proofs.member_names.first_in_order.Given as goal

abbrev pub invariant-loop-number : goal.invariant-loop-number
invariant-loop-number l = Visited (map dict_term l.dicts) l.spans.by_node.items l.spans.order.items (end_of l.ends) l.number-index l.best
