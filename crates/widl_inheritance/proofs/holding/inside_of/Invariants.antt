use Rattle.std.proofs.Common.{◌≡◌, flat_map, take}
use Rattle.widl_idl.specs.Terms.{type_term}
use Rattle.widl_overload.specs.rules.Dictionaries.{dictionaries_in}
use Rattle.widl_inheritance.proofs.holding.inside_of.Given as goal

abbrev pub invariant-loop-member : goal.invariant-loop-member
invariant-loop-member l = l.inside.items ≡ flat_map (λ m. dictionaries_in (type_term m.ty)) (take l.member-index l.members)
