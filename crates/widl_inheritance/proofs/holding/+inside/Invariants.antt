use Rattle.std.proofs.Common.{◌≡◌, ◌++◌, flat_map, take}
use Rattle.widl_idl.specs.Terms.{type_term}
use Rattle.widl_overload.specs.rules.Dictionaries.{dictionaries_in}
use Rattle.widl_inheritance.proofs.holding.+inside.Given as goal

abbrev pub invariant-add_inside_all-loop-ty : goal.invariant-add_inside_all-loop-ty
invariant-add_inside_all-loop-ty l = l.inside.items ≡ l.initial.inside.items ++ flat_map (λ t. dictionaries_in (type_term t)) (take l.ty-index l.types)
