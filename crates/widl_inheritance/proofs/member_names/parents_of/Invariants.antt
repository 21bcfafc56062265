use Rattle.std.proofs.Common.{◌≡◌, map, take}
use Rattle.widl_idl.specs.DefinitionTerms.{DictTerm, dict_term}
use Rattle.widl_inheritance.proofs.member_names.parents_of.Given as goal

abbrev pub invariant-loop-dict : goal.invariant-loop-dict
invariant-loop-dict l = l.parents.items ≡ map (λ (d : DictTerm). d.parent) (map dict_term (take l.dict-index l.dicts))
