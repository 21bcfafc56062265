use Rattle.std.proofs.Common.{◌≡◌, map, take}
use Rattle.widl_idl.specs.DefinitionTerms.{dict_term}
use Rattle.widl_overload.specs.rules.Dictionaries.{dictionary_parents}
use Rattle.widl_fits.proofs.required_members.parents.Given as goal

abbrev pub invariant-loop-dict : goal.invariant-loop-dict
invariant-loop-dict l = l.graph ≡ dictionary_parents (map dict_term (take l.dict-index l.dicts))
