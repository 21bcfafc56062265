use Rattle.std.proofs.Common.{◌≡◌, map, take}
use Rattle.widl_idl.specs.DefinitionTerms.{dict_term}
use Rattle.widl_fits.specs.Required.{has_own}
use Rattle.widl_fits.proofs.required_members.own_flags.Given as goal

abbrev pub invariant-loop-dict : goal.invariant-loop-dict
invariant-loop-dict l = l.flags.items ≡ map has_own (map dict_term (take l.dict-index l.dicts))
