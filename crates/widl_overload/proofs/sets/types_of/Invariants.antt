use Rattle.std.proofs.Common.{◌≡◌, take, map}
use Rattle.widl_idl.specs.DefinitionTerms.{arg_term}
use Rattle.widl_idl.specs.Terms.{type_terms}
use Rattle.widl_overload.specs.sets.Sets.{declared_types}
use Rattle.widl_overload.proofs.sets.types_of.Given as goal

abbrev pub invariant-loop-arg : goal.invariant-loop-arg
invariant-loop-arg l = type_terms l.types ≡ declared_types (map arg_term (take l.arg-index l.args))
