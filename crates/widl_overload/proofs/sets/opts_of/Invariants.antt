use Rattle.std.proofs.Common.{◌≡◌, take, map}
use Rattle.widl_idl.specs.DefinitionTerms.{arg_term}
use Rattle.widl_overload.specs.sets.Sets.{declared_opts}
use Rattle.widl_overload.proofs.sets.opts_of.Given as goal

abbrev pub invariant-loop-arg : goal.invariant-loop-arg
invariant-loop-arg l = l.opts ≡ declared_opts (map arg_term (take l.arg-index l.args))
