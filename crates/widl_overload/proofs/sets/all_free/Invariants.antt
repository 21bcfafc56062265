use Rattle.std.proofs.Common.{◌≡◌, drop, map}
use Rattle.widl_idl.specs.DefinitionTerms.{arg_term}
use Rattle.widl_overload.specs.sets.Sets.{are_free, declared_opts}
use Rattle.widl_overload.proofs.sets.all_free.Given as goal

abbrev pub invariant-loop-place : goal.invariant-loop-place
invariant-loop-place l = are_free (declared_opts (map arg_term l.args)) ≡ are_free (declared_opts (drop l.place (map arg_term l.args)))
