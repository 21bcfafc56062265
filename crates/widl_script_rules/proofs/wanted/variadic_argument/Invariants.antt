use Rattle.std.proofs.Common.{◌≡◌, map}
use Rattle.std.specs.Prelude.{find}
use Rattle.widl_idl.specs.DefinitionTerms.{ArgTerm, arg_term}
use Rattle.widl_script_rules.specs.Arguments.{is_variadic}
use Rattle.widl_script_rules.proofs.Finding.{find_from}
use Rattle.widl_script_rules.proofs.wanted.variadic_argument.Given as goal

abbrev pub invariant-loop-arg : goal.invariant-loop-arg
invariant-loop-arg l = find_from arg_term (λ (a : ArgTerm). is_variadic a.opt) l.args l.arg-index ≡ find (λ (a : ArgTerm). is_variadic a.opt) (map arg_term l.args)
