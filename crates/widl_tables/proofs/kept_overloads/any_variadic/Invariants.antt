use Rattle.std.proofs.Common.{◌≡◌, drop, map}
use Rattle.std.specs.List.{list_any}
use Rattle.widl_idl.specs.DefinitionTerms.{SigTerm, sig_term}
use Rattle.widl_overload.specs.sets.Entries.{is_variadic_list}
use Rattle.widl_tables.proofs.kept_overloads.any_variadic.Given as goal

abbrev pub invariant-loop-sig : goal.invariant-loop-sig
invariant-loop-sig l = list_any (λ (s : SigTerm). is_variadic_list s.args) (map sig_term l.sigs) ≡ list_any (λ (s : SigTerm). is_variadic_list s.args) (map sig_term (drop l.sig-index l.sigs))
