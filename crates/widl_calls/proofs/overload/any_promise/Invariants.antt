use Rattle.std.proofs.Common.{◌≡◌, drop, map}
use Rattle.std.specs.List.{list_any}
use Rattle.widl_idl.specs.DefinitionTerms.{SigTerm, sig_term}
use Rattle.widl_steps.specs.Operations.{is_promise}
use Rattle.widl_calls.proofs.overload.any_promise.Given as goal

abbrev pub invariant-loop-sig : goal.invariant-loop-sig
invariant-loop-sig l = list_any (λ (s : SigTerm). is_promise s.returned) (map sig_term l.sigs) ≡ list_any (λ (s : SigTerm). is_promise s.returned) (map sig_term (drop l.sig-index l.sigs))
