use Rattle.std.proofs.Common.{map, take}
use Rattle.widl_idl.specs.PlainTrees.{PlainEnumerationValue, enumeration_value_of}
use Rattle.widl_names.specs.KnownTexts.{has_text}
use Rattle.widl_definition_rules.proofs.RepeatedTexts.{Repeated}
use Rattle.widl_definition_rules.proofs.definition_rules.repeated_among.Given as goal

abbrev pub invariant-loop-value : goal.invariant-loop-value
invariant-loop-value l = Repeated (λ (x : PlainEnumerationValue). x.text) (λ (x : PlainEnumerationValue). x.at) (has_text l.known) (map enumeration_value_of (take l.value-index l.values)) l.best
