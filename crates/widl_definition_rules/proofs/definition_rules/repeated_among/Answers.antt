use Rattle.std.proofs.Common.{arith, rules}
use Rattle.widl_idl.specs.PlainTrees.{PlainEnumerationValue, enumeration_value_of}
use Rattle.widl_names.specs.KnownTexts.{has_text}
use Rattle.widl_definition_rules.proofs.RepeatedTexts.{nothing_repeated, repeated_end, repeated_step}
use Rattle.widl_definition_rules.proofs.definition_rules.repeated_among.Goals as goal

pub loop-value-init : goal.loop-value-init
loop-value-init c = nothing_repeated (λ (x : PlainEnumerationValue). x.text) (λ (x : PlainEnumerationValue). x.at) (has_text c.new-known.result) (λ t. search rules)

pub loop-value-preserved : goal.loop-value-preserved
loop-value-preserved c =
    repeated_step (λ (x : PlainEnumerationValue). x.text) (λ (x : PlainEnumerationValue). x.at) (has_text c.loop-value.known) enumeration_value_of c.args.values.now c.loop-value.value-index c.value-item.result c.as_str.result.now (has_text c.note_text.new.known)
    c.loop-value.best c.in_ok-found.found c.earlier_violation-best.result (omega arith) c.value-item.is (search rules) c.in_ok-found.ensures.adds c.in_ok-found.ensures.found c.earlier_violation-best.ensures c.loop-value.invariant

pub returns : goal.returns
returns c = repeated_end (λ (x : PlainEnumerationValue). x.text) (λ (x : PlainEnumerationValue). x.at) (has_text c.loop-value.known) enumeration_value_of c.args.values.now c.loop-value.value-index c.loop-value.best (omega arith) c.loop-value.invariant
