use Rattle.std.proofs.Common.{map, ap, arith, ◌∙◌}
use Rattle.std.proofs.lemmas.List.{take_all}
use Rattle.widl_idl.specs.Meanings.{meaning}
use Rattle.widl_idl.specs.PlainTrees.{plain_definitions}
use Rattle.widl_names.proofs.NameMeanings.{meaning_step}
use Rattle.widl_names.proofs.meanings.Meanings.of.Goals as goal

pub loop-number-preserved : goal.loop-number-preserved
loop-number-preserved c = λ text. meaning_step c.args.definitions.now c.loop-number.number c.index-definitions-number.result text _ _ (omega arith) c.index-definitions-number.is (c.loop-number.invariant text) (c.in_ok-add_definition.ensures text)

pub invariant_of-result : goal.invariant_of-result
invariant_of-result c = λ text. c.loop-number.invariant text ∙ ap (λ ds. meaning (plain_definitions (map (λ d. d.now) ds)) text) (take_all c.loop-number.number c.args.definitions.now (omega (arith, c.loop-number-test.false)))
