use Rattle.std.proofs.Common.{arith}
use Rattle.widl_idl.specs.PlainTrees.{definition_of, plain_definitions}
use Rattle.widl_idl.specs.MergingRules.{IsSecondDefinition}
use Rattle.widl_names.proofs.NameMeanings.{all_plain}
use Rattle.widl_names.proofs.Mapped.{next_at_one, all_at_one}
use Rattle.widl_merge.proofs.name_rules.first_second_definition.Goals as goal

pub loop-number-preserved : goal.loop-number-preserved
loop-number-preserved c = next_at_one (λ d. definition_of d.now) c.all-definitions.result.now (plain_definitions c.args.meanings.now) (all_plain _ _ c.all-definitions.ensures) IsSecondDefinition c.loop-number.number c.index-definitions-number.result c.loop-number.best c.second_definition-found.result _ (omega arith) c.index-definitions-number.is c.loop-number.invariant c.second_definition-found.ensures c.earlier_violation-best.ensures

pub returns : goal.returns
returns c = all_at_one (λ d. definition_of d.now) c.all-definitions.result.now (plain_definitions c.args.meanings.now) (all_plain _ _ c.all-definitions.ensures) IsSecondDefinition c.loop-number.number c.loop-number.best (omega arith) c.loop-number.invariant
