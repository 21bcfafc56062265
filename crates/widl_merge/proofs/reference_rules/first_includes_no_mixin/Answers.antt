use Rattle.std.proofs.Common.{arith, refl}
use Rattle.widl_idl.specs.PlainTrees.{definition_of, plain_definitions}
use Rattle.widl_idl.specs.MergingRules.{IncludesOther}
use Rattle.widl_names.proofs.NameMeanings.{all_plain}
use Rattle.widl_names.proofs.Mapped.{next_somewhere, all_somewhere}
use Rattle.widl_merge.proofs.NameRules.{asked_of}
use Rattle.widl_merge.proofs.reference_rules.first_includes_no_mixin.Goals as goal

pub loop-definition-preserved : goal.loop-definition-preserved
loop-definition-preserved c =
    let here = asked_of (plain_definitions c.args.meanings.now) _ _ _ _ c.other_meaning-found.result refl c.included.ensures c.other_meaning-found.ensures in
    next_somewhere (λ d. definition_of d.now) c.all-definitions.result.now (plain_definitions c.args.meanings.now) (all_plain _ _ c.all-definitions.ensures) (IncludesOther (plain_definitions c.args.meanings.now)) c.loop-definition.definition-index c.definition-item.result c.loop-definition.best c.other_meaning-found.result _ (omega arith) c.definition-item.is c.loop-definition.invariant here c.earlier_violation-best.ensures

pub returns : goal.returns
returns c = all_somewhere (λ d. definition_of d.now) c.all-definitions.result.now (plain_definitions c.args.meanings.now) (all_plain _ _ c.all-definitions.ensures) (IncludesOther (plain_definitions c.args.meanings.now)) c.loop-definition.definition-index c.loop-definition.best (omega arith) c.loop-definition.invariant
