use Rattle.std.proofs.Common.{arith, refl, subst}
use Rattle.widl_idl.specs.DefinitionTerms.{defs_term}
use Rattle.widl_idl.specs.FirstRefusal.{violation_of}
use Rattle.widl_idl.specs.PlainTrees.{PlainDefinition, definition_of, plain_definitions}
use Rattle.widl_idl.proofs.Somewhere.{nowhere}
use Rattle.widl_names.proofs.PlainLists.{listed_same}
use Rattle.widl_overload.specs.rules.TypeUses.{type_uses_of, uses_in_definition}
use Rattle.widl_overload.specs.rules.Validity.{BreaksRule}
use Rattle.widl_refusals.specs.Refusals.{IsFirst}
use Rattle.widl_overload.specs.rules.OnTypes.{BreaksUse, SomeBreaks, type_rules}
use Rattle.widl_refusals.proofs.FirstRefusals.{all_items, list_pushed, next_item, same_rules}
use Rattle.widl_type_rules.proofs.type_refusals.find_in_types.Goals as goal

pub loop-definition-init : goal.loop-definition-init
loop-definition-init c = (λ r b. nowhere (BreaksUse (defs_term c.args.defs.now).ifaces (plain_definitions c.args.scope.now) b.which) (violation_of r) b.breaks, c.in_ok-lineages.ensures)

pub loop-definition-preserved : goal.loop-definition-preserved
loop-definition-preserved c =
    let ifaces = (defs_term c.args.defs.now).ifaces in
    let definitions = plain_definitions c.args.scope.now in
    let d = definition_of c.definition-item.result.now in (
      next_item type_rules (λ ds. SomeBreaks ifaces definitions (type_uses_of ds)) (λ before e. SomeBreaks ifaces definitions (uses_in_definition e.kind)) (λ before e which. list_pushed (BreaksUse ifaces definitions which) (λ (x : PlainDefinition). uses_in_definition x.kind) before e) (λ e. definition_of e.now) c.all-definitions.result.now c.loop-definition.definition-index c.definition-item.result c.loop-definition.best c.in_ok-found.found _
          (omega arith) c.definition-item.is c.loop-definition.invariant.0 c.in_ok-found.ensures c.earlier_refusal-best.ensures,
      c.loop-definition.invariant.1,
    )

pub returns : goal.returns
returns c =
    let ifaces = (defs_term c.args.defs.now).ifaces in
    let definitions = plain_definitions c.args.scope.now in
    same_rules (SomeBreaks ifaces definitions (type_uses_of definitions)) (BreaksRule (defs_term c.args.defs.now) definitions) type_rules c.loop-definition.best refl
    (subst (λ ds. IsFirst (SomeBreaks ifaces definitions (type_uses_of ds)) type_rules c.loop-definition.best) (listed_same c.all-definitions.result.now c.args.scope.now c.all-definitions.ensures.all)
    (all_items type_rules (λ ds. SomeBreaks ifaces definitions (type_uses_of ds)) (λ e. definition_of e.now) c.all-definitions.result.now c.loop-definition.definition-index c.loop-definition.best (omega arith) c.loop-definition.invariant.0))
