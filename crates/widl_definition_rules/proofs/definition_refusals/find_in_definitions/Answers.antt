use Rattle.std.proofs.Common.{arith, refl}
use Rattle.widl_idl.specs.FirstRefusal.{violation_of}
use Rattle.widl_idl.specs.PlainTrees.{definition_of}
use Rattle.widl_idl.proofs.Somewhere.{nowhere}
use Rattle.widl_names.specs.Listings.{listed_definitions}
use Rattle.widl_overload.specs.rules.OnDefinitions.{BreaksDefinition, InOneDefinition, definition_rules}
use Rattle.widl_overload.specs.rules.Validity.{BreaksRule}
use Rattle.widl_refusals.proofs.FirstRefusals.{all_items, item_pushed, next_item, same_rules}
use Rattle.widl_definition_rules.proofs.definition_refusals.find_in_definitions.Goals as goal

pub loop-definition-init : goal.loop-definition-init
loop-definition-init c = λ r b. nowhere (BreaksDefinition b.which) (violation_of r) b.breaks

pub loop-definition-preserved : goal.loop-definition-preserved
loop-definition-preserved c = next_item definition_rules InOneDefinition (λ before d which. BreaksDefinition which d) (λ before d which. item_pushed (BreaksDefinition which) before d) (λ d. definition_of d.now) c.args.definitions.now c.loop-definition.definition-index c.definition-item.result c.loop-definition.best c.in_ok-found.found _ (omega arith) c.definition-item.is c.loop-definition.invariant c.in_ok-found.ensures c.earlier_refusal-best.ensures

pub returns : goal.returns
returns c =
    let definitions = listed_definitions c.args.definitions.now in
    λ list. same_rules (InOneDefinition definitions) (BreaksRule list definitions) definition_rules c.loop-definition.best refl
    (all_items definition_rules InOneDefinition (λ d. definition_of d.now) c.args.definitions.now c.loop-definition.definition-index c.loop-definition.best (omega arith) c.loop-definition.invariant)
