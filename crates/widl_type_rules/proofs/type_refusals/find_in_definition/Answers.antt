use Rattle.std.proofs.Common.{arith, subst, ap, ◌∙◌, map}
use Rattle.widl_idl.specs.DefinitionTerms.{defs_term}
use Rattle.widl_idl.specs.FirstRefusal.{violation_of}
use Rattle.widl_idl.specs.PlainTrees.{plain_definitions}
use Rattle.widl_idl.proofs.Somewhere.{nowhere}
use Rattle.widl_refusals.specs.Refusals.{IsFirst}
use Rattle.widl_overload.specs.rules.OnTypes.{BreaksUse, SomeBreaks, type_rules}
use Rattle.widl_type_rules.specs.UsesListed.{use_of}
use Rattle.widl_refusals.proofs.FirstRefusals.{all_items, item_pushed, next_item}
use Rattle.widl_type_rules.proofs.type_refusals.find_in_definition.Goals as goal

pub loop-written-init : goal.loop-written-init
loop-written-init c = λ r b. nowhere (BreaksUse (defs_term c.args.defs.now).ifaces (plain_definitions c.args.scope.now) b.which) (violation_of r) b.breaks

pub loop-written-preserved : goal.loop-written-preserved
loop-written-preserved c =
    let P = BreaksUse (defs_term c.args.defs.now).ifaces (plain_definitions c.args.scope.now) in
    next_item type_rules (SomeBreaks (defs_term c.args.defs.now).ifaces (plain_definitions c.args.scope.now)) (λ before u which. P which u) (λ before u which. item_pushed (P which) before u) use_of c.deref-written-items.result.now c.loop-written.written-index c.written-item.result c.loop-written.best c.in_ok-found.found _ (omega arith) c.written-item.is c.loop-written.invariant c.in_ok-found.ensures c.earlier_refusal-best.ensures

pub returns : goal.returns
returns c =
    let All = SomeBreaks (defs_term c.args.defs.now).ifaces (plain_definitions c.args.scope.now) in
    subst (λ uses. IsFirst (All uses) type_rules c.loop-written.best) (ap (map use_of) c.deref-written-items.ensures.value ∙ c.in_ok-uses.ensures)
    (all_items type_rules All use_of c.deref-written-items.result.now c.loop-written.written-index c.loop-written.best (omega arith) c.loop-written.invariant)
