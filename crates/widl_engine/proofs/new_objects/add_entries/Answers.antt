use Rattle.std.proofs.Common.{◌≡◌, ◌∙◌, ◌≤◌, ◌<◌, ◌+◌, length, arith, ap}
use Rattle.widl_store.specs.Objects.{StoreState}
use Rattle.widl_runs.specs.Actions.{ObjectPrototype}
use Rattle.widl_engine.proofs.Items.{live_defined, next_entry}
use Rattle.widl_engine.proofs.TakenBack.{as_many}
use Rattle.widl_engine.proofs.new_objects.add_entries.Goals as goal

pub add-requires-clause-proto : goal.add-requires-clause-proto
add-requires-clause-proto c = c.requires.prototypes ObjectPrototype

pub each-preserved : goal.each-preserved
each-preserved c =
    let size : length c.each.entries ≡ length c.args.entries = c.each.invariant.0 in
    let within : c.each.place < length c.each.entries = omega (arith, c.each-test.true, c.len-count.ensures, size) in
    let next : c.each.place + 1 ≤ c.len-count.result = omega (arith, c.each-test.true) in (
      as_many c.each.entries c.replace-key.new.self c.each.place (length c.args.entries) _ c.replace-key.ensures.list size,
      next,
      live_defined c.each.store.objects c.define_item.new.store.objects c.in_ok-object.object.id c.replace-key.result.0 _ c.in_ok-object.object (ap (λ (t : StoreState). t.objects) c.in_ok-define_item.ensures) c.each.invariant.2,
      next_entry c.each.store c.define_item.new.store c.in_ok-object.object.id c.each.place c.each.entries c.replace-key.new.self c.replace-key.result _ within c.replace-key.ensures.former c.replace-key.ensures.list c.in_ok-define_item.ensures
          ∙ c.each.invariant.3,
    )
