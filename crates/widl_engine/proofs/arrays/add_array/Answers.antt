use Rattle.std.proofs.Common.{◌≡◌, ◌∙◌, ◌≤◌, ◌<◌, ◌+◌, length, arith, ap}
use Rattle.widl_store.specs.Objects.{StoreState}
use Rattle.widl_runs.specs.Actions.{ArrayPrototype}
use Rattle.widl_engine.proofs.Items.{live_defined, next_item}
use Rattle.widl_engine.proofs.TakenBack.{as_many}
use Rattle.widl_engine.proofs.arrays.add_array.Goals as goal

pub add-requires-clause-proto : goal.add-requires-clause-proto
add-requires-clause-proto c = c.requires.prototypes ArrayPrototype

pub each-preserved : goal.each-preserved
each-preserved c =
    let size : length c.each.items ≡ length c.args.items = c.each.invariant.0 in
    let within : c.each.index < length c.each.items = omega (arith, c.each-test.true, c.len-count.ensures, size) in
    let next : c.each.index + 1 ≤ c.len-count.result = omega (arith, c.each-test.true) in (
      as_many c.each.items c.replace-value.new.self c.each.index (length c.args.items) _ c.replace-value.ensures.list size,
      next,
      live_defined c.each.store.objects c.define_item.new.store.objects c.in_ok-array.array.id c.in_ok-index_key.field-0 _ c.in_ok-array.array (ap (λ (t : StoreState). t.objects) c.in_ok-define_item.ensures) c.each.invariant.2,
      next_item c.each.store c.define_item.new.store c.in_ok-array.array.id c.each.index c.each.items c.replace-value.new.self c.in_ok-index_key.field-0 c.replace-value.result _ within c.replace-value.ensures.former c.replace-value.ensures.list c.in_ok-index_key.ensures c.in_ok-define_item.ensures
          ∙ c.each.invariant.3,
    )
