use Rattle.std.proofs.Common.{◌<◌, ◌^◌, ◌∙◌, arith, length, refl}
use Rattle.widl_idl.specs.DefinitionTerms.{space_term}
use Rattle.widl_store.specs.Realm.{after}
use Rattle.widl_store.proofs.FirstObjects.{few_spaces, room_next}
use Rattle.widl_store.proofs.RealmSteps.{objects_step, homes_step}
use Rattle.widl_store.proofs.namespaces.add_namespaces.Goals as goal

pub namespace_home-requires : goal.namespace_home-requires
namespace_home-requires c =
    let room : after (length c.loop-number.objects.items) (space_term c.index-spaces-number.result) < 2 ^ 32 =
    room_next c.args.objects.now.items c.loop-number.objects.items c.args.spaces.now c.loop-number.number c.index-spaces-number.result c.requires.room c.loop-number-test.true c.index-spaces-number.is c.loop-number.invariant.0 in
    omega (arith, room)

pub overflow_cast-number : goal.overflow_cast-number
overflow_cast-number c =
    let few : c.loop-number.number < 2 ^ 32 = few_spaces (length c.args.objects.now.items) c.args.spaces.now c.loop-number.number c.requires.room c.loop-number-test.true in
    omega (arith, few)

pub add_namespace-requires-clause-room : goal.add_namespace-requires-clause-room
add_namespace-requires-clause-room c =
    room_next c.args.objects.now.items c.loop-number.objects.items c.args.spaces.now c.loop-number.number c.index-spaces-number.result c.requires.room c.loop-number-test.true c.index-spaces-number.is c.loop-number.invariant.0

pub loop-number-preserved : goal.loop-number-preserved
loop-number-preserved c = (
  objects_step c.loop-number.objects.items c.add_namespace.new.objects.items c.args.spaces.now c.loop-number.number c.loop-number.number c.index-spaces-number.result c.loop-number-test.true c.index-spaces-number.is refl c.in_ok-add_namespace.ensures ∙ c.loop-number.invariant.0,
  homes_step c.loop-number.objects.items c.add_namespace.new.objects.items c.loop-number.homes c.push.new.self c.args.spaces.now c.loop-number.number c.loop-number.number c.namespace_home.result c.index-spaces-number.result c.loop-number-test.true c.index-spaces-number.is c.namespace_home.ensures c.in_ok-push.ensures.ok c.in_ok-add_namespace.ensures ∙ c.loop-number.invariant.1,
)
