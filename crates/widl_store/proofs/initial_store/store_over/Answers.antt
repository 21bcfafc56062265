use Rattle.std.proofs.Common.{map}
use Rattle.widl_idl.specs.DefinitionTerms.{space_term}
use Rattle.widl_store.proofs.FirstObjects.{room_after}
use Rattle.widl_store.proofs.LiveHomes.{homes_are_sound}
use Rattle.widl_store.proofs.RealmSteps.{realm_objects, realm_homes, realm_made, realm_is_sound}
use Rattle.widl_store.proofs.initial_store.store_over.Goals as goal

pub add_namespaces-requires-clause-room : goal.add_namespaces-requires-clause-room
add_namespaces-requires-clause-room c = room_after c.in-Ok.objects.items (map space_term c.args.spaces.now) c.in-Ok.ensures c.requires

pub of-requires-clause-sound : goal.of-requires-clause-sound
of-requires-clause-sound c = realm_is_sound c.args.spaces.now c.add_namespaces.new.objects.items (realm_objects c.args.spaces.now c.in-Ok.objects.items c.add_namespaces.new.objects.items c.in-Ok.ensures c.in-Ok-add_namespaces.ensures.objects)

pub of-requires-clause-homes : goal.of-requires-clause-homes
of-requires-clause-homes c =
    homes_are_sound c.args.spaces.now c.add_namespaces.new.objects.items c.add_namespaces.new.homes
    (realm_objects c.args.spaces.now c.in-Ok.objects.items c.add_namespaces.new.objects.items c.in-Ok.ensures c.in-Ok-add_namespaces.ensures.objects)
    (realm_homes c.args.spaces.now c.in-Ok.objects.items c.new-homes.result c.add_namespaces.new.homes c.in-Ok.ensures c.new-homes.ensures c.in-Ok-add_namespaces.ensures.homes)

pub returns-in-Ok-add_namespaces : goal.returns-in-Ok-add_namespaces
returns-in-Ok-add_namespaces c =
    realm_made c.args.spaces.now c.add_namespaces.new.objects.items c.add_namespaces.new.homes _
    (realm_objects c.args.spaces.now c.in-Ok.objects.items c.add_namespaces.new.objects.items c.in-Ok.ensures c.in-Ok-add_namespaces.ensures.objects)
    (realm_homes c.args.spaces.now c.in-Ok.objects.items c.new-homes.result c.add_namespaces.new.homes c.in-Ok.ensures c.new-homes.ensures c.in-Ok-add_namespaces.ensures.homes)
    c.of.ensures
