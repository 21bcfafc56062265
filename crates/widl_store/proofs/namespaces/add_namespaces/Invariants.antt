use Rattle.std.proofs.Common.{◌≡◌, ◌++◌, length, map, drop}
use Rattle.widl_idl.specs.DefinitionTerms.{space_term}
use Rattle.widl_store.specs.Plans.{object_of}
use Rattle.widl_store.specs.Realm.{namespaces_from, homes_from}
use Rattle.widl_store.proofs.namespaces.add_namespaces.Given as goal

abbrev pub invariant-loop-number : goal.invariant-loop-number
invariant-loop-number l =
    (l.objects.items ++ map object_of (namespaces_from (length l.objects.items) l.number (map space_term (drop l.number l.spaces))) ≡ l.fn.objects.items ++ map object_of (namespaces_from (length l.fn.objects.items) 0 (map space_term l.spaces)))
    × (l.homes ++ homes_from (length l.objects.items) (map space_term (drop l.number l.spaces)) ≡ l.fn.homes ++ homes_from (length l.fn.objects.items) (map space_term l.spaces))
