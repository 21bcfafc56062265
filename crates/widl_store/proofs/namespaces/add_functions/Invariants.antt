use Rattle.std.proofs.Common.{◌≡◌, ◌++◌, map, drop}
use Rattle.widl_idl.specs.DefinitionTerms.{op_name_term}
use Rattle.widl_store.specs.Plans.{object_of}
use Rattle.widl_store.specs.Realm.{functions_from}
use Rattle.widl_store.proofs.namespaces.add_functions.Given as goal

abbrev pub invariant-loop-place : goal.invariant-loop-place
invariant-loop-place l = l.objects.items ++ map object_of (functions_from l.space l.place (map op_name_term (drop l.place l.ops))) ≡ l.fn.objects.items ++ map object_of (functions_from l.space 0 (map op_name_term l.ops))
