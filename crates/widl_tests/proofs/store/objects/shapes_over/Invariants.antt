use Rattle.std.proofs.Common.{◌≡◌, ◌++◌, flat_map, map, take}
use Rattle.widl_idl.specs.DefinitionTerms.{space_term}
use Rattle.widl_tests.proofs.KnownShapes.{first_shapes, space_shapes}
use Rattle.widl_tests.proofs.store.objects.shapes_over.Given as goal

abbrev pub invariant-loop-space : goal.invariant-loop-space
invariant-loop-space g l = l.shapes.items ≡ first_shapes ++ flat_map space_shapes (map space_term (take l.space-index l.spaces))
