use Rattle.widl_tests.proofs.store.objects.objects_over.Goals as goal

pub realm-requires : goal.realm-requires
realm-requires g c = c.has_operations_alone.ensures.0 c.if-not-has_operations_alone.false
