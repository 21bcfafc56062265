use Rattle.widl_bench.proofs.store.store_of.Goals as goal

pub realm-requires : goal.realm-requires
realm-requires c = c.has_operations_alone.ensures.0 c.if-has_operations_alone.true
