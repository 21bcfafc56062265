use Rattle.widl_bench.proofs.realm.run.Goals as goal

pub make_stores-requires : goal.make_stores-requires
make_stores-requires c = c.has_operations_alone.ensures.0 c.if-has_operations_alone.true
