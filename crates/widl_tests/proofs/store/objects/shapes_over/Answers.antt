use Rattle.std.proofs.Common.{arith}
use Rattle.widl_tests.proofs.KnownShapes.{all_known}
use Rattle.widl_tests.proofs.store.objects.shapes_over.Goals as goal

pub returns : goal.returns
returns g c = all_known c.args.spaces.now c.loop-space.space-index c.loop-space.shapes.items (omega arith) c.loop-space.invariant
