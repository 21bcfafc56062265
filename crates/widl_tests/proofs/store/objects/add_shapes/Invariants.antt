use Rattle.std.proofs.Common.{◌≡◌, ◌∷◌, ◌++◌, replicate}
use Rattle.widl_value.specs.declared.object.Shape.TheVariants.{Plain, Callable}
use Rattle.widl_tests.proofs.store.objects.add_shapes.Given as goal

abbrev pub invariant-loop-function : goal.invariant-loop-function
invariant-loop-function g l = l.shapes.items ≡ l.fn.shapes.items ++ Plain ∷ replicate l._function Callable
