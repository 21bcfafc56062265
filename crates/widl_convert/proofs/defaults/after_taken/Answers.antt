use Rattle.std.proofs.Common.{arith}
use Rattle.widl_convert.proofs.Resolving.{declared_longest}
use Rattle.widl_convert.proofs.defaults.after_taken.Goals as goal

pub returns-in-Some-clause-weight : goal.returns-in-Some-clause-weight
returns-in-Some-clause-weight c list = omega (arith, declared_longest list c.args.resolution.kept.callee c.in-Some.overload)
