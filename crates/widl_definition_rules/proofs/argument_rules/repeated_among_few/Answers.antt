use Rattle.std.proofs.Common.{arith}
use Rattle.widl_idl.specs.PlainTrees.{argument_of}
use Rattle.widl_overload.specs.rules.ArgumentRules.{RepeatsArgument}
use Rattle.widl_names.proofs.MappedLoops.{at_one_end, at_one_step}
use Rattle.widl_definition_rules.proofs.argument_rules.repeated_among_few.Goals as goal

pub loop-index-preserved : goal.loop-index-preserved
loop-index-preserved c = at_one_step argument_of c.args.arguments.now RepeatsArgument c.loop-index.index c.index-arguments-index.result c.loop-index.best c.repeating-found.result c.earlier_violation-best.result (omega arith) c.index-arguments-index.is c.earlier_violation-best.ensures c.repeating-found.ensures c.loop-index.invariant

pub returns : goal.returns
returns c = at_one_end argument_of c.args.arguments.now RepeatsArgument c.loop-index.index c.loop-index.best (omega arith) c.loop-index.invariant
