use Rattle.std.proofs.Common.{arith}
use Rattle.widl_idl.specs.PlainTrees.{plain_definitions}
use Rattle.widl_merge.proofs.WrittenArguments.{args_all, args_more}
use Rattle.widl_merge.proofs.signatures.args_meant.Goals as goal

pub loop-argument-preserved : goal.loop-argument-preserved
loop-argument-preserved c = args_more (plain_definitions c.args.resolver.now) c.args.arguments.now c.loop-argument.argument-index c.argument-item.result c.loop-argument.args c.push.new.self c.in_ok-arg.arg (omega arith) c.argument-item.is c.in_ok-arg.ensures c.in_ok-push.ensures.ok c.loop-argument.invariant

pub returns : goal.returns
returns c = args_all (plain_definitions c.args.resolver.now) c.args.arguments.now c.loop-argument.argument-index c.loop-argument.args (omega arith) c.loop-argument.invariant
