use Rattle.widl_predictive.specs.Runs.{left_of}
use Rattle.widl_syntax.proofs.AttributeArguments.{InMachine}
use Rattle.widl_syntax.proofs.build.reader.Reader.attribute_arguments.Given as goal

abbrev pub invariant-loop : goal.invariant-loop
invariant-loop l = InMachine l.initial.self l.self l.tokens (left_of l.stack.items) l.counter
