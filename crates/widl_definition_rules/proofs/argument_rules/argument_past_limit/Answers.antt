use Rattle.std.proofs.Common.{rules, sym, subst}
use Rattle.widl_idl.specs.First.{AtOne, IsFirst}
use Rattle.widl_idl.specs.PlainTrees.{arguments_of}
use Rattle.widl_overload.specs.rules.ArgumentRules.{IsArgumentPastLimit}
use Rattle.widl_definition_rules.proofs.ArgumentPlaces.{found_past_limit}
use Rattle.widl_definition_rules.proofs.argument_rules.argument_past_limit.Goals as goal

pub returns-in-Some : goal.returns-in-Some
returns-in-Some c = subst (IsFirst (AtOne IsArgumentPastLimit (arguments_of c.args.arguments.now))) (sym c.at.ensures) (found_past_limit c.args.arguments.now c.in-Some.argument.now (search rules) c.in-Some.ensures.lookup.1)
