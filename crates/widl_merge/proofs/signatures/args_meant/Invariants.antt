use Rattle.std.proofs.Common.{◌≡◌, map, take}
use Rattle.widl_idl.specs.DefinitionTerms.{arg_term}
use Rattle.widl_idl.specs.MergedMembers.{arg_of}
use Rattle.widl_idl.specs.PlainTrees.{argument_of, plain_definitions}
use Rattle.widl_merge.proofs.signatures.args_meant.Given as goal

abbrev pub invariant-loop-argument : goal.invariant-loop-argument
invariant-loop-argument l = map arg_term l.args ≡ map (λ x. arg_of (plain_definitions l.resolver) (argument_of x)) (take l.argument-index l.arguments)
