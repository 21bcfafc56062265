use Rattle.std.proofs.Common.{◌≡◌, ◌++◌, take}
use Rattle.widl_idl.specs.PlainTrees.{arguments_of}
use Rattle.widl_inheritance.specs.WrittenDefaults.{listed_defaults}
use Rattle.widl_overload.specs.rules.DefaultRules.{defaults_of_arguments}
use Rattle.widl_inheritance.proofs.defaulted.add_arguments.Given as goal

abbrev pub invariant-loop-argument : goal.invariant-loop-argument
invariant-loop-argument l = listed_defaults l.defaults.items ≡ listed_defaults l.initial.defaults.items ++ defaults_of_arguments (arguments_of (take l.argument-index l.arguments))
