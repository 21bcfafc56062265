use Rattle.std.proofs.Common.{arith, sym}
use Rattle.std.proofs.lemmas.List.Folds.{flat_map-map}
use Rattle.widl_idl.specs.PlainTrees.{argument_of}
use Rattle.widl_overload.specs.rules.TypeUses.{uses_of_argument}
use Rattle.widl_names.proofs.Listed.{listed_all}
use Rattle.widl_type_rules.proofs.type_uses.list_arguments.Goals as goal

pub returns : goal.returns
returns c = listed_all (λ x. uses_of_argument (argument_of x)) c.args.arguments.now c.loop-argument.argument-index _ _ _ (omega arith) (sym (flat_map-map uses_of_argument argument_of c.args.arguments.now)) c.loop-argument.invariant
