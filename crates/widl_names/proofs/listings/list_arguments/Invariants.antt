use Rattle.std.proofs.Common.{◌≡◌, ◌++◌, flat_map, take}
use Rattle.widl_idl.specs.Nodes.{nodes_of_argument}
use Rattle.widl_idl.specs.PlainTrees.{argument_of}
use Rattle.widl_names.specs.Listings.{nodes_listed}
use Rattle.widl_names.proofs.listings.list_arguments.Given as goal

abbrev pub invariant-loop-argument : goal.invariant-loop-argument
invariant-loop-argument l = nodes_listed l.nodes.items ≡ nodes_listed l.initial.nodes.items ++ flat_map (λ x. nodes_of_argument (argument_of x)) (take l.argument-index l.arguments)
