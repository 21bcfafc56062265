use Rattle.std.proofs.Common.{◌≡◌, ◌++◌, take}
use Rattle.widl_idl.specs.PlainTrees.{plain_definitions}
use Rattle.widl_names.specs.Listings.{listed_definitions}
use Rattle.widl_names.proofs.definitions.add_definitions.Given as goal

abbrev pub invariant-loop-definition : goal.invariant-loop-definition
invariant-loop-definition l = listed_definitions l.list.items ≡ listed_definitions l.initial.list.items ++ plain_definitions (take l.definition-index l.definitions)
