use Rattle.std.proofs.Common.{◌≡◌, take}
use Rattle.widl_names.specs.Listings.{listed_definitions}
use Rattle.widl_overload.specs.rules.ArgumentRules.{argument_lists_of}
use Rattle.widl_inheritance.specs.WrittenLists.{listed_arguments}
use Rattle.widl_inheritance.proofs.argument_lists.list_arguments.Given as goal

abbrev pub invariant-loop-definition : goal.invariant-loop-definition
invariant-loop-definition l = listed_arguments l.lists.items ≡ argument_lists_of l.all (listed_definitions (take l.definition-index l.definitions))
