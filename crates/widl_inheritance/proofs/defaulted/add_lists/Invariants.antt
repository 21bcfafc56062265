use Rattle.std.proofs.Common.{◌≡◌, ◌++◌, take}
use Rattle.std.specs.List.{flat_map}
use Rattle.widl_inheritance.specs.WrittenDefaults.{listed_defaults}
use Rattle.widl_inheritance.specs.WrittenLists.{listed_arguments}
use Rattle.widl_overload.specs.rules.DefaultRules.{defaults_of_arguments}
use Rattle.widl_inheritance.proofs.defaulted.add_lists.Given as goal

abbrev pub invariant-loop-list : goal.invariant-loop-list
invariant-loop-list l = listed_defaults l.defaults.items ≡ listed_defaults l.initial.defaults.items ++ flat_map defaults_of_arguments (listed_arguments (take l.list-index l.lists))
