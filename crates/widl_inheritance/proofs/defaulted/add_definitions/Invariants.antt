use Rattle.std.proofs.Common.{◌≡◌, ◌++◌, take}
use Rattle.std.specs.List.{flat_map}
use Rattle.widl_inheritance.specs.WrittenDefaults.{defaults_in, listed_defaults}
use Rattle.widl_names.specs.Listings.{listed_definitions}
use Rattle.widl_inheritance.proofs.defaulted.add_definitions.Given as goal

abbrev pub invariant-loop-definition : goal.invariant-loop-definition
invariant-loop-definition l = listed_defaults l.defaults.items ≡ listed_defaults l.initial.defaults.items ++ flat_map defaults_in (listed_definitions (take l.definition-index l.definitions))
