use Rattle.std.proofs.Common.{◌≡◌, take}
use Rattle.widl_names.specs.Listings.{listed_definitions}
use Rattle.widl_idl.specs.Meanings.{definitions_of}
use Rattle.widl_names.proofs.definitions.list_definitions.Given as goal

abbrev pub invariant-loop-fragment : goal.invariant-loop-fragment
invariant-loop-fragment l = listed_definitions l.list.items ≡ definitions_of (take l.fragment-index l.fragments)
