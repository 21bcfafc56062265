use Rattle.std.proofs.Common.{◌≡◌, flat_map, take}
use Rattle.widl_idl.specs.Parts.{members_in}
use Rattle.widl_names.specs.PartTables.{listed_parts}
use Rattle.widl_names.specs.Listings.{listed_members}
use Rattle.widl_names.proofs.part_members.list_members.Given as goal

abbrev pub invariant-loop-part : goal.invariant-loop-part
invariant-loop-part l = listed_members l.list.items ≡ flat_map members_in (listed_parts (take l.part-index l.parts))
