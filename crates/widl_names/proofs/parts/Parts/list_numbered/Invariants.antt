use Rattle.std.proofs.Common.{◌≡◌, ◌++◌, take, flat_map}
use Rattle.widl_idl.specs.PlainTrees.{plain_definitions}
use Rattle.widl_names.specs.PartTables.{listed_parts, own_at}
use Rattle.widl_names.proofs.parts.Parts.list_numbered.Given as goal

abbrev pub invariant-loop-mixin : goal.invariant-loop-mixin
invariant-loop-mixin l = listed_parts l.list.items ≡ own_at (plain_definitions l.fn.self) l.number ++ flat_map (own_at (plain_definitions l.fn.self)) (take l.mixin-index l.mixin-items)
