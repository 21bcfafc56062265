use Rattle.std.proofs.Common.{◌≡◌, ◌++◌, take, option_map, slice_get}
use Rattle.widl_idl.specs.PlainTrees.{plain_definitions}
use Rattle.widl_names.specs.PartTables.{listed_parts, part_kept}
use Rattle.widl_names.proofs.parts.Parts.add_own.Given as goal

abbrev pub invariant-loop-part : goal.invariant-loop-part
invariant-loop-part l = listed_parts l.list.items ≡ listed_parts l.fn.list.items ++ (part_kept (option_map (λ d. d.kind) (slice_get (plain_definitions l.fn.self) l.number)) ++ listed_parts (take l.part-index l.part-items))
