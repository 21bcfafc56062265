use Rattle.std.proofs.Common.{◌≡◌, ◌++◌, flat_map, take, option_map, slice_get}
use Rattle.widl_idl.specs.Parts.{dictionary_members_in}
use Rattle.widl_idl.specs.PlainTrees.{plain_definitions}
use Rattle.widl_names.specs.PartTables.{listed_parts}
use Rattle.widl_merge.specs.DictionaryTables.{listed_members, members_of_part}
use Rattle.widl_merge.proofs.dictionary_parts.DictionaryParts.list_numbered.Given as goal

abbrev pub invariant-loop-part : goal.invariant-loop-part
invariant-loop-part l = listed_members l.list.items ≡ members_of_part (option_map (λ d. d.kind) (slice_get (plain_definitions l.fn.self) l.number)) ++ flat_map dictionary_members_in (listed_parts (take l.part-index l.part-items))
