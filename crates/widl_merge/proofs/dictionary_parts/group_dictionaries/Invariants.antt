use Rattle.std.proofs.Common.{length, take}
use Rattle.widl_idl.specs.PlainTrees.{definition_kind_of, plain_definitions}
use Rattle.widl_names.specs.Listings.{listed_definitions}
use Rattle.widl_names.specs.PartTables.{Grouped}
use Rattle.widl_merge.specs.DictionaryTables.{extension_at}
use Rattle.widl_merge.proofs.dictionary_parts.group_dictionaries.Given as goal

abbrev pub invariant-loop-definition : goal.invariant-loop-definition
invariant-loop-definition l = Grouped (λ k. definition_kind_of k.now) (extension_at (plain_definitions l.fn.meanings)) l.groups.items (listed_definitions (take l.definition-index l.definitions)) (length l.fn.meanings)
