use Rattle.std.proofs.Common.{arith, length}
use Rattle.widl_idl.specs.PlainTrees.{definition_kind_of, plain_definitions}
use Rattle.widl_merge.specs.DictionaryTables.{extension_at}
use Rattle.widl_names.proofs.PlainLists.{listed_same}
use Rattle.widl_names.proofs.PartLists.{group_all}
use Rattle.widl_merge.proofs.dictionary_parts.group_dictionaries.Goals as goal

pub returns : goal.returns
returns c = group_all (λ k. definition_kind_of k.now) (extension_at (plain_definitions c.args.meanings.now)) c.loop-definition.groups.items c.all-definitions.result.now c.loop-definition.definition-index (length c.args.meanings.now) (plain_definitions c.args.meanings.now) (omega arith) (listed_same c.all-definitions.result.now c.args.meanings.now c.all-definitions.ensures) c.loop-definition.invariant
