use Rattle.std.proofs.Common.{◌≡◌, ℕ, List, Some, ◌∙◌}
use Rattle.std.proofs.lemmas.Result.{IfOk-weaker}
use Rattle.widl_idl.specs.declared.kind.Kind.TheVariants as kinds
use Rattle.widl_idl.specs.Meanings.{meaning, meant_kind}
use Rattle.widl_idl.specs.Parts.{merged_dictionary_members}
use Rattle.widl_idl.specs.PlainTrees.{plain_definitions}
use Rattle.widl_merge.specs.DictionaryTables.{listed_members, members_at}
use Rattle.widl_merge.proofs.ExtendedDictionaries.{members_listed}
use Rattle.widl_merge.proofs.dictionary_parts.DictionaryParts.list.Goals as goal

pub returns : goal.returns
returns c =
    let all = plain_definitions c.args.self.now in
    IfOk-weaker c.list_numbered.result (λ list. listed_members list.items ≡ members_at all c.args.number)
    (λ list. (text : List ℕ) → meaning all text ≡ Some c.args.number → meant_kind all text ≡ Some kinds.Dictionary → listed_members list.items ≡ merged_dictionary_members all text)
    (λ list e. λ text means is. e ∙ members_listed all c.args.number text means is) c.list_numbered.ensures
