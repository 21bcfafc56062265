-- Each definition and each member stands for a token at least.
use Rattle.std.proofs.Common.{◌≡◌, true, refl}
use Rattle.widl_idl.specs.declared.tree.definitions.Definition.{Definition}
use Rattle.widl_idl.specs.declared.tree.definitions.DefinitionKind.{DefinitionKind}
use Rattle.widl_idl.specs.declared.tree.definitions.DefinitionKind.TheVariants as definition_kinds
use Rattle.widl_idl.specs.declared.tree.dictionaries.DictionaryMember.{DictionaryMember}
use Rattle.widl_idl.specs.declared.tree.members.Member.{Member}
use Rattle.widl_idl.specs.declared.tree.members.MemberKind.{MemberKind}
use Rattle.widl_idl.specs.declared.tree.members.MemberKind.TheVariants as member_kinds
use Rattle.widl_grammar.specs.declared.terminal.Terminal.TheVariants as t
use Rattle.widl_syntax.specs.UnparsedNames.{word_if, optional_name, extended_attributes}
use Rattle.widl_syntax.specs.UnparsedTypes.{written_type}
use Rattle.widl_syntax.specs.UnparsedMembers.{member, member_kind, attribute_word, operation_word, async_words}
use Rattle.widl_syntax.specs.UnparsedDefinitions.{definition, definition_kind, dictionary_member, member_type}
use Rattle.widl_syntax.proofs.Lists.{has_token, token_in_rest}

pub dictionary_member_has_token : (m : DictionaryMember) → has_token (dictionary_member m) ≡ true
dictionary_member_has_token m = token_in_rest (extended_attributes m.attributes) _ (token_in_rest (member_type m.required m.ty) _ refl)

member_kind_has_token : (kind : MemberKind) → has_token (member_kind kind) ≡ true
member_kind_has_token (member_kinds.Constant c) = refl
member_kind_has_token (member_kinds.Attribute a) = token_in_rest (attribute_word a.kind) _ (token_in_rest (word_if a.readonly t.Readonly) _ refl)
member_kind_has_token (member_kinds.Operation o) = token_in_rest (operation_word o.kind) _ (token_in_rest (written_type o.result) _ (token_in_rest (optional_name o.name) _ refl))
member_kind_has_token (member_kinds.Constructor c) = refl
member_kind_has_token (member_kinds.Stringifier s) = refl
member_kind_has_token (member_kinds.Iterable i) = refl
member_kind_has_token (member_kinds.AsyncIterable i) = token_in_rest (async_words i.value.word) _ refl
member_kind_has_token (member_kinds.Maplike m) = token_in_rest (word_if m.value.readonly t.Readonly) _ refl
member_kind_has_token (member_kinds.Setlike s) = token_in_rest (word_if s.value.readonly t.Readonly) _ refl

pub member_has_token : (m : Member) → has_token (member m) ≡ true
member_has_token m = token_in_rest (extended_attributes m.attributes) _ (member_kind_has_token m.kind)

definition_kind_has_token : (kind : DefinitionKind) → has_token (definition_kind kind) ≡ true
definition_kind_has_token (definition_kinds.Callback c) = refl
definition_kind_has_token (definition_kinds.CallbackInterface c) = refl
definition_kind_has_token (definition_kinds.Interface i) = token_in_rest (word_if i.partial t.Partial) _ refl
definition_kind_has_token (definition_kinds.Mixin m) = token_in_rest (word_if m.partial t.Partial) _ refl
definition_kind_has_token (definition_kinds.Namespace n) = token_in_rest (word_if n.partial t.Partial) _ refl
definition_kind_has_token (definition_kinds.Dictionary d) = token_in_rest (word_if d.partial t.Partial) _ refl
definition_kind_has_token (definition_kinds.Enumeration e) = refl
definition_kind_has_token (definition_kinds.Typedef d) = refl
definition_kind_has_token (definition_kinds.Includes i) = refl

pub definition_has_token : (d : Definition) → has_token (definition d) ≡ true
definition_has_token d = token_in_rest (extended_attributes d.attributes) _ (definition_kind_has_token d.kind)
