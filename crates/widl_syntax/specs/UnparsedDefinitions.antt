-- The signs of definitions and of files.
use Rattle.std.specs.Prelude.{true, Bool, false, Option, None, Some, List, [], ◌∷◌}
use Rattle.widl_idl.specs.declared.tree.callbacks.Callback.{Callback}
use Rattle.widl_idl.specs.declared.tree.callbacks.CallbackInterface.{CallbackInterface}
use Rattle.widl_idl.specs.declared.tree.definitions.Definition.{Definition}
use Rattle.widl_idl.specs.declared.tree.definitions.DefinitionKind.{DefinitionKind}
use Rattle.widl_idl.specs.declared.tree.definitions.DefinitionKind.TheVariants as kind
use Rattle.widl_idl.specs.declared.tree.dictionaries.Dictionary.{Dictionary}
use Rattle.widl_idl.specs.declared.tree.dictionaries.DictionaryMember.{DictionaryMember}
use Rattle.widl_idl.specs.declared.tree.enumerations.Enumeration.{Enumeration}
use Rattle.widl_idl.specs.declared.tree.enumerations.EnumerationValue.{EnumerationValue}
use Rattle.widl_idl.specs.declared.tree.fragments.Fragment.{Fragment}
use Rattle.widl_idl.specs.declared.tree.interfaces.Includes.{Includes}
use Rattle.widl_idl.specs.declared.tree.interfaces.Interface.{Interface}
use Rattle.widl_idl.specs.declared.tree.interfaces.Mixin.{Mixin}
use Rattle.widl_idl.specs.declared.tree.interfaces.Namespace.{Namespace}
use Rattle.widl_idl.specs.declared.tree.names.Name.{Name}
use Rattle.widl_idl.specs.declared.tree.typedefs.Typedef.{Typedef}
use Rattle.widl_idl.specs.declared.tree.types.AnnotatedType.{AnnotatedType}
use Rattle.widl_grammar.specs.declared.terminal.Terminal.TheVariants as t
use Rattle.widl_syntax.specs.Signs.{Sign, OfBytes, at, word, all_signs, separated, ◌⧺◌}
use Rattle.widl_syntax.specs.UnparsedNames.{identifier, word_if, extended_attributes, default_value, quoted_bytes}
use Rattle.widl_syntax.specs.UnparsedTypes.{written_type, annotated_type, bare_type}
use Rattle.widl_syntax.specs.UnparsedMembers.{in_parentheses, member}

abbrev pub parent : Option Name → List Sign
parent None = []
parent (Some name) = word t.Colon ⧺ identifier name

-- what follows a definition's name and parent: members in braces, and a semicolon
abbrev pub body : List Sign → List Sign
body inner = word t.OpenBrace ⧺ inner ⧺ word t.CloseBrace ⧺ word t.Semicolon

-- callbacks after the word `callback`
abbrev pub callback_rest : Callback → List Sign
callback_rest c = identifier c.name ⧺ word t.Equals ⧺ written_type c.result ⧺ in_parentheses c.arguments ⧺ word t.Semicolon

abbrev pub callback_interface_rest : CallbackInterface → List Sign
callback_interface_rest c = word t.Interface ⧺ identifier c.name ⧺ body (all_signs member c.members)

-- interfaces and mixins after the word `interface`
abbrev pub interface_rest : Interface → List Sign
interface_rest i = identifier i.name ⧺ parent i.parent ⧺ body (all_signs member i.members)

abbrev pub mixin_rest : Mixin → List Sign
mixin_rest m = word t.Mixin ⧺ identifier m.name ⧺ body (all_signs member m.members)

-- namespaces and dictionaries without the word `partial`
abbrev pub namespace : Namespace → List Sign
namespace n = word t.Namespace ⧺ identifier n.name ⧺ body (all_signs member n.members)

-- the type of a dictionary's member, which has extended attributes of its own only where the member is required
abbrev pub member_type : Bool → AnnotatedType → List Sign
member_type true ty = word t.Required ⧺ annotated_type ty
member_type false ty = bare_type ty

-- a dictionary's member after its extended attributes
abbrev pub dictionary_member_rest : DictionaryMember → List Sign
dictionary_member_rest m = member_type m.required m.ty ⧺ identifier m.name ⧺ default_value m.default ⧺ word t.Semicolon

abbrev pub dictionary_member : DictionaryMember → List Sign
dictionary_member m = extended_attributes m.attributes ⧺ dictionary_member_rest m

abbrev pub dictionary : Dictionary → List Sign
dictionary d = word t.Dictionary ⧺ identifier d.name ⧺ parent d.parent ⧺ body (all_signs dictionary_member d.members)

abbrev pub enumeration_value : EnumerationValue → List Sign
enumeration_value v = at v.at ⧺ OfBytes t.String (quoted_bytes v.text) ∷ []

abbrev pub enumeration : Enumeration → List Sign
enumeration e = word t.Enum ⧺ identifier e.name ⧺ body (separated t.Comma enumeration_value e.values ⧺ word_if e.trailing_comma t.Comma)

abbrev pub typedef : Typedef → List Sign
typedef d = word t.Typedef ⧺ annotated_type d.ty ⧺ identifier d.name ⧺ word t.Semicolon

abbrev pub includes : Includes → List Sign
includes i = identifier i.interface ⧺ word t.Includes ⧺ identifier i.mixin ⧺ word t.Semicolon

-- whether the word `partial` stands before a definition
abbrev pub is_partial : DefinitionKind → Bool
is_partial (kind.Callback c) = false
is_partial (kind.CallbackInterface c) = false
is_partial (kind.Interface i) = i.partial
is_partial (kind.Mixin m) = m.partial
is_partial (kind.Namespace n) = n.partial
is_partial (kind.Dictionary d) = d.partial
is_partial (kind.Enumeration e) = false
is_partial (kind.Typedef d) = false
is_partial (kind.Includes i) = false

-- a definition after that word
abbrev pub after_partial : DefinitionKind → List Sign
after_partial (kind.Callback c) = word t.Callback ⧺ callback_rest c
after_partial (kind.CallbackInterface c) = word t.Callback ⧺ callback_interface_rest c
after_partial (kind.Interface i) = word t.Interface ⧺ interface_rest i
after_partial (kind.Mixin m) = word t.Interface ⧺ mixin_rest m
after_partial (kind.Namespace n) = namespace n
after_partial (kind.Dictionary d) = dictionary d
after_partial (kind.Enumeration e) = enumeration e
after_partial (kind.Typedef d) = typedef d
after_partial (kind.Includes i) = includes i

abbrev pub definition_kind : DefinitionKind → List Sign
definition_kind k = word_if (is_partial k) t.Partial ⧺ after_partial k

abbrev pub definition : Definition → List Sign
definition d = extended_attributes d.attributes ⧺ definition_kind d.kind

-- the signs of a file
abbrev pub fragment : Fragment → List Sign
fragment f = all_signs definition f.definitions
