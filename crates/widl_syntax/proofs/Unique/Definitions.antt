-- Definitions and files have one spelling each.
use Rattle.std.proofs.Common.{◌≡◌, ℕ, ◌<◌, Bool, true, false, Option, Some, List, [], ◌∷◌, length, refl, sym, ◌∙◌, ap, subst, arith, drop}
use Rattle.std.specs.Prelude.{not}
use Rattle.widl_idl.specs.declared.tree.callbacks.Callback.{Callback}
use Rattle.widl_idl.specs.declared.tree.callbacks.CallbackInterface.{CallbackInterface}
use Rattle.widl_idl.specs.declared.tree.definitions.Definition.{Definition}
use Rattle.widl_idl.specs.declared.tree.definitions.DefinitionKind.{DefinitionKind}
use Rattle.widl_idl.specs.declared.tree.definitions.DefinitionKind.TheVariants as kind
use Rattle.widl_idl.specs.declared.tree.dictionaries.Dictionary.{Dictionary}
use Rattle.widl_idl.specs.declared.tree.dictionaries.DictionaryMember.{DictionaryMember}
use Rattle.widl_idl.specs.declared.tree.enumerations.Enumeration.{Enumeration}
use Rattle.widl_idl.specs.declared.tree.enumerations.EnumerationValue.{EnumerationValue}
use Rattle.widl_idl.specs.declared.tree.interfaces.Includes.{Includes}
use Rattle.widl_idl.specs.declared.tree.interfaces.Interface.{Interface}
use Rattle.widl_idl.specs.declared.tree.interfaces.Mixin.{Mixin}
use Rattle.widl_idl.specs.declared.tree.interfaces.Namespace.{Namespace}
use Rattle.widl_idl.specs.declared.tree.names.Name.{Name}
use Rattle.widl_idl.specs.declared.tree.typedefs.Typedef.{Typedef}
use Rattle.widl_idl.specs.declared.tree.types.AnnotatedType.{AnnotatedType}
use Rattle.widl_idl.specs.TypeTrees.{tree_of_type, tree_of_annotated}
use Rattle.widl_lex.specs.Tokens.{Lexeme}
use Rattle.widl_grammar.specs.declared.terminal.Terminal.{Terminal}
use Rattle.widl_grammar.specs.declared.terminal.Terminal.TheVariants as t
use Rattle.widl_syntax.specs.Signs.{Sign, UnparsesTo, word, all_signs, separated, ◌⧺◌}
use Rattle.widl_syntax.specs.UnparsedNames.{word_if, quoted_bytes}
use Rattle.widl_syntax.specs.UnparsedDefinitions.{parent, body, callback_rest, callback_interface_rest, interface_rest, mixin_rest, namespace, member_type, dictionary_member_rest, dictionary_member, dictionary, enumeration_value, enumeration, typedef, includes, is_partial, after_partial, definition_kind, definition}
use Rattle.widl_syntax.proofs.Unique.Same.{SameName, SameOption, SameItems, SameAnnotatedType, SameCallback, SameCallbackInterface, SameInterface, SameMixin, SameNamespace, SameDictionaryMember, SameDictionary, SameEnumerationValue, SameEnumeration, SameTypedef, SameIncludes, SameDefinitionKind, SameDefinition, SameDefinitions}
use Rattle.widl_syntax.specs.Reading.{terminal_ahead}
use Rattle.widl_syntax.proofs.Reading.{is_among}
use Rattle.widl_syntax.proofs.Lists.{fewer_left}
use Rattle.widl_syntax.proofs.Tokens.{definition_has_token}
use Rattle.widl_syntax.proofs.Unique.Ahead.{ahead_none, Keeps, NoneAhead, IsAhead, Anywhere, keeps_anywhere, word_ahead, after_word, head_ahead, ahead_among, begins_else, first_keeps, keeps_fewer}
use Rattle.widl_syntax.proofs.Unique.Tells.{where_ends, Tells, told, under, nothing_told, and_tells, then_tells, given, place_then, word_then, word_told, bytes_then, apart, apart_back, word_apart, and_else, up_to}
use Rattle.widl_syntax.proofs.Unique.Items.{ItemsTell, SeparatedTell, not_without, not_before, word_if_tells, word_if_keeps, option_tells, items_tell, separated_tell}
use Rattle.widl_syntax.proofs.Unique.Numbers.{number_at, by_first, by_two, of_one_number, other_number}
use Rattle.widl_syntax.proofs.Unique.Names.{identifier_tells, extended_attributes_tell, after_attributes, default_value_tells, in_quotes}
use Rattle.widl_syntax.proofs.Unique.Types.{TypeEnd, begin_no_type, type_tells, annotated_tells, bare_tells, bare_keeps}
use Rattle.widl_syntax.proofs.Unique.Arguments.{in_parentheses_tells}
use Rattle.widl_syntax.proofs.Unique.MemberKinds.{members_tell}

parent_tells : (a b : Option Name) → Tells (SameOption SameName a b) (NoneAhead (t.Colon ∷ [])) (parent a) (parent b)
parent_tells a b = option_tells parent refl (λ x. not_without t.Colon (parent (Some x)) refl refl) (λ x y. under (word_then t.Colon (identifier_tells x y))) a b

body_tells : {P : Type 0} {x y : List Sign} → Tells P (IsAhead t.CloseBrace) x y → Tells P Anywhere (body x) (body y)
body_tells f = word_then t.OpenBrace (told (up_to t.CloseBrace refl f (word_told t.Semicolon)) (λ p. p.0))

callback_tells : (a b : Callback) → Tells (SameCallback a b) Anywhere (callback_rest a) (callback_rest b)
callback_tells a b =
    told (then_tells (identifier_tells a.name b.name) (word_then t.Equals
    (and_else refl refl (type_tells (tree_of_type a.result) (tree_of_type b.result))
    (then_tells (in_parentheses_tells a.arguments b.arguments) (word_told t.Semicolon)))))
    (λ p. record { name = p.0; result_type = p.1.0; arguments = p.1.1.0 })

callback_interface_tells : (a b : CallbackInterface) → Tells (SameCallbackInterface a b) Anywhere (callback_interface_rest a) (callback_interface_rest b)
callback_interface_tells a b =
    told (word_then t.Interface (then_tells (identifier_tells a.name b.name) (body_tells (members_tell a.members b.members))))
    (λ p. record { name = p.0; members = p.1 })

interface_tells : (a b : Interface) → a.partial ≡ b.partial → Tells (SameInterface a b) Anywhere (interface_rest a) (interface_rest b)
interface_tells a b same =
    told (then_tells (identifier_tells a.name b.name)
    (and_else refl refl (parent_tells a.parent b.parent) (body_tells (members_tell a.members b.members))))
    (λ p. record { partial = same; name = p.0; parent = p.1.0; members = p.1.1 })

mixin_tells : (a b : Mixin) → a.partial ≡ b.partial → Tells (SameMixin a b) Anywhere (mixin_rest a) (mixin_rest b)
mixin_tells a b same =
    told (word_then t.Mixin (then_tells (identifier_tells a.name b.name) (body_tells (members_tell a.members b.members))))
    (λ p. record { partial = same; name = p.0; members = p.1 })

namespace_tells : (a b : Namespace) → a.partial ≡ b.partial → Tells (SameNamespace a b) Anywhere (namespace a) (namespace b)
namespace_tells a b same =
    told (word_then t.Namespace (then_tells (identifier_tells a.name b.name) (body_tells (members_tell a.members b.members))))
    (λ p. record { partial = same; name = p.0; members = p.1 })

-- the type of a dictionary's member, with the word `required` or without
member_type_tells : (a b : Bool) (x y : AnnotatedType) → Tells ((a ≡ b) × SameAnnotatedType x y) TypeEnd (member_type a x) (member_type b y)
member_type_tells true true x y = told (word_then t.Required (annotated_tells (tree_of_annotated x) (tree_of_annotated y))) (λ p. (refl, p))
member_type_tells false false x y = told (bare_tells (tree_of_annotated x) (tree_of_annotated y)) (λ p. (refl, p))
member_type_tells true false x y = apart (word_apart (member_type true x) (member_type false y) refl (bare_keeps (tree_of_annotated y) (t.Required ∷ []) refl))
member_type_tells false true x y = apart_back (word_apart (member_type true y) (member_type false x) refl (bare_keeps (tree_of_annotated x) (t.Required ∷ []) refl))

member_type_keeps : {F : List Lexeme → Type 0} (required : Bool) (ty : AnnotatedType) (ts : List Terminal) → begin_no_type ts ≡ true → not (is_among ts t.Required) ≡ true → Keeps (NoneAhead ts) F (member_type required ty)
member_type_keeps true ty ts h r = begins_else (member_type true ty) ts r
member_type_keeps false ty ts h r = bare_keeps (tree_of_annotated ty) ts h

rest_begins : (m : DictionaryMember) (ts : List Terminal) → begin_no_type ts ≡ true → not (is_among ts t.Required) ≡ true → Keeps (NoneAhead ts) Anywhere (dictionary_member_rest m)
rest_begins m ts h r = first_keeps _ (member_type_keeps m.required m.ty ts h r)

dictionary_member_tells : (a b : DictionaryMember) → Tells (SameDictionaryMember a b) Anywhere (dictionary_member a) (dictionary_member b)
dictionary_member_tells a b =
    told (and_tells (extended_attributes_tell a.attributes b.attributes)
    (and_else refl refl (member_type_tells a.required b.required a.ty b.ty)
    (then_tells (identifier_tells a.name b.name)
    (and_else refl refl (default_value_tells a.default b.default) (word_told t.Semicolon))))
    (rest_begins a (t.OpenBracket ∷ []) refl refl) (rest_begins b (t.OpenBracket ∷ []) refl refl))
    (λ p. record { attributes = p.0; required = p.1.0.0; ty = p.1.0.1; name = p.1.1.0; default = p.1.1.1.0 })

dictionary_braces : ItemsTell Anywhere (IsAhead t.CloseBrace) dictionary_member SameDictionaryMember
dictionary_braces = record {
  last = λ w is. tt;
  next = λ x. keeps_anywhere;
  begins = λ x. not_before (after_attributes x.attributes (dictionary_member_rest x) (t.CloseBrace ∷ []) refl (rest_begins x (t.CloseBrace ∷ []) refl refl));
  tells = dictionary_member_tells;
}

dictionary_tells : (a b : Dictionary) → a.partial ≡ b.partial → Tells (SameDictionary a b) Anywhere (dictionary a) (dictionary b)
dictionary_tells a b same =
    told (word_then t.Dictionary (then_tells (identifier_tells a.name b.name)
    (and_else refl refl (parent_tells a.parent b.parent) (body_tells (items_tell dictionary_braces a.members b.members)))))
    (λ p. record { partial = same; name = p.0; parent = p.1.0; members = p.1.1 })

enumeration_value_tells : (a b : EnumerationValue) → Tells (SameEnumerationValue a b) Anywhere (enumeration_value a) (enumeration_value b)
enumeration_value_tells a b =
    told (place_then a.at b.at (bytes_then t.String (quoted_bytes a.text) (quoted_bytes b.text) nothing_told))
    (λ p. record { at = p.0; text = in_quotes a.text b.text p.1.0 })

-- no text is ahead, and none after a comma
record ValuesEnd (w : List Lexeme) : Type 0 where
  here : NoneAhead (t.String ∷ []) w
  further : terminal_ahead w ≡ t.Comma → NoneAhead (t.String ∷ []) (drop 1 w)

between_values : SeparatedTell t.Comma Anywhere ValuesEnd enumeration_value SameEnumerationValue
between_values = record {
  last = λ w end. tt;
  next = λ x. keeps_anywhere;
  more = λ x. record { never = λ w m s end. ahead_among t.String (drop 1 w) (head_ahead (enumeration_value x) (drop 1 w) m refl (after_word (enumeration_value x) m s)) (end.further (word_ahead (enumeration_value x) m s)).none };
  begins = λ x. record { never = λ w m s end. ahead_among t.String w (head_ahead (enumeration_value x) w m refl s) end.here.none };
  tells = enumeration_value_tells;
}

comma_keeps : (b : Bool) → Keeps ValuesEnd (IsAhead t.CloseBrace) (word_if b t.Comma)
comma_keeps true = record {
  keeps = λ w m s is.
      let begins : Keeps (NoneAhead (t.String ∷ [])) Anywhere (word t.Comma) = begins_else (word t.Comma) (t.String ∷ []) refl in
      record { here = begins.keeps w m s tt; further = λ e. subst (NoneAhead (t.String ∷ [])) (sym (after_word [] m s)) (ahead_none t.CloseBrace (t.String ∷ []) refl m is) };
}
comma_keeps false = record {
  keeps = λ w m s is.
      let brace : IsAhead t.CloseBrace w = subst (IsAhead t.CloseBrace) (sym s) is in
      record { here = ahead_none t.CloseBrace (t.String ∷ []) refl w brace; further = λ e. let bad : t.Comma ≡ t.CloseBrace = sym e ∙ brace.ahead in cc };
}

-- the values and the comma that may stand after them, up to the brace
abbrev values : Enumeration → List Sign
values e = separated t.Comma enumeration_value e.values ⧺ word_if e.trailing_comma t.Comma

values_tell : (a b : Enumeration) → Tells (SameItems SameEnumerationValue a.values b.values × (a.trailing_comma ≡ b.trailing_comma)) (IsAhead t.CloseBrace) (values a) (values b)
values_tell a b =
    and_tells (separated_tell between_values a.values b.values)
    (where_ends (ahead_none t.CloseBrace (t.Comma ∷ []) refl) (word_if_tells t.Comma a.trailing_comma b.trailing_comma refl))
    (comma_keeps a.trailing_comma) (comma_keeps b.trailing_comma)

enumeration_tells : (a b : Enumeration) → Tells (SameEnumeration a b) Anywhere (enumeration a) (enumeration b)
enumeration_tells a b =
    told (word_then t.Enum (then_tells (identifier_tells a.name b.name) (body_tells (values_tell a b))))
    (λ p. record { name = p.0; values = p.1.0; trailing_comma = p.1.1 })

typedef_tells : (a b : Typedef) → Tells (SameTypedef a b) Anywhere (typedef a) (typedef b)
typedef_tells a b =
    told (word_then t.Typedef (and_else refl refl (annotated_tells (tree_of_annotated a.ty) (tree_of_annotated b.ty))
    (then_tells (identifier_tells a.name b.name) (word_told t.Semicolon))))
    (λ p. record { ty = p.0; name = p.1.0 })

includes_tells : (a b : Includes) → Tells (SameIncludes a b) Anywhere (includes a) (includes b)
includes_tells a b =
    told (then_tells (identifier_tells a.interface b.interface) (word_then t.Includes
    (then_tells (identifier_tells a.mixin b.mixin) (word_told t.Semicolon))))
    (λ p. record { interface_name = p.0; mixin_name = p.1.0 })

-- the first two tokens after the word `partial` tell the kind of a definition
abbrev number_of : DefinitionKind → ℕ
number_of (kind.Callback c) = 0
number_of (kind.CallbackInterface c) = 1
number_of (kind.Interface i) = 2
number_of (kind.Mixin m) = 3
number_of (kind.Namespace n) = 4
number_of (kind.Dictionary d) = 5
number_of (kind.Enumeration e) = 6
number_of (kind.Typedef d) = 7
number_of (kind.Includes i) = 8

abbrev after_callback : Terminal → ℕ
after_callback t.Interface = 1
after_callback _ = 0

abbrev after_interface : Terminal → ℕ
after_interface t.Mixin = 3
after_interface _ = 2

abbrev number_by : Terminal → Terminal → ℕ
number_by t.Callback after = after_callback after
number_by t.Interface after = after_interface after
number_by t.Namespace after = 4
number_by t.Dictionary after = 5
number_by t.Enum after = 6
number_by t.Typedef after = 7
number_by _ after = 8

kind_ahead : (k : DefinitionKind) (w m : List Lexeme) → UnparsesTo (after_partial k) w m → number_at number_by w ≡ number_of k
kind_ahead (kind.Callback c) w m s = by_two number_by t.Callback (callback_rest c) w m refl s
kind_ahead (kind.CallbackInterface c) w m s = by_two number_by t.Callback (callback_interface_rest c) w m refl s
kind_ahead (kind.Interface i) w m s = by_two number_by t.Interface (interface_rest i) w m refl s
kind_ahead (kind.Mixin x) w m s = by_two number_by t.Interface (mixin_rest x) w m refl s
kind_ahead (kind.Namespace n) w m s = by_first number_by (namespace n) w m refl s
kind_ahead (kind.Dictionary d) w m s = by_first number_by (dictionary d) w m refl s
kind_ahead (kind.Enumeration e) w m s = by_first number_by (enumeration e) w m refl s
kind_ahead (kind.Typedef d) w m s = by_first number_by (typedef d) w m refl s
kind_ahead (kind.Includes i) w m s = by_first number_by (includes i) w m refl s

of_one_kind : (a b : DefinitionKind) → is_partial a ≡ is_partial b → number_of a ≡ number_of b → Tells (SameDefinitionKind a b) Anywhere (after_partial a) (after_partial b)
of_one_kind (kind.Callback a) (kind.Callback b) same e = word_then t.Callback (callback_tells a b)
of_one_kind (kind.CallbackInterface a) (kind.CallbackInterface b) same e = word_then t.Callback (callback_interface_tells a b)
of_one_kind (kind.Interface a) (kind.Interface b) same e = word_then t.Interface (interface_tells a b same)
of_one_kind (kind.Mixin a) (kind.Mixin b) same e = word_then t.Interface (mixin_tells a b same)
of_one_kind (kind.Namespace a) (kind.Namespace b) same e = namespace_tells a b same
of_one_kind (kind.Dictionary a) (kind.Dictionary b) same e = dictionary_tells a b same
of_one_kind (kind.Enumeration a) (kind.Enumeration b) same e = enumeration_tells a b
of_one_kind (kind.Typedef a) (kind.Typedef b) same e = typedef_tells a b
of_one_kind (kind.Includes a) (kind.Includes b) same e = includes_tells a b
of_one_kind a b same e = other_number (number_of a) (number_of b) e refl

after_partial_tells : (a b : DefinitionKind) → is_partial a ≡ is_partial b → Tells (SameDefinitionKind a b) Anywhere (after_partial a) (after_partial b)
after_partial_tells a b same = of_one_number number_by after_partial number_of kind_ahead a b (of_one_kind a b same)

-- what a definition begins with after its extended attributes
after_partial_keeps : (k : DefinitionKind) → Keeps (NoneAhead (t.Partial ∷ t.OpenBracket ∷ [])) Anywhere (after_partial k)
after_partial_keeps (kind.Callback c) = begins_else (after_partial (kind.Callback c)) (t.Partial ∷ t.OpenBracket ∷ []) refl
after_partial_keeps k = begins_else (after_partial k) (t.Partial ∷ t.OpenBracket ∷ []) refl

definition_kind_tells : (a b : DefinitionKind) → Tells (SameDefinitionKind a b) Anywhere (definition_kind a) (definition_kind b)
definition_kind_tells a b =
    given (word_if_tells t.Partial (is_partial a) (is_partial b) refl) (λ same. after_partial_tells a b same)
    (keeps_fewer (t.Partial ∷ []) (t.Partial ∷ t.OpenBracket ∷ []) refl (after_partial_keeps a)) (keeps_fewer (t.Partial ∷ []) (t.Partial ∷ t.OpenBracket ∷ []) refl (after_partial_keeps b))

definition_kind_keeps : (k : DefinitionKind) → Keeps (NoneAhead (t.OpenBracket ∷ [])) Anywhere (definition_kind k)
definition_kind_keeps k = word_if_keeps t.Partial (is_partial k) (after_partial k) (t.OpenBracket ∷ []) refl (keeps_fewer (t.OpenBracket ∷ []) (t.Partial ∷ t.OpenBracket ∷ []) refl (after_partial_keeps k))

definition_tells : (a b : Definition) → Tells (SameDefinition a b) Anywhere (definition a) (definition b)
definition_tells a b =
    told (and_tells (extended_attributes_tell a.attributes b.attributes) (definition_kind_tells a.kind b.kind) (definition_kind_keeps a.kind) (definition_kind_keeps b.kind))
    (λ p. record { attributes = p.0; kind = p.1 })

-- the definitions of a file go up to its end
abbrev pub IsEnd : List Lexeme → Type 0
IsEnd w = w ≡ []

in_file : ItemsTell Anywhere IsEnd definition SameDefinition
in_file = record {
  last = λ w end. tt;
  next = λ x. keeps_anywhere;
  begins = λ x. record { never = λ w m s end. none_at_end x w m s end };
  tells = definition_tells;
}
  where
    none_at_end : (x : Definition) (w m : List Lexeme) → UnparsesTo (definition x) w m → w ≡ [] → ⊥
    none_at_end x w m s end =
        let fewer : length m < length w = fewer_left (definition x) w m (definition_has_token x) s in
        let none : length w ≡ 0 = ap length end in
        omega arith

pub definitions_tell : (xs ys : List Definition) → Tells (SameDefinitions xs ys) IsEnd (all_signs definition xs) (all_signs definition ys)
definitions_tell = items_tell in_file
