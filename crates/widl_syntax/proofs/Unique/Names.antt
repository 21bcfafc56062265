-- Names, extended attributes and literals have one spelling each.
use Rattle.std.proofs.Common.{sym, ◌∙◌, ap, if◌then◌else◌, ◌≡◌, ℕ, Bool, true, false, Option, Some, List, [], ◌∷◌, ◌++◌, refl}
use Rattle.std.specs.Global.{Box}
use Rattle.std.specs.Prelude.{map, not}
use Rattle.widl_lex.specs.Tokens.{Lexeme}
use Rattle.widl_grammar.specs.declared.terminal.Terminal.{Terminal}
use Rattle.widl_idl.specs.declared.tree.extended_attributes.ExtendedAttribute.{ExtendedAttribute}
use Rattle.widl_idl.specs.declared.tree.literals.Literal.{Literal}
use Rattle.widl_idl.specs.declared.tree.literals.LiteralValue.{LiteralValue}
use Rattle.widl_idl.specs.declared.tree.literals.LiteralValue.TheVariants as value
use Rattle.widl_idl.specs.declared.tree.names.Name.{Name}
use Rattle.widl_grammar.specs.declared.rule.Rule.{Rule}
use Rattle.widl_grammar.specs.declared.rule.Rule.TheVariants.{ExtendedAttributeRest, OperationName}
use Rattle.widl_grammar.specs.declared.terminal.Terminal.TheVariants as t
use Rattle.widl_syntax.specs.Signs.{Sign, Nowhere, after}
use Rattle.widl_syntax.specs.UnparsedNames.{name_bytes, is_escape_apart, escape_apart, identifier, is_word_of, any_name, optional_name, text_of, extended_attribute, extended_attributes, quoted_bytes, literal_value, literal, default_value}
use Rattle.widl_syntax.proofs.Unique.Same.{SameName, SameOption, SameExtendedAttribute, SameExtendedAttributes, SameValue, SameLiteral, SameBoxed}
use Rattle.widl_grammar.specs.Tables.{sets}
use Rattle.widl_syntax.specs.Reading.{terminal_ahead}
use Rattle.widl_syntax.proofs.Derived.{Follows}
use Rattle.widl_syntax.proofs.Reading.{ahead_is, is_among, is_other}
use Rattle.widl_syntax.proofs.Unique.Ahead.{Keeps, begins_else, NoneAhead, IsAhead, Anywhere, word_ahead}
use Rattle.widl_syntax.proofs.Unique.Tells.{Tells, told, under, nothing_told, then_tells, up_to, place_then, word_then, word_told, bytes_then, text_then, clashes}
use Rattle.widl_syntax.proofs.Unique.Items.{SeparatedTell, not_without, begins_another, none_some, some_none, option_tells, separated_tell}
use Rattle.widl_syntax.proofs.Unique.Parts.{part_tells}

-- whether a `_` stands before a name is told by the bytes
abbrev IsApart : Name → Type 0
IsApart name = is_escape_apart name.escaped name.text ≡ true

escape_tells : (a b : Bool) → Tells ((a ≡ true) × (b ≡ true)) Anywhere (if a then [] else Nowhere ∷ []) (if b then [] else Nowhere ∷ [])
escape_tells true true = told nothing_told (λ u. (refl, refl))
escape_tells true false = record { tells = λ w m n s r em en. absurd r.1 }
escape_tells false b = record { tells = λ w m n s r em en. absurd s.1 }

apart_tells : (a b : Name) → Tells (IsApart a × IsApart b) Anywhere (escape_apart a) (escape_apart b)
apart_tells a b = escape_tells (is_escape_apart a.escaped a.text) (is_escape_apart b.escaped b.text)

same_text : (e f : Bool) (xs ys : List ℕ) → (if e then 0x5F ∷ xs else xs) ≡ (if f then 0x5F ∷ ys else ys) → is_escape_apart e xs ≡ true → is_escape_apart f ys ≡ true → (e ≡ f) × (xs ≡ ys)
same_text true true xs ys same h k = (refl, cc)
same_text false false xs ys same h k = (refl, same)
same_text true false xs ys same h k = let bad : false ≡ true = ap (is_escape_apart false) same ∙ k in cc
same_text false true xs ys same h k = let bad : false ≡ true = ap (is_escape_apart false) (sym same) ∙ h in cc

same_name : (a b : Name) → a.at ≡ b.at → name_bytes a ≡ name_bytes b → IsApart a → IsApart b → SameName a b
same_name a b place same h k =
    let both = same_text a.escaped b.escaped a.text b.text same h k in
    record { at = place; escaped = both.0; text = both.1 }

pub identifier_tells : (a b : Name) → Tells (SameName a b) Anywhere (identifier a) (identifier b)
identifier_tells a b = told (place_then a.at b.at (bytes_then t.Identifier (name_bytes a) (name_bytes b) (apart_tells a b))) (λ p. same_name a b p.0 p.1.0 p.1.1.0 p.1.1.1)

pub any_name_tells : (rule : Rule) (a b : Name) → Tells (SameName a b) Anywhere (any_name rule a) (any_name rule b)
any_name_tells rule a b = told (place_then a.at b.at (text_then (is_word_of rule) (name_bytes a) (name_bytes b) (apart_tells a b))) (λ p. same_name a b p.0 p.1.0 p.1.1.0 p.1.1.1)

-- an operation's name, before a parenthesis
pub optional_name_tells : (a b : Option Name) → Tells (SameOption SameName a b) (IsAhead t.OpenParen) (optional_name a) (optional_name b)
optional_name_tells a b = option_tells optional_name refl (λ x. begins_another t.OpenParen (any_name OperationName x) refl) (λ x y. under (any_name_tells OperationName x y)) a b

-- a comma or a bracket follows an extended attribute
follows_attribute : (t : Terminal) (w : List Lexeme) → is_other t ≡ false → sets.follow ExtendedAttributeRest (Some t) ≡ true → terminal_ahead w ≡ t → Follows ExtendedAttributeRest w
follows_attribute t w other h e = record { follows = ap (sets.follow ExtendedAttributeRest) (ahead_is t w other e) ∙ h }

extended_attribute_tells : (a b : ExtendedAttribute) → Tells (SameExtendedAttribute a b) (Follows ExtendedAttributeRest) (extended_attribute a) (extended_attribute b)
extended_attribute_tells a b = told (then_tells (identifier_tells a.name b.name) (part_tells ExtendedAttributeRest (map text_of a.arguments) (map text_of b.arguments))) (λ p. record { name = p.0; arguments = p.1 })

between_brackets : SeparatedTell t.Comma (Follows ExtendedAttributeRest) (IsAhead t.CloseBracket) extended_attribute SameExtendedAttribute
between_brackets = record {
  last = λ w is. follows_attribute t.CloseBracket w refl refl is.ahead;
  next = λ x. record { keeps = λ w m s fm. follows_attribute t.Comma w refl refl (word_ahead (extended_attribute x) m s) };
  more = λ x. begins_another t.CloseBracket (after t.Comma extended_attribute x) refl;
  begins = λ x. begins_another t.CloseBracket (extended_attribute x) refl;
  tells = extended_attribute_tells;
}

pub extended_attributes_tell : (xs ys : List ExtendedAttribute) → Tells (SameExtendedAttributes xs ys) (NoneAhead (t.OpenBracket ∷ [])) (extended_attributes xs) (extended_attributes ys)
extended_attributes_tell [] [] = nothing_told
extended_attributes_tell [] (y ∷ ys) = none_some (not_without t.OpenBracket (extended_attributes (y ∷ ys)) refl refl)
extended_attributes_tell (x ∷ xs) [] = some_none (not_without t.OpenBracket (extended_attributes (x ∷ xs)) refl refl)
extended_attributes_tell (x ∷ xs) (y ∷ ys) =
    under (word_then t.OpenBracket
    (told (up_to t.CloseBracket refl (separated_tell between_brackets (x ∷ xs) (y ∷ ys)) nothing_told) (λ p. p.0)))

-- signs after extended attributes, or where there are none
pub after_attributes : {F : List Lexeme → Type 0} (attributes : List ExtendedAttribute) (x : List Sign) (ts : List Terminal) → not (is_among ts t.OpenBracket) ≡ true → Keeps (NoneAhead ts) F x → Keeps (NoneAhead ts) F (extended_attributes attributes ++ x)
after_attributes [] x ts h k = k
after_attributes (a ∷ more) x ts h k = begins_else (extended_attributes (a ∷ more) ++ x) ts h

cut_end : (xs ys : List ℕ) (b : ℕ) → xs ++ b ∷ [] ≡ ys ++ b ∷ [] → xs ≡ ys
cut_end [] [] b e = refl
cut_end [] (y ∷ []) b e = cc
cut_end [] (y ∷ z ∷ ys) b e = cc
cut_end (x ∷ []) [] b e = cc
cut_end (x ∷ z ∷ xs) [] b e = cc
cut_end (x ∷ xs) (y ∷ ys) b e =
    let first : x ≡ y = cc in
    let rest = cut_end xs ys b cc in
    λ i. first i ∷ rest i

-- a text is told by its token
pub in_quotes : (xs ys : List ℕ) → quoted_bytes xs ≡ quoted_bytes ys → xs ≡ ys
in_quotes xs ys e = cut_end xs ys 0x22 cc

value_tells : (a b : LiteralValue) → Tells (SameValue a b) Anywhere (literal_value a) (literal_value b)
value_tells value.Null value.Null = word_told t.Null
value_tells value.Undefined value.Undefined = word_told t.Undefined
value_tells (value.Boolean true) (value.Boolean true) = told (word_told t.True) (λ u. refl)
value_tells (value.Boolean false) (value.Boolean false) = told (word_told t.False) (λ u. refl)
value_tells (value.Integer a) (value.Integer b) = told (bytes_then t.Integer a b nothing_told) (λ p. p.0)
value_tells (value.Decimal a) (value.Decimal b) = told (bytes_then t.Decimal a b nothing_told) (λ p. p.0)
value_tells value.Infinity value.Infinity = word_told t.Infinity
value_tells value.MinusInfinity value.MinusInfinity = word_told t.MinusInfinity
value_tells value.NotANumber value.NotANumber = word_told t.Nan
value_tells (value.Text a) (value.Text b) = told (bytes_then t.String (quoted_bytes a) (quoted_bytes b) nothing_told) (λ p. in_quotes a b p.0)
value_tells value.EmptySequence value.EmptySequence = word_then t.OpenBracket (word_told t.CloseBracket)
value_tells value.EmptyDictionary value.EmptyDictionary = word_then t.OpenBrace (word_told t.CloseBrace)
value_tells (value.Boolean true) b = clashes (literal_value (value.Boolean true)) (literal_value b) refl
value_tells (value.Boolean false) b = clashes (literal_value (value.Boolean false)) (literal_value b) refl
value_tells a (value.Boolean true) = clashes (literal_value a) (literal_value (value.Boolean true)) refl
value_tells a (value.Boolean false) = clashes (literal_value a) (literal_value (value.Boolean false)) refl
value_tells a b = clashes (literal_value a) (literal_value b) refl

pub literal_tells : (a b : Literal) → Tells (SameLiteral a b) Anywhere (literal a) (literal b)
literal_tells a b = told (place_then a.at b.at (value_tells a.value b.value)) (λ p. record { at = p.0; value = p.1 })

-- a default value, where no `=` follows
pub default_value_tells : (a b : Option (Box Literal)) → Tells (SameOption SameBoxed a b) (NoneAhead (t.Equals ∷ [])) (default_value a) (default_value b)
default_value_tells a b = option_tells default_value refl (λ x. not_without t.Equals (default_value (Some x)) refl refl) (λ x y. under (word_then t.Equals (literal_tells x.value y.value))) a b
