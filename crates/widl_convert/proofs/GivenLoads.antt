-- For proofs alone. How much the items of a value that is given cost on its way to script.
use Rattle.std.proofs.Common.{◌≡◌, ℕ, ◌+◌, ◌≤◌, Bool, true, false, if◌then◌else◌, List, [], ◌∷◌, ◌++◌, Option, Some, None, refl, ap, ◌∙◌, arith}
use Rattle.std.specs.Prelude.{bytes_eq}
use Rattle.std.specs.Option.{option_map_or}
use Rattle.widl_idl.specs.declared.literal.Literal.{Literal}
use Rattle.widl_idl.specs.declared.literal.Literal.TheVariants as literals
use Rattle.widl_idl.specs.DefinitionTerms.{DefsTerm}
use Rattle.widl_idl.specs.Flattened.{flattened_member}
use Rattle.widl_idl.specs.Terms.{TypeTerm, AnyType, UndefinedType, BooleanType, IntegerType, StringType, EnumerationType, InterfaceType, CallbackFunctionType, CallbackInterfaceType, DictionaryType, ObjectType, SequenceType, RecordType, PromiseType, NullableType, UnionType}
use Rattle.widl_value.specs.IdlTerms.{IdlTerm, StringValue}
use Rattle.widl_steps.specs.Defaults.{enumeration_among, literal_value, null_of, text_of, value_of_text}
use Rattle.widl_steps.specs.Records.{with_entry}
use Rattle.widl_steps.specs.Tasks.{Talk}
use Rattle.widl_steps.specs.Words.{gives}
use Rattle.widl_convert.specs.Loads.{item_load, made_entries_load, made_members_load, value_load}

-- 1. An entry, a member

set_in_place : (name : List ℕ) (w : IdlTerm) (e : List ℕ × IdlTerm) (made : List (List ℕ × IdlTerm)) (b : Bool) → made_entries_load (with_entry name w made) ≤ item_load + value_load w + made_entries_load made → made_entries_load (if b then (name, w) ∷ made else e ∷ with_entry name w made) ≤ item_load + value_load w + made_entries_load (e ∷ made)
set_in_place name w e made true later = omega arith
set_in_place name w e made false later = omega (arith, later)

pub entry_put : (name : List ℕ) (w : IdlTerm) (made : List (List ℕ × IdlTerm)) → made_entries_load (with_entry name w made) ≤ item_load + value_load w + made_entries_load made
entry_put name w [] = omega arith
entry_put name w (e ∷ made) = set_in_place name w e made (bytes_eq name e.0) (entry_put name w made)

pub member_put : (made : List (ℕ × ℕ × IdlTerm)) (m : ℕ × ℕ × IdlTerm) → made_members_load (made ++ m ∷ []) ≡ item_load + value_load m.2 + made_members_load made
member_put [] m = refl
member_put (n ∷ made) m = let later = member_put made m in omega (arith, later)

-- 2. No literal has items

null_costs_nothing : (t : TypeTerm) → value_load (null_of t) ≡ 0
null_costs_nothing AnyType = refl
null_costs_nothing UndefinedType = refl
null_costs_nothing BooleanType = refl
null_costs_nothing (IntegerType kind mode) = refl
null_costs_nothing (StringType kind null_empty) = refl
null_costs_nothing (EnumerationType n) = refl
null_costs_nothing (InterfaceType n) = refl
null_costs_nothing (CallbackFunctionType n) = refl
null_costs_nothing (CallbackInterfaceType n) = refl
null_costs_nothing (DictionaryType n) = refl
null_costs_nothing ObjectType = refl
null_costs_nothing (SequenceType t) = refl
null_costs_nothing (RecordType key t) = refl
null_costs_nothing (PromiseType t) = refl
null_costs_nothing (NullableType t) = refl
null_costs_nothing (UnionType ts) = refl

text_costs_nothing : (list : DefsTerm) (text : List ℕ) (n : Option ℕ) → value_load (option_map_or (λ (n : ℕ). value_of_text list n text) n (StringValue text)) ≡ 0
text_costs_nothing list text None = refl
text_costs_nothing list text (Some n) = refl

costs_as : (u w : IdlTerm) → ◌≡◌ {A = Talk} (gives u) (gives w) → value_load u ≡ 0 → value_load w ≡ 0
costs_as u w same nothing = let e : w ≡ u = cc in ap value_load e ∙ nothing

pub literal_costs_nothing : (list : DefsTerm) (t : TypeTerm) (l : Literal) (w : IdlTerm) → literal_value list t l ≡ gives w → value_load w ≡ 0
literal_costs_nothing list t literals.Null w is = costs_as (null_of t) w is (null_costs_nothing t)
literal_costs_nothing list t literals.Undefined w is = costs_as _ w is refl
literal_costs_nothing list t (literals.Bool b) w is = costs_as _ w is refl
literal_costs_nothing list t (literals.Int n) w is = costs_as _ w is refl
literal_costs_nothing list t (literals.Text text) w is = costs_as (text_of list t text) w is (text_costs_nothing list text (enumeration_among (flattened_member t)))
literal_costs_nothing list t literals.EmptyList w is = costs_as _ w is refl
literal_costs_nothing list t literals.EmptyDict w is = absurd (cc)
