-- A default value that fits its type as both are written fits what the type means.
use Rattle.std.proofs.Common.{◌≡◌, true, ◌&&◌, ◌||◌, List, None, Some, refl, sym, ap, ◌∙◌}
use Rattle.std.specs.List.{list_any}
use Rattle.std.proofs.Math.Bool.{or-true}
use Rattle.widl_text.specs.declared.place.Place.{Place}
use Rattle.widl_idl.specs.declared.text_kind.TextKind.TheVariants as texts
use Rattle.widl_idl.specs.declared.tree.types.Container.TheVariants as container
use Rattle.widl_idl.specs.DefinitionTerms.{DefsTerm}
use Rattle.widl_idl.specs.Flattened.{flattened_member, includes_nullable_type}
use Rattle.widl_idl.specs.First.{FirstWhere}
use Rattle.widl_idl.specs.PlainTrees.{PlainDefinition}
use Rattle.widl_idl.specs.PlainTypes.{PlainAnnotated, PlainAttribute, PlainForm, PlainType, PlainBoolean, PlainText, PlainContainer, plain_annotated, plain_type, PlainValue, NullValue, BooleanValue, TextValue, EmptySequenceValue}
use Rattle.widl_idl.specs.Resolution.{Note, nullable_of}
use Rattle.widl_idl.specs.Terms.{TypeTerm, NullableType}
use Rattle.widl_idl.specs.WrittenTypes.{meaning_of_type, meaning_with}
use Rattle.widl_overload.specs.rules.DefaultRules.{Defaulted, IsOtherDefault}
use Rattle.widl_fits.specs.declared.tables.Tables.{Tables}
use Rattle.widl_fits.specs.Fitting.{Knows, fits_if, literal_if, null_if, takes, takes_if}
use Rattle.widl_inheritance.specs.WrittenFitting.{fits_as_written, is_value_of_form}
use Rattle.widl_inheritance.proofs.Fits.{other_here}

-- a type with a `?` includes a nullable type
includes_nullable : (t : TypeTerm) → includes_nullable_type (nullable_of t) ≡ true
includes_nullable (NullableType t) = by_inner t
  where
    by_inner : (t : TypeTerm) → includes_nullable_type (nullable_of (NullableType t)) ≡ true
    by_inner (NullableType t) = refl
    by_inner t = refl
includes_nullable t = refl

-- and the same flattened members
flattened_nullable : (t : TypeTerm) → flattened_member (nullable_of t) ≡ flattened_member t
flattened_nullable (NullableType t) = by_inner t
  where
    by_inner : (t : TypeTerm) → flattened_member (nullable_of (NullableType t)) ≡ flattened_member (NullableType t)
    by_inner (NullableType t) = refl
    by_inner t = refl
flattened_nullable t = refl

module _ (tables : Tables) (definitions : List PlainDefinition) (notes : List Note) where
  form_fits : (at : Place) (form : PlainForm) (value : PlainValue) → is_value_of_form form value ≡ true → list_any (takes_if tables (literal_if value)) (flattened_member (meaning_of_type definitions notes (plain_type at form None))) ≡ true
  unfolding takes
  form_fits at PlainBoolean (BooleanValue b) e = refl
  form_fits at (PlainText texts.Dom) (TextValue text) e = refl
  form_fits at (PlainText texts.Usv) (TextValue text) e = refl
  form_fits at (PlainText texts.Byte) (TextValue text) e = absurd (cc)
  form_fits at (PlainContainer container.Sequence (plain_annotated place attributes inner)) EmptySequenceValue e = refl
  form_fits at (PlainContainer container.AsyncSequence inner) EmptySequenceValue e = absurd (cc)
  form_fits at (PlainContainer container.FrozenArray inner) EmptySequenceValue e = absurd (cc)
  form_fits at (PlainContainer container.ObservableArray inner) EmptySequenceValue e = absurd (cc)
  form_fits at form value e = absurd (cc)

  type_fits : (t : PlainType) (value : PlainValue) → fits_as_written t value ≡ true → fits_if tables (literal_if value) (meaning_of_type definitions notes t) ≡ true
  type_fits (plain_type at form (Some question)) NullValue e = ap (λ b. b || list_any (takes_if tables (literal_if NullValue)) (flattened_member (meaning_of_type definitions notes (plain_type at form (Some question))))) (includes_nullable (meaning_of_type definitions notes (plain_type at form None)))
  type_fits (plain_type at form (Some question)) value e =
      let inner = meaning_of_type definitions notes (plain_type at form None) in
      let includes = includes_nullable_type (nullable_of inner) in
      ap (λ l. (null_if (literal_if value) && includes) || list_any (takes_if tables (literal_if value)) l) (flattened_nullable inner)
      ∙ ap (λ b. (null_if (literal_if value) && includes) || b) (form_fits at form value e) ∙ or-true (null_if (literal_if value) && includes)
  type_fits (plain_type at form None) value e =
      let includes = includes_nullable_type (meaning_of_type definitions notes (plain_type at form None)) in
      ap (λ b. (null_if (literal_if value) && includes) || b) (form_fits at form value e) ∙ or-true (null_if (literal_if value) && includes)

annotated_fits : (tables : Tables) (definitions : List PlainDefinition) (attributes : List PlainAttribute) (t : PlainAnnotated) (place : Place) (own : List PlainAttribute) (inner : PlainType) (value : PlainValue) → t ≡ plain_annotated place own inner → fits_as_written inner value ≡ true → fits_if tables (literal_if value) (meaning_with definitions attributes t) ≡ true
annotated_fits tables definitions attributes t place own inner value is e = ap (λ x. fits_if tables (literal_if value) (meaning_with definitions attributes x)) is ∙ type_fits tables definitions _ inner value e

-- no default value that fits as it is written is another one
pub fitting_default : (list : DefsTerm) (tables : Tables) → Knows list tables → (definitions : List PlainDefinition) (d : Defaulted) (place : Place) (own : List PlainAttribute) (inner : PlainType) → d.ty ≡ plain_annotated place own inner → fits_as_written inner d.value.value ≡ true → FirstWhere (IsOtherDefault list definitions d) None
fitting_default list tables known definitions d place own inner is e =
    other_here list tables known definitions d (meaning_with definitions d.attributes d.ty) true None refl (sym (annotated_fits tables definitions d.attributes d.ty place own inner d.value.value is e)) refl
