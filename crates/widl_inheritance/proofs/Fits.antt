-- What the tests of the program say of default values, and of arguments without one.
use Rattle.std.proofs.Common.{◌≡◌, ◌↔◌, ℕ, Bool, true, false, not, cond, List, Option, None, Some, arith, refl, sym, ap, subst, ◌∙◌}
use Rattle.std.specs.List.{Contains, list_any}
use Rattle.widl_idl.specs.declared.literal.Literal.TheVariants as the
use Rattle.widl_idl.specs.declared.violation.Violation.{Violation}
use Rattle.widl_idl.specs.DefinitionTerms.{DefsTerm}
use Rattle.widl_idl.specs.Flattened.{flattened_member}
use Rattle.widl_idl.specs.First.{FirstWhere, violation_at}
use Rattle.widl_idl.specs.PlainTrees.{PlainDefinition}
use Rattle.widl_idl.specs.PlainTypes.{EmptyDictionaryValue}
use Rattle.widl_idl.specs.Terms.{TypeTerm, DictionaryType, NullableType}
use Rattle.widl_idl.specs.WrittenTypes.{meaning_with}
use Rattle.widl_idl.proofs.Order.{one_place}
use Rattle.widl_overload.specs.rules.DefaultRules.{Defaulted, Fits, IsOtherDefault, TakesNoMember, members_of_type}
use Rattle.widl_overload.specs.rules.Dictionaries.{HasRequired}
use Rattle.widl_fits.specs.declared.tables.Tables.{Tables}
use Rattle.widl_fits.specs.Fitting.{Knows, KnowsRequired, fits_if, literal_if, takes}
use Rattle.widl_fits.proofs.Fits.{any_item, dictionary_told, fits_told, item_any}
use Rattle.widl_inheritance.specs.EmptyDefaults.{takes_no_member}

module _ (list : DefsTerm) (tables : Tables) (told : KnowsRequired list tables) where
  -- `{}` is a value of dictionaries without required members alone
  empty_told : (t : TypeTerm) → takes tables the.EmptyDict t ≡ true → (n : ℕ) × (t ≡ DictionaryType n) × (HasRequired list.dicts n → ⊥)
  unfolding takes
  empty_told (DictionaryType n) h = (n, refl, (dictionary_told list tables told n EmptyDictionaryValue).0 h)
  empty_told t h = absurd (let f : false ≡ true = h in (cc))

  pub empty_found : (definitions : List PlainDefinition) (t : TypeTerm) → members_of_type list definitions t ≡ flattened_member t → list_any (takes tables the.EmptyDict) (flattened_member t) ≡ true → TakesNoMember list definitions t
  empty_found definitions t members h =
      let w = any_item (takes tables the.EmptyDict) (flattened_member t) h in
      let d = empty_told w.0 w.2 in
      record { dictionary = d.0; listed = subst (λ ts. Contains ts (DictionaryType d.0)) (sym members) (subst (Contains (flattened_member t)) d.1 w.1); bare = d.2 }

  pub found_empty : (definitions : List PlainDefinition) (t : TypeTerm) → members_of_type list definitions t ≡ flattened_member t → TakesNoMember list definitions t → list_any (takes tables the.EmptyDict) (flattened_member t) ≡ true
  found_empty definitions t members h = item_any (takes tables the.EmptyDict) (flattened_member t) (DictionaryType h.dictionary) (subst (λ ts. Contains ts (DictionaryType h.dictionary)) members h.listed) ((dictionary_told list tables told h.dictionary EmptyDictionaryValue).1 h.bare)

turned : {A : Type 0} (b : Bool) (x y : A) → cond b y x ≡ cond (not b) x y
turned true x y = refl
turned false x y = refl

-- a default value, by whether it fits
pub other_here : (list : DefsTerm) (tables : Tables) → Knows list tables → (definitions : List PlainDefinition) (d : Defaulted) (t : TypeTerm) (fit : Bool) (found : Option Violation) → t ≡ meaning_with definitions d.attributes d.ty → fit ≡ fits_if tables (literal_if d.value.value) t → found ≡ cond fit None (Some (violation_at d.value.at)) → FirstWhere (IsOtherDefault list definitions d) found
other_here list tables known definitions d t fit found means fit_is found_is =
    let meaning : TypeTerm = meaning_with definitions d.attributes d.ty in
    let told : (fits_if tables (literal_if d.value.value) meaning ≡ true) ↔ Fits list meaning d.value.value = fits_told list tables known meaning d.value.value in
    let whole : fit ≡ fits_if tables (literal_if d.value.value) meaning = fit_is ∙ ap (fits_if tables (literal_if d.value.value)) means in
    one_place (Fits list meaning d.value.value → ⊥) d.value.at (not fit) found
    (λ h f. clash fit (whole ∙ told.1 f) h)
    (λ h q. q (told.0 (sym whole ∙ set fit h)))
    (found_is ∙ turned fit (Some (violation_at d.value.at)) None)
  where
    clash : (b : Bool) → b ≡ true → not b ≡ true → ⊥
    clash true e h = absurd (let f : false ≡ true = h in (cc))
    clash false e h = absurd (let f : false ≡ true = e in (cc))

    set : (b : Bool) → not b ≡ false → b ≡ true
    set true h = refl
    set false h = absurd (let f : true ≡ false = h in (cc))

-- whether a type takes a dictionary without required members
pub no_member_told : (list : DefsTerm) (tables : Tables) → KnowsRequired list tables → (definitions : List PlainDefinition) (t : TypeTerm) → (takes_no_member tables t ≡ true) ↔ TakesNoMember list definitions t
no_member_told list tables told definitions (NullableType t) = (λ h. absurd (let f : false ≡ true = h in (cc)), λ h. absurd (let l = h.listed.1 in omega arith))
no_member_told list tables told definitions t = (empty_found list tables told definitions t refl, found_empty list tables told definitions t refl)
