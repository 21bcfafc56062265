-- The tests of the program say whether a literal fits a type.
use Rattle.std.proofs.Common.{◌≡◌, ◌⊎◌, ◌↔◌, inl, inr, ℕ, ◌<◌, zero, suc, Bool, true, false, not, ◌&&◌, ◌||◌, List, [], ◌∷◌, length, get_or, Option, None, Some, arith, refl, sym, ap, ◌∙◌}
use Rattle.std.specs.List.{Contains, list_any}
use Rattle.widl_idl.specs.declared.literal.Literal.{Literal}
use Rattle.widl_idl.specs.DefinitionTerms.{DefsTerm}
use Rattle.widl_idl.specs.Flattened.{flattened_member, includes_nullable_type}
use Rattle.widl_idl.specs.PlainTypes.{PlainValue, NullValue, UndefinedValue, BooleanValue, IntegerValue, TextValue, EmptySequenceValue, EmptyDictionaryValue}
use Rattle.widl_idl.specs.Terms.{TypeTerm, AnyType, BooleanType, IntegerType, StringType, EnumerationType, DictionaryType, SequenceType}
use Rattle.widl_overload.specs.rules.DefaultRules.{Fits, FitsMember, IsNullOf, IsValueOf}
use Rattle.widl_overload.specs.rules.Dictionaries.{HasRequired}
use Rattle.widl_fits.specs.declared.tables.Tables.{Tables}
use Rattle.widl_fits.specs.Fitting.{Knows, KnowsRequired, fits_if, literal_if, null_if, takes, takes_if}
use Rattle.widl_fits.specs.Required.{is_flagged}
use Rattle.widl_fits.proofs.KeptValues.{kept_at}

-- a test that holds, or not
yes : (true ≡ true) ↔ Unit {0}
yes = (λ e. tt, λ u. refl)

no : (b : Bool) → b ≡ false → (b ≡ true) ↔ ⊥
no b e = (λ h. absurd (let f : true ≡ false = sym h ∙ e in (cc)), λ h. absurd h)

same : (b : Bool) → (b ≡ true) ↔ (b ≡ true)
same b = (λ h. h, λ h. h)

along : (a b : Bool) → a ≡ b → (a ≡ true) ↔ (b ≡ true)
along a b e = (λ h. sym e ∙ h, λ h. e ∙ h)

unset : (b : Bool) (Q : Type 0) → (b ≡ true) ↔ Q → (not b ≡ true) ↔ (Q → ⊥)
unset true Q t = (λ h. absurd (let f : false ≡ true = h in (cc)), λ h. absurd (h (t.0 refl)))
unset false Q t = (λ h q. let f : false ≡ true = t.1 q in (cc), λ h. refl)

-- one of the items passes a test
module _ {X : Type 0} (p : X → Bool) where
  pub any_item : (xs : List X) → list_any p xs ≡ true → (x : X) × Contains xs x × (p x ≡ true)
  any_item [] h = absurd (let f : false ≡ true = h in (cc))
  any_item (x ∷ xs) h = by_first (p x) refl h (λ g. any_item xs g)
    where
      by_first : (b : Bool) → p x ≡ b → (b || list_any p xs) ≡ true → (list_any p xs ≡ true → (y : X) × Contains xs y × (p y ≡ true)) → (y : X) × Contains (x ∷ xs) y × (p y ≡ true)
      by_first true e h later = (x, (0, omega arith, refl), e)
      by_first false e h later = let w = later h in (w.0, (suc w.1.0, omega (arith, w.1.1), w.1.2), w.2)

  or_true : (b : Bool) → (b || true) ≡ true
  or_true true = refl
  or_true false = refl

  pub item_any : (xs : List X) (x : X) → Contains xs x → p x ≡ true → list_any p xs ≡ true
  item_any [] x c h = absurd (let l = c.1 in omega arith)
  item_any (y ∷ xs) x c h = by_place c.0 c.1 c.2 (λ d. item_any xs x d h)
    where
      by_place : (k : ℕ) → k < length (y ∷ xs) → get_or (y ∷ xs) k x ≡ x → (Contains xs x → list_any p xs ≡ true) → list_any p (y ∷ xs) ≡ true
      by_place zero below e later = ap (λ b. b || list_any p xs) (ap p e ∙ h)
      by_place (suc k) below e later = ap (λ b. p y || b) (later (k, omega arith, e)) ∙ or_true (p y)

-- nothing fits where there is no literal
none_taken : (tables : Tables) (xs : List TypeTerm) → list_any (takes_if tables None) xs ≡ false
none_taken tables [] = refl
none_taken tables (x ∷ xs) = none_taken tables xs

pub nothing_fits : (tables : Tables) (t : TypeTerm) → fits_if tables None t ≡ false
nothing_fits tables t = none_taken tables (flattened_member t)

-- a type of which nothing is a value
taken_by_none : (tables : Tables) (t : TypeTerm) → ((l : Literal) → takes tables l t ≡ false) → (o : Option Literal) → takes_if tables o t ≡ false
taken_by_none tables t none None = refl
taken_by_none tables t none (Some l) = none l

module _ (list : DefsTerm) (tables : Tables) (told : KnowsRequired list tables) where
  pub dictionary_told : (n : ℕ) (v : PlainValue) → (takes_if tables (literal_if v) (DictionaryType n) ≡ true) ↔ IsValueOf list (DictionaryType n) v
  unfolding takes
  dictionary_told n EmptyDictionaryValue = unset (is_flagged tables.required n) (HasRequired list.dicts n) (told.required.tells n)
  dictionary_told n v = no false refl

module _ (list : DefsTerm) (tables : Tables) (known : Knows list tables) where
  any_told : (v : PlainValue) → (takes_if tables (literal_if v) AnyType ≡ true) ↔ IsValueOf list AnyType v
  unfolding takes
  any_told NullValue = yes
  any_told UndefinedValue = yes
  any_told v = no false refl

  boolean_told : (v : PlainValue) → (takes_if tables (literal_if v) BooleanType ≡ true) ↔ IsValueOf list BooleanType v
  unfolding takes
  boolean_told (BooleanValue b) = yes
  boolean_told v = no false refl

  sequence_told : (t : TypeTerm) (v : PlainValue) → (takes_if tables (literal_if v) (SequenceType t) ≡ true) ↔ IsValueOf list (SequenceType t) v
  unfolding takes
  sequence_told t EmptySequenceValue = yes
  sequence_told t v = no false refl

  -- whether a literal is a value of a type that is neither nullable nor a union
  value_told : (t : TypeTerm) (v : PlainValue) → (takes_if tables (literal_if v) t ≡ true) ↔ IsValueOf list t v
  unfolding takes
  value_told AnyType v = any_told v
  value_told BooleanType v = boolean_told v
  value_told (SequenceType t) v = sequence_told t v
  value_told (DictionaryType n) v = dictionary_told list tables known.dictionaries n v
  value_told (IntegerType kind mode) (IntegerValue text) = same _
  value_told (IntegerType kind mode) v = no false refl
  value_told (StringType kind null_empty) (TextValue text) = same _
  value_told (StringType kind null_empty) v = no false refl
  value_told (EnumerationType n) (TextValue text) = along _ _ (kept_at tables.values.items list.choices known.values n _)
  value_told (EnumerationType n) v = no false refl
  value_told t v = no (takes_if tables (literal_if v) t) (taken_by_none tables t (λ l. refl) (literal_if v))

  -- whether a literal is null and the type includes a nullable type
  null_told : (t : TypeTerm) (v : PlainValue) → ((null_if (literal_if v) && includes_nullable_type t) ≡ true) ↔ IsNullOf list t v
  null_told t NullValue = same _
  null_told t v = no false refl

  members_told : (t : TypeTerm) (v : PlainValue) → (list_any (takes_if tables (literal_if v)) (flattened_member t) ≡ true) ↔ FitsMember list t v
  members_told t v = (
    λ h. let w = any_item (takes_if tables (literal_if v)) (flattened_member t) h in record { member = w.0; listed = w.1; is_value = (value_told w.0 v).0 w.2 },
    λ f. item_any (takes_if tables (literal_if v)) (flattened_member t) f.member f.listed ((value_told f.member v).1 f.is_value),
  )

  either_told : (a b : Bool) (P Q : Type 0) → (a ≡ true) ↔ P → (b ≡ true) ↔ Q → ((a || b) ≡ true) ↔ (P ⊎ Q)
  either_told true b P Q p q = (λ h. inl (p.0 refl), λ h. refl)
  either_told false b P Q p q = (λ h. inr (q.0 h), λ h. elim h [ inl x ↦ absurd (let f : false ≡ true = p.1 x in (cc)) | inr y ↦ q.1 y ])

  -- whether a literal fits a type
  pub fits_told : (t : TypeTerm) (v : PlainValue) → (fits_if tables (literal_if v) t ≡ true) ↔ Fits list t v
  fits_told t v = either_told (null_if (literal_if v) && includes_nullable_type t) (list_any (takes_if tables (literal_if v)) (flattened_member t)) (IsNullOf list t v) (FitsMember list t v) (null_told t v) (members_told t v)
