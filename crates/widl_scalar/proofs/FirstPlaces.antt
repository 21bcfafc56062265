-- The place that is computed is the first one.
use Rattle.std.proofs.Common.{◌≡◌, ◌≢◌, ℕ, suc, zero, ◌+◌, ◌^◌, ◌<◌, ◌≤◌, Bool, true, false, List, [], ◌∷◌, Option, Some, None, refl, sym, ap, subst, ◌∙◌, arith}
use Rattle.std.specs.Prelude.{if◌then◌else◌, nat_lt, slice_get, option_and_then, IfSome, IfNone}
use Rattle.std.specs.List.{position_from}
use Rattle.std.specs.Option.{unwrap_or}
use Rattle.std.specs.Str.{bytes_eq}
use Rattle.std.proofs.lemmas.Bool.{true≢false}
use Rattle.std.proofs.lemmas.Bool.Decides.{nat_tests}
use Rattle.std.proofs.lemmas.Slice.Eq.{bytes_eq-Decides}
use Rattle.widl_idl.specs.declared.enumeration.Choice.{Choice}
use Rattle.widl_scalar.specs.Enumerations.{HasValueAt, IsFirstPlace, place_of_text, told_place, value_place}

abbrev test : List ℕ → List ℕ → Bool
test text value = bytes_eq value text

abbrev IsPlaceFrom : List (List ℕ) → List ℕ → ℕ → ℕ → Type 0
IsPlaceFrom texts text i place = (k : ℕ) × (place ≡ i + k) × IsFirstPlace texts text k

not_here : (t text : List ℕ) → bytes_eq t text ≡ false → t ≢ text
not_here t text other is = true≢false (sym ((bytes_eq-Decides t text).1 is) ∙ other)

from_some : (a b : ℕ) → ◌≡◌ {A = Option ℕ} (Some a) (Some b) → a ≡ b
from_some a b is = ap (λ o. unwrap_or o 0) is

from_text : (a b : List ℕ) → ◌≡◌ {A = Option (List ℕ)} (Some a) (Some b) → a ≡ b
from_text a b is = ap (λ o. unwrap_or o []) is

-- what is found from an index on is the first place
found_from : (texts : List (List ℕ)) (text : List ℕ) (i place : ℕ) → position_from (test text) i texts ≡ Some place → IsPlaceFrom texts text i place
found_from [] text i place is = absurd (cc)
found_from (t ∷ ts) text i place is = by (bytes_eq t text) refl is (found_from ts text (i + 1) place)
  where
    by : (b : Bool) → bytes_eq t text ≡ b → ◌≡◌ {A = Option ℕ} (if b then Some i else position_from (test text) (i + 1) ts) (Some place)
        → (position_from (test text) (i + 1) ts ≡ Some place → IsPlaceFrom ts text (i + 1) place) → IsPlaceFrom (t ∷ ts) text i place
    by true here told further = (0, (let same = from_some i place told in omega (arith, same)), record { here = ap Some ((bytes_eq-Decides t text).0 here); before = λ k less. absurd (omega (arith, less)) })
    by false other told further = let rest = further told in (suc rest.0, (let same = rest.1 in omega (arith, same)), record { here = rest.2.here; before = before rest.0 rest.2 })
      where
        before : (n : ℕ) → IsFirstPlace ts text n → (k : ℕ) → k < suc n → slice_get (t ∷ ts) k ≢ Some text
        before n first zero less is_here = not_here t text other (from_text t text is_here)
        before n first (suc k) less is_here = first.before k (omega (arith, less)) is_here

nowhere_from : (texts : List (List ℕ)) (text : List ℕ) (i : ℕ) → position_from (test text) i texts ≡ None → (k : ℕ) → slice_get texts k ≢ Some text
nowhere_from [] text i is = λ k here. absurd (cc)
nowhere_from (t ∷ ts) text i is = by (bytes_eq t text) refl is (nowhere_from ts text (i + 1))
  where
    by : (b : Bool) → bytes_eq t text ≡ b → ◌≡◌ {A = Option ℕ} (if b then Some i else position_from (test text) (i + 1) ts) None
        → (position_from (test text) (i + 1) ts ≡ None → (k : ℕ) → slice_get ts k ≢ Some text) → (k : ℕ) → slice_get (t ∷ ts) k ≢ Some text
    by true here told further k is_here = absurd (cc)
    by false other told further zero is_here = not_here t text other (from_text t text is_here)
    by false other told further (suc k) is_here = further told k is_here

pub first_place : (texts : List (List ℕ)) (text : List ℕ) (place : ℕ) → place_of_text texts text ≡ Some place → IsFirstPlace texts text place
first_place texts text place is = let found = found_from texts text 0 place is in subst (IsFirstPlace texts text) (let same = found.1 in omega (arith, same)) found.2

pub no_place : (texts : List (List ℕ)) (text : List ℕ) → place_of_text texts text ≡ None → (place : ℕ) → IsFirstPlace texts text place → ⊥
no_place texts text is place first = nowhere_from texts text 0 is place first.here

pub place_some : (texts : List (List ℕ)) (text : List ℕ) → IfSome (place_of_text texts text) (IsFirstPlace texts text)
place_some texts text = by (place_of_text texts text) refl
  where
    by : (o : Option ℕ) → place_of_text texts text ≡ o → IfSome o (IsFirstPlace texts text)
    by None is = tt
    by (Some place) is = first_place texts text place is

pub place_none : (texts : List (List ℕ)) (text : List ℕ) → IfNone (place_of_text texts text) ((place : ℕ) → IsFirstPlace texts text place → ⊥)
place_none texts text = by (place_of_text texts text) refl
  where
    by : (o : Option ℕ) → place_of_text texts text ≡ o → IfNone o ((place : ℕ) → IsFirstPlace texts text place → ⊥)
    by None is = no_place texts text is
    by (Some place) is = tt

-- the first place is one
first_unique : (texts : List (List ℕ)) (text : List ℕ) (a b : ℕ) → IsFirstPlace texts text a → IsFirstPlace texts text b → (a < b → ⊥) × (b < a → ⊥)
first_unique texts text a b first other = ((λ less. other.before a less first.here), (λ less. first.before b less other.here))

told_some : (n place : ℕ) → told_place n ≡ Some place → n ≡ place
told_some n place is = by (nat_lt n (2 ^ 32)) is
  where
    by : (b : Bool) → ◌≡◌ {A = Option ℕ} (if b then Some n else None) (Some place) → n ≡ place
    by true told = from_some n place told
    by false told = absurd (cc)

told_none : (n : ℕ) → told_place n ≡ None → 2 ^ 32 ≤ n
told_none n is = by (nat_lt n (2 ^ 32)) refl is
  where
    by : (b : Bool) → nat_lt n (2 ^ 32) ≡ b → ◌≡◌ {A = Option ℕ} (if b then Some n else None) None → 2 ^ 32 ≤ n
    by true low told = absurd (cc)
    by false high told = grind (arith, nat_tests)

pub value_some : (choices : List Choice) (number : ℕ) (text : List ℕ) (r : Option ℕ) → r ≡ value_place choices number text → IfSome r (HasValueAt choices number text)
value_some choices number text None is = tt
value_some choices number text (Some place) is = by (slice_get choices number) refl is
  where
    at : (choice : Choice) → slice_get choices number ≡ Some choice → (o : Option ℕ) → place_of_text choice.values text ≡ o → ◌≡◌ {A = Option ℕ} (Some place) (option_and_then told_place o) → HasValueAt choices number text place
    at choice here None found told = absurd (cc)
    at choice here (Some n) found told = record { choice = choice; is_choice = here; first = first_place choice.values text place (found ∙ ap Some (told_some n place (sym told))) }

    by : (o : Option Choice) → slice_get choices number ≡ o → ◌≡◌ {A = Option ℕ} (Some place) (option_and_then (λ (choice : Choice). option_and_then told_place (place_of_text choice.values text)) o) → HasValueAt choices number text place
    by None here told = absurd (cc)
    by (Some choice) here told = at choice here (place_of_text choice.values text) refl told

pub value_none : (choices : List Choice) (number : ℕ) (text : List ℕ) (r : Option ℕ) → r ≡ value_place choices number text → IfNone r ((place : ℕ) → place < 2 ^ 32 → HasValueAt choices number text place → ⊥)
value_none choices number text (Some place) is = tt
value_none choices number text None is = λ place small has. not place small has (place_of_text has.choice.values text) (told has) refl
  where
    told : {place : ℕ} (has : HasValueAt choices number text place) → ◌≡◌ {A = Option ℕ} None (option_and_then told_place (place_of_text has.choice.values text))
    told has = is ∙ ap (λ o. option_and_then (λ (choice : Choice). option_and_then told_place (place_of_text choice.values text)) o) has.is_choice

    not : (place : ℕ) → place < 2 ^ 32 → (has : HasValueAt choices number text place) → (o : Option ℕ) → ◌≡◌ {A = Option ℕ} None (option_and_then told_place o) → place_of_text has.choice.values text ≡ o → ⊥
    not place small has None said none = no_place has.choice.values text none place has.first
    not place small has (Some n) said found =
        let high = told_none n (sym said) in
        (first_unique has.choice.values text place n has.first (first_place has.choice.values text n found)).0 (omega (arith, small, high))
