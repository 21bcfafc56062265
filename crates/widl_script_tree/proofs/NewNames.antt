-- Each name stands once.
use Rattle.std.proofs.Common.{◌≡◌, ℕ, zero, suc, ◌+◌, ◌<◌, ◌≤◌, ◌⊎◌, inl, inr, Bool, true, false, cond, Option, Some, None, List, [], ◌∷◌, ◌++◌, length, get_or, refl, sym, ◌∙◌, ap, subst, arith, length-append, true≢false}
use Rattle.std.specs.Prelude.{slice_get, bytes_eq, if◌then◌else◌}
use Rattle.std.specs.List.{list_any}
use Rattle.std.proofs.lemmas.List.{get_or_push}
use Rattle.std.proofs.lemmas.List.Folds.{list_any_at}
use Rattle.std.proofs.lemmas.Option.{slice_get-get_or, slice_get_past}
use Rattle.std.proofs.lemmas.Slice.Eq.{bytes_eq-Decides}
use Rattle.std.proofs.lemmas.Bool.{cases_lt}
use Rattle.std.proofs.Math.Nat.{eq-or-lt_of_le}
use Rattle.indexmap.specs.IndexSet.{insert_key}
use Rattle.widl_script_tree.specs.Trees.{Text}
use Rattle.widl_script_tree.specs.Tables.{name_or}
use Rattle.widl_script_tree.proofs.Growing.{slice_append}

-- a name by its number, past the end one that no script has
abbrev pub name_in : List Text → ℕ → Text
name_in names number = name_or number (slice_get names number)

data Where (n i : ℕ) : Type 0 where
  before : i < n → Where n i
  at : i ≡ n → Where n i
  after : n < i → Where n i

where_of : (n i : ℕ) → Where n i
where_of n i = elim (cases_lt i n) [
  | inl lt ↦ before lt
  | inr le ↦ elim (eq-or-lt_of_le le) [ inl e ↦ at (sym e) | inr lt ↦ after lt ]
]

module _ (names : List Text) (text : Text) (differ : (i j : ℕ) → name_in names i ≡ name_in names j → i ≡ j) (new : list_any (bytes_eq text) names ≡ false) (fits : (place : ℕ) → get_or text place 0 < 65536) where
  early : (i : ℕ) → i < length names → name_in (names ++ text ∷ []) i ≡ name_in names i
  early i lt = ap (name_or i) (slice_append names (text ∷ []) i lt)

  here : (i : ℕ) → i ≡ length names → name_in (names ++ text ∷ []) i ≡ text
  here i is = ap (name_or i) (slice_get-get_or (names ++ text ∷ []) i [] (omega (arith, is, length-append names (text ∷ []))) ∙ ap (λ (x : Text). let o : Option Text = Some x in o) (get_or_push names text [] i (sym is)))

  late : (i : ℕ) → length names < i → name_in (names ++ text ∷ []) i ≡ name_in names i
  late i lt = ap (name_or i) (slice_get_past (names ++ text ∷ []) i (omega (arith, lt, length-append names (text ∷ []))) ∙ sym (slice_get_past names i (omega (arith, lt))))

  -- the new text is none of those that are there
  not_early : (j : ℕ) → j < length names → text ≡ name_in names j → ⊥
  not_early j lt e =
      let held : name_in names j ≡ get_or names j [] = ap (name_or j) (slice_get-get_or names j [] lt) in
      let found : bytes_eq text (get_or names j []) ≡ true = (bytes_eq-Decides text (get_or names j [])).1 (e ∙ held) in
      true≢false (sym (list_any_at (bytes_eq text) names j [] lt found) ∙ new)

  -- and none of those past the end
  not_late : (j : ℕ) → length names ≤ j → text ≡ name_in names j → ⊥
  not_late j le e =
      let past : name_in names j ≡ (65536 + j) ∷ [] = ap (name_or j) (slice_get_past names j le) in
      let first : get_or text 0 0 ≡ 65536 + j = ap (λ (x : Text). get_or x 0 0) (e ∙ past) in
      omega (arith, fits 0, first)

  either : (i j : ℕ) → Where (length names) i → Where (length names) j → name_in (names ++ text ∷ []) i ≡ name_in (names ++ text ∷ []) j → i ≡ j
  either i j (before a) (before b) e = differ i j (sym (early i a) ∙ e ∙ early j b)
  either i j (before a) (at b) e = absurd (not_early i a (sym (here j b) ∙ sym e ∙ early i a))
  either i j (before a) (after b) e = differ i j (sym (early i a) ∙ e ∙ late j b)
  either i j (at a) (before b) e = absurd (not_early j b (sym (here i a) ∙ e ∙ early j b))
  either i j (at a) (at b) e = a ∙ sym b
  either i j (at a) (after b) e = absurd (not_late j (omega (arith, b)) (sym (here i a) ∙ e ∙ late j b))
  either i j (after a) (before b) e = differ i j (sym (late i a) ∙ e ∙ early j b)
  either i j (after a) (at b) e = absurd (not_late i (omega (arith, a)) (sym (here j b) ∙ sym e ∙ late i a))
  either i j (after a) (after b) e = differ i j (sym (late i a) ∙ e ∙ late j b)

  pub differ_pushed : (i j : ℕ) → name_in (names ++ text ∷ []) i ≡ name_in (names ++ text ∷ []) j → i ≡ j
  differ_pushed i j e = either i j (where_of (length names) i) (where_of (length names) j) e
