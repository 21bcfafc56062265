-- The table of quoted terminals has exactly the quoted terminals, each in the slot of its bytes, by tests that the checker computes.
use Rattle.std.proofs.Common.{◌≡◌, ℕ, zero, suc, ◌<◌, Bool, true, false, List, [], ◌∷◌, length, get_or, refl, sym, ◌∙◌, ap, subst, arith, eqb, eqb-true, ltb, ltb-true, inl, inr, ◌⊎◌}
use Rattle.std.specs.Prelude.{◌&&◌, ◌||◌, ◌==◌, Contains, map, slice_index, slice_index_or}
use Rattle.std.proofs.Common.{Bor}
use lib.Pointwise.{pointwise, bytes_decides}
use Rattle.widl_lex.specs.Quoted.{quoted_terminals, IsQuoted}
use Rattle.widl_lex.specs.Walk.{slot_of, candidate_of}
use Rattle.widl_lex.specs.declared.tables.TheConstants.{QUOTED, QUOTED_AT}
use Rattle.widl_lex.proofs.Computed.{and_cases, or_cases, all_below, all_at, differ}

table_within : all_below 512 (λ s. ltb (slice_index QUOTED_AT s) 86) ≡ true
unfolding all_below
table_within = refl

pub place_within : (s : ℕ) → s < 512 → slice_index QUOTED_AT s < 86
place_within s lt = ltb-true _ _ (all_at 512 (λ t. ltb (slice_index QUOTED_AT t) 86) table_within s lt)

-- a test for a text in a list
has : List (List ℕ) → List ℕ → Bool
has [] x = false
has (y ∷ ys) x = pointwise eqb y x || has ys x

has_contains : (ys : List (List ℕ)) (x : List ℕ) → has ys x ≡ true → Contains ys x
unfolding has
has_contains [] x e = cc
has_contains (y ∷ ys) x e = elim (or_cases (pointwise eqb y x) (has ys x) e) [
  | inl here ↦ (0, omega arith, (bytes_decides y x).0 here)
  | inr later ↦ let r = has_contains ys x later in (suc r.0, omega (arith, r.1), r.2)
]

-- each text of a list passes
unfoldable pub passes : (List ℕ → Bool) → List (List ℕ) → Bool
passes p [] = true
passes p (x ∷ xs) = p x && passes p xs

passes_at : (p : List ℕ → Bool) (xs : List (List ℕ)) → passes p xs ≡ true → (k : ℕ) (d : List ℕ) → k < length xs → p (slice_index_or xs k d) ≡ true
unfolding passes
passes_at p [] e k d lt = absurd (omega arith)
passes_at p (x ∷ xs) e zero d lt = (and_cases (p x) (passes p xs) e).0
passes_at p (x ∷ xs) e (suc k) d lt = passes_at p xs (and_cases (p x) (passes p xs) e).1 k d (omega arith)

pub passes_contained : (p : List ℕ → Bool) (xs : List (List ℕ)) (x : List ℕ) → passes p xs ≡ true → Contains xs x → p x ≡ true
passes_contained p xs x e c = sym (ap p c.2) ∙ passes_at p xs e c.0 x c.1

table_sound : passes (has quoted_terminals) (map (λ word. word.now) QUOTED) ≡ true
unfolding passes has
table_sound = refl

found : List ℕ → Bool
found w = pointwise eqb (candidate_of w) w

table_complete : passes found quoted_terminals ≡ true
unfolding passes found
table_complete = refl

slot_small : (w : List ℕ) → slot_of w < 512
slot_small w = omega arith

-- a text is quoted exactly where it is its candidate
candidate_quoted : (w : List ℕ) → IsQuoted (candidate_of w)
candidate_quoted w = has_contains quoted_terminals (candidate_of w) (passes_at (has quoted_terminals) (map (λ word. word.now) QUOTED) table_sound (slice_index QUOTED_AT (slot_of w)) [] (place_within (slot_of w) (slot_small w)))

pub is_candidate : (w : List ℕ) → candidate_of w ≡ w → IsQuoted w
is_candidate w e = subst IsQuoted e (candidate_quoted w)

pub quoted_candidate : (w : List ℕ) → IsQuoted w → candidate_of w ≡ w
unfolding found
quoted_candidate w q = (bytes_decides (candidate_of w) w).0 (passes_contained found quoted_terminals w table_complete q)

some_bytes : List ℕ → Bool
some_bytes [] = false
some_bytes (b ∷ w) = true

table_some : passes some_bytes quoted_terminals ≡ true
unfolding passes some_bytes
table_some = refl

pub empty_not_quoted : IsQuoted [] → ⊥
unfolding some_bytes
empty_not_quoted q = differ (sym (passes_contained some_bytes quoted_terminals [] table_some q))

pub empty_not : (w : List ℕ) (r : Bool) → r ≡ (length w == 0) → r ≡ true → IsQuoted w → ⊥
empty_not [] r e f q = empty_not_quoted q
empty_not (b ∷ w) r e f q = absurd (omega (arith, eqb-true (length (b ∷ w)) 0 (sym e ∙ f)))

-- what references in a list point to
abbrev pub pointed : List (Bor (List ℕ)) → List (List ℕ)
pointed xs = map (λ x. x.now) xs

-- what a reference in the list points to
pub now_at : (xs : List (Bor (List ℕ))) (k : ℕ) (d : Bor (List ℕ)) → k < length xs → (get_or xs k d).now ≡ slice_index_or (pointed xs) k []
now_at [] k d lt = absurd (omega arith)
now_at (x ∷ xs) zero d lt = refl
now_at (x ∷ xs) (suc k) d lt = now_at xs k d (omega arith)

-- whether a text is quoted can be told
has_not : (ys : List (List ℕ)) (x : List ℕ) → has ys x ≡ false → (k : ℕ) → k < length ys → slice_index_or ys k x ≡ x → ⊥
unfolding has
has_not [] x e k lt f = omega arith
has_not (y ∷ ys) x e zero lt f = differ (sym (either_true (pointwise eqb y x) (has ys x) ((bytes_decides y x).1 f)) ∙ e)
  where
    either_true : (a b : Bool) → a ≡ true → (a || b) ≡ true
    either_true true b g = refl
    either_true false b g = cc
has_not (y ∷ ys) x e (suc k) lt f = has_not ys x (second_false (pointwise eqb y x) (has ys x) e) k (omega arith) f
  where
    second_false : (a b : Bool) → (a || b) ≡ false → b ≡ false
    second_false true b g = absurd (differ g)
    second_false false b g = g

pub quoted_or_not : (text : List ℕ) → IsQuoted text ⊎ (IsQuoted text → ⊥)
quoted_or_not text = go (has quoted_terminals text) refl
  where
    go : (c : Bool) → has quoted_terminals text ≡ c → IsQuoted text ⊎ (IsQuoted text → ⊥)
    go true e = inl (has_contains quoted_terminals text e)
    go false e = inr (λ q. has_not quoted_terminals text e q.0 q.1 q.2)
