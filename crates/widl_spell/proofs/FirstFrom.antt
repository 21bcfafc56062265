-- The first number that passes a test.
use Rattle.std.proofs.Common.{◌≡◌, ℕ, ◌+◌, ◌<◌, ◌≤◌, ◌⊎◌, inl, inr, Bool, true, false, cond, zero, suc, arith, refl, ap, ◌∙◌}
use Rattle.std.specs.Prelude.{Option, None, Some}
use Rattle.std.proofs.lemmas.Bool.{cases_eq}
use Rattle.widl_spell.specs.Ids.{first_from}

pub first_from_at : (test : ℕ → Bool) (n count place : ℕ) → n ≤ place → place < n + count → test place ≡ true → ((q : ℕ) → n ≤ q → q < place → test q ≡ false) → first_from test n count ≡ Some place
first_from_at test n zero place low high holds none = absurd (omega (arith, low, high))
first_from_at test n (suc count) place low high holds none =
    elim (cases_eq n place) [
      | inl is ↦ ap (λ b. cond b (Some n) (first_from test (n + 1) count)) (ap test is ∙ holds) ∙ ap (λ m. Some m) is
      | inr differs ↦
          let above : n < place = omega (arith, low, differs) in
          ap (λ b. cond b (Some n) (first_from test (n + 1) count)) (none n (omega arith) above)
          ∙ first_from_at test (n + 1) count place (omega (arith, above)) (omega (arith, high)) holds (λ q from below. none q (omega (arith, from)) below)
    ]

pub first_from_none : (test : ℕ → Bool) (n count : ℕ) → ((q : ℕ) → n ≤ q → q < n + count → test q ≡ false) → first_from test n count ≡ None
first_from_none test n zero none = refl
first_from_none test n (suc count) none =
    ap (λ b. cond b (Some n) (first_from test (n + 1) count)) (none n (omega arith) (omega arith))
    ∙ first_from_none test (n + 1) count (λ q from below. none q (omega (arith, from)) (omega (arith, below)))
