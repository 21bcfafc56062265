-- Where a conversation stands after a list of asks and answers: what is left of its steps.
use Rattle.std.specs.Prelude.{◌≡◌, ℕ, zero, suc, List, [], ◌∷◌}
use Rattle.widl_dialog.specs.Dialog.{Dialog, End, Say, Steps, bind}

-- in exactly m jobs and asks these asks and answers lead from the one tree to the other
abbrev pub After : {J Q A R : Type 0} → (J → Dialog J Q A R) → (Q → A → Type 0) → ℕ → Dialog J Q A R → List (Q × A) → Dialog J Q A R → Type 0
After rule Fits zero d [] e = d ≡ e
After rule Fits zero d (p ∷ said) e = ⊥
After rule Fits (suc m) (End r) said e = ⊥
After rule Fits (suc m) (Say q k) [] e = ⊥
After rule Fits (suc m) (Say q k) (p ∷ said) e = (p.0 ≡ q) × Fits q p.1 × After rule Fits m (k p.1) said e
After rule Fits (suc m) (Steps j k) said e = After rule Fits m (bind (rule j) k) said e

-- these asks and answers lead from the one tree to the other; where there are none, jobs alone do
pub record At {J Q A R : Type 0} (rule : J → Dialog J Q A R) (Fits : Q → A → Type 0) (d : Dialog J Q A R) (said : List (Q × A)) (e : Dialog J Q A R) : Type 0 where
  pub steps : ℕ
  pub after : After rule Fits steps d said e
