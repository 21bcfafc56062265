-- For proofs alone. What the machine keeps of rules that gave way to rows.
use Rattle.std.specs.Prelude.{ℕ, Option, List, [], ◌∷◌, All}
use Rattle.widl_predictive.specs.declared.unfoldings.Unfolding.{Unfolding}
use Rattle.widl_predictive.specs.Derivation.{Nonterminal}
use Rattle.widl_predictive.specs.Grammar.{Grammar}
use Rattle.widl_predictive.specs.Lookahead.{Sets}
use Rattle.widl_predictive.specs.Machine.{stack_of, topped, Unfolds, EndsAt}

module _ {T R : Type 0} (g : Grammar T R) (s : Sets T R) where
  -- a rule alone gives way to what is kept
  abbrev pub IsUnfolding : Option T → R → ℕ → Unfolding T R → Type 0
  IsUnfolding ahead rule level u = Unfolds g s ahead (Nonterminal (rule, level) ∷ []) (topped u.top (stack_of u.below.items)) u.deep × EndsAt g s ahead u.top

  abbrev pub AreUnfoldings : List (Unfolding T R) → Type 0
  AreUnfoldings kept = All (λ u. IsUnfolding u.ahead u.rule u.level u) kept
