-- What is known of a run by the symbol that it begins with.
use Rattle.std.proofs.Common.{◌≡◌, Some, List, [], ◌∷◌, ◌++◌, refl}
use Rattle.widl_predictive.specs.declared.grammar.Symbol.{Symbol as RowSymbol}
use Rattle.widl_predictive.specs.Derivation.{Symbol, Terminal, Nonterminal}
use Rattle.widl_predictive.specs.Predictive.{ahead}
use Rattle.widl_predictive.specs.Grammar.{Grammar}
use Rattle.widl_predictive.specs.Lookahead as look
use Rattle.widl_predictive.specs.Lookahead.{Sets}
use Rattle.widl_predictive.specs.Runs.{plain, Runs, over, taken, chosen}

module _ {T R : Type 0} (g : Grammar T R) (s : Sets T R) where
  pub runs_over : {w : List T} → Runs g s [] w → w ≡ []
  runs_over over = refl

  pub runs_terminal : {a : T} {z : List (Symbol T R)} {w : List T} → Runs g s (Terminal a ∷ z) w → (v : List T) × (w ≡ a ∷ v) × Runs g s z v
  runs_terminal (taken {w} d) = (w, refl, d)

  pub runs_nonterminal : {r : R} {z : List (Symbol T R)} {w : List T} → Runs g s (Nonterminal r ∷ z) w → (α : List (RowSymbol T R)) × (look.choice g s r (ahead w) ≡ Some α) × Runs g s (plain α ++ z) w
  runs_nonterminal (chosen α e d) = (α, e, d)
