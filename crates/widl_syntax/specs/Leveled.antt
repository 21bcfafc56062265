-- For proofs alone. What the rows of a grammar derive of tokens in which no level that is too deep begins.
use Rattle.std.specs.Prelude.{◌≡◌, ℕ, ◌≤◌, ◌<◌, Some, List, [], ◌∷◌, ◌++◌, true}
use Rattle.widl_predictive.specs.declared.grammar.Symbol.{Symbol as RowSymbol}
use Rattle.widl_predictive.specs.Derivation.{Symbol, Terminal, Nonterminal}
use Rattle.widl_predictive.specs.Grammar as gr
use Rattle.widl_predictive.specs.Grammar.{Grammar, Leveled}
use Rattle.widl_predictive.specs.Lookahead as look
use Rattle.widl_predictive.specs.Lookahead.{Sets}
use Rattle.widl_predictive.specs.Predictive.{ahead}

module _ {T R : Type 0} (g : Grammar T R) (s : Sets T R) where
  -- the level is one, and none that is too deep begins with the rule
  pub record IsWithin (n : Leveled R) : Type 0 where
    pub low : 1 ≤ n.1
    pub high : n.1 ≤ g.deep_level
    pub begins : g.begins_level n.0 ≡ true → n.1 < g.deep_level

  -- by the rows that the token ahead picks
  pub data Levels : List (Symbol T (Leveled R)) → List T → Type 0 where
    over : Levels [] []
    taken : {a : T} {z : List (Symbol T (Leveled R))} {w : List T} → Levels z w → Levels (Terminal a ∷ z) (a ∷ w)
    chosen : {n : Leveled R} {z : List (Symbol T (Leveled R))} {w : List T} (α : List (RowSymbol T R)) → look.choice g s n.0 (ahead w) ≡ Some α → IsWithin n → Levels (gr.row_at g n.1 α ++ z) w → Levels (Nonterminal n ∷ z) w
