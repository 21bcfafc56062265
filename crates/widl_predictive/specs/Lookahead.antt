-- The row that the token ahead picks, and what the machine rests on.
use Rattle.std.specs.Prelude.{◌≡◌, ℕ, zero, suc, ◌+◌, ◌<◌, if◌then◌else◌, Option, Some, None, List, [], ◌∷◌, ◌++◌, Bool, true}
use Rattle.widl_predictive.specs.declared.grammar.Symbol.{Symbol as RowSymbol}
use Rattle.widl_predictive.specs.Derivation.{Symbol, Terminal, Nonterminal}
use Rattle.widl_predictive.specs.Predictive as theory
use Rattle.widl_predictive.specs.Grammar as gr
use Rattle.widl_predictive.specs.Grammar.{Grammar, Leveled}

-- what a rule may begin with, what may follow it, whether it may be empty, the number of the row that a token picks, and a bound on the rows that it puts before a token
pub record Sets (T R : Type 0) : Type 0 where
  pub is : T → Option T → Bool
  pub nullable : R → Bool
  pub first : R → Option T → Bool
  pub follow : R → Option T → Bool
  pub picked : R → Option T → ℕ
  pub cost : R → ℕ

-- the item of a list at a place
abbrev pub nth : {X : Type 0} → List X → ℕ → Option X
nth [] k = None
nth (x ∷ xs) zero = Some x
nth (x ∷ xs) (suc k) = nth xs k

module _ {T R : Type 0} (g : Grammar T R) (s : Sets T R) where
  -- the row that what is ahead picks
  abbrev pub choice : R → Option T → Option (List (RowSymbol T R))
  choice r l = nth (g.rows r) (s.picked r l)

  abbrev pub pick : Leveled R → Option T → Option (List (Symbol T (Leveled R)))
  pick n l = nth (gr.rows g n) (s.picked n.0 l)

  abbrev pub nullable : Leveled R → Bool
  nullable n = s.nullable n.0

  abbrev pub first : Leveled R → Option T → Bool
  first n l = s.first n.0 l

  abbrev pub follow : Leveled R → Option T → Bool
  follow n l = s.follow n.0 l

  -- a bound on the rows that may be put on a stack before a token is wanted
  abbrev pub stack_cost : List (Symbol T (Leveled R)) → ℕ
  stack_cost [] = 0
  stack_cost (Terminal t ∷ z) = 0
  stack_cost (Nonterminal n ∷ z) = if s.nullable n.0 then s.cost n.0 + stack_cost z else s.cost n.0

  -- what a grammar owes: its rows are predictive, its starts may end, and each row that is put on a stack costs less than its rule
  pub record IsPredictive : Type 0 where
    pub theory : theory.Predictive s.is nullable first follow (gr.rows g) pick
    pub end_follows : (r : R) → g.starts r ≡ true → s.follow r None ≡ true
    pub falls : (r : R) (v k : ℕ) (a : List (RowSymbol T R)) (z : List (Symbol T (Leveled R))) → nth (g.rows r) k ≡ Some a → stack_cost (gr.row_at g v a ++ z) < stack_cost (Nonterminal (r, v) ∷ z)
