-- A grammar of rows with levels, its sentences, and the places of its faults.
use Rattle.std.specs.Prelude.{◌≡◌, ℕ, ◌+◌, ◌<◌, ◌≤◌, if◌then◌else◌, nat_lt, nat_eq, ◌&&◌, List, [], ◌∷◌, ◌++◌, length, take, Bool}
use Rattle.widl_predictive.specs.declared.grammar.Symbol.{Symbol as RowSymbol}
use Rattle.widl_predictive.specs.declared.grammar.Symbol.TheVariants.{Token, Part, Inner}
use Rattle.widl_predictive.specs.declared.fault.Fault.{Fault}
use Rattle.widl_predictive.specs.declared.fault.Fault.TheVariants.{Syntax, TooDeep, Memory}
use Rattle.widl_predictive.specs.Derivation.{Symbol, Terminal, Nonterminal, Derives, begins_at}

-- the rows of each rule, the rules that a whole text may be, the rules that begin a level, and the level that is too deep
pub record Grammar (T R : Type 0) : Type 0 where
  pub rows : R → List (List (RowSymbol T R))
  pub starts : R → Bool
  pub begins_level : R → Bool
  pub deep_level : ℕ

-- a rule, and the level of what it begins
abbrev pub Leveled : Type 0 → Type 0
Leveled R = R × ℕ

-- one level further in; the level that is too deep stands for itself and more
abbrev pub next_level : ℕ → ℕ → ℕ
next_level deep l = if nat_lt l deep then l + 1 else l

module _ {T R : Type 0} (g : Grammar T R) where
  abbrev pub at_level : ℕ → RowSymbol T R → Symbol T (Leveled R)
  at_level l (Token a) = Terminal a
  at_level l (Part r) = Nonterminal (r, l)
  at_level l (Inner r) = Nonterminal (r, next_level g.deep_level l)

  abbrev pub row_at : ℕ → List (RowSymbol T R) → List (Symbol T (Leveled R))
  row_at l [] = []
  row_at l (x ∷ s) = at_level l x ∷ row_at l s

  abbrev pub rows_at : ℕ → List (List (RowSymbol T R)) → List (List (Symbol T (Leveled R)))
  rows_at l [] = []
  rows_at l (a ∷ more) = row_at l a ∷ rows_at l more

  abbrev pub rows : Leveled R → List (List (Symbol T (Leveled R)))
  rows n = rows_at n.1 (g.rows n.0)

  -- a whole text begins at level 1
  abbrev pub start : R → List (Symbol T (Leveled R))
  start r = Nonterminal (r, 1) ∷ []

  abbrev pub Sentence : R → List T → Type 0
  Sentence r w = Derives rows (start r) w

  -- a sentence begins with the tokens
  abbrev pub Begins : R → List T → Type 0
  Begins r w = (v : List T) × Sentence r (w ++ v)

  -- the first token up to and including which no sentence begins, or the length of a list that ends too early
  pub record SyntaxPlace (r : R) (w : List T) (k : ℕ) : Type 0 where
    pub reached : k ≤ length w
    pub before : Begins r (take k w)
    pub within : k < length w → Begins r (take (k + 1) w) → ⊥
    pub at_end : k ≡ length w → Sentence r w → ⊥

  -- a rule that begins a level, at the level that is too deep
  abbrev pub is_deep : Leveled R → Bool
  is_deep n = g.begins_level n.0 && nat_eq n.1 g.deep_level

  -- the token at k begins a level that is too deep, in a derivation of some sentence that begins with the tokens up to it
  abbrev pub DeepAt : R → List T → ℕ → Type 0
  DeepAt r w k = (v : List T) × (d : Sentence r (take (k + 1) w ++ v)) × begins_at is_deep d k

  -- the first such token
  pub record DeepPlace (r : R) (w : List T) (k : ℕ) : Type 0 where
    pub within : k < length w
    pub deep : DeepAt r w k
    pub least : (j : ℕ) → j < k → DeepAt r w j → ⊥

  -- a sentence without a deep place
  pub record IsAccepted (r : R) (w : List T) : Type 0 where
    pub sentence : Sentence r w
    pub no_deep : (k : ℕ) → DeepPlace r w k → ⊥

  -- the fault of a list: of its syntax place and its deep place the lower one
  abbrev pub IsFault : R → List T → Fault → Type 0
  IsFault r w (Syntax k) = SyntaxPlace r w k × ((j : ℕ) → DeepPlace r w j → k < j)
  IsFault r w (TooDeep k) = DeepPlace r w k × ((j : ℕ) → SyntaxPlace r w j → k < j)
  IsFault r w Memory = ⊥
