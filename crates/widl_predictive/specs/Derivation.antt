-- What the rows of a grammar derive.
use Rattle.std.specs.Prelude.{◌≡◌, ℕ, zero, suc, ◌⊎◌, Bool, true, List, [], ◌∷◌, ◌++◌, Contains}

-- a symbol to be derived
pub data Symbol (T N : Type 0) : Type 0 where
  Terminal : T → Symbol T N
  Nonterminal : N → Symbol T N

-- the symbols derive the tokens: a terminal is the next token, and a nonterminal stands for one of its rows
pub data Derives {T N : Type 0} (rows : N → List (List (Symbol T N))) : List (Symbol T N) → List T → Type 0 where
  done : Derives rows [] []
  token : {a : T} {s : List (Symbol T N)} {w : List T} → Derives rows s w → Derives rows (Terminal a ∷ s) (a ∷ w)
  row : {n : N} {s : List (Symbol T N)} {w : List T} (α : List (Symbol T N)) → Contains (rows n) α → Derives rows (α ++ s) w → Derives rows (Nonterminal n ∷ s) w

-- a nonterminal of the kind begins at token k of what is derived
abbrev pub begins_at : {T N : Type 0} {rows : N → List (List (Symbol T N))} (kind : N → Bool) {s : List (Symbol T N)} {w : List T} → Derives rows s w → ℕ → Type 0
begins_at kind done k = ⊥
begins_at kind (token d) zero = ⊥
begins_at kind (token d) (suc k) = begins_at kind d k
begins_at kind (row {n} α mem d) k = ((kind n ≡ true) × (k ≡ 0)) ⊎ begins_at kind d k

-- the tree of a derivation, as its rows in the order of their first tokens
abbrev pub tree_of : {T N : Type 0} {rows : N → List (List (Symbol T N))} {s : List (Symbol T N)} {w : List T} → Derives rows s w → List (List (Symbol T N))
tree_of done = []
tree_of (token d) = tree_of d
tree_of (row α mem d) = α ∷ tree_of d
