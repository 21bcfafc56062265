-- What makes rows predictive: the token ahead tells the row. First and follow sets need only be large enough.
use Rattle.std.specs.Prelude.{◌≡◌, Bool, true, false, Option, Some, None, List, [], ◌∷◌, Contains, ◌||◌, ◌&&◌}
use Rattle.widl_predictive.specs.Derivation.{Symbol, Terminal, Nonterminal, Derives}

-- the token ahead, or none at the end
abbrev pub ahead : {T : Type 0} → List T → Option T
ahead [] = None
ahead (a ∷ w) = Some a

abbrev pub is_end : {T : Type 0} → Option T → Bool
is_end None = true
is_end (Some a) = false

abbrev pub never : {T : Type 0} → Option T → Bool
never l = false

module _ {T N : Type 0} (is : T → Option T → Bool) (nullable : N → Bool) (first : N → Option T → Bool) where
  -- may what is ahead begin what the symbols derive, where `after` says what may follow them?
  abbrev pub selects : List (Symbol T N) → (Option T → Bool) → Option T → Bool
  selects [] after l = after l
  selects (Terminal a ∷ s) after l = is a l
  selects (Nonterminal n ∷ s) after l = first n l || (nullable n && selects s after l)

  -- may the symbols derive no token?
  abbrev pub vanishes : List (Symbol T N) → Bool
  vanishes [] = true
  vanishes (Terminal a ∷ s) = false
  vanishes (Nonterminal n ∷ s) = nullable n && vanishes s

  module _ (follow : N → Option T → Bool) where
    -- what may come after each nonterminal among the symbols is in its follow set
    abbrev pub Keeps : List (Symbol T N) → (Option T → Bool) → Type 0
    Keeps [] after = Unit {0}
    Keeps (Terminal a ∷ s) after = Keeps s after
    Keeps (Nonterminal n ∷ s) after = ((l : Option T) → selects s after l ≡ true → follow n l ≡ true) × Keeps s after

    module _ (rows : N → List (List (Symbol T N))) (pick : N → Option T → Option (List (Symbol T N))) where
      pub record Predictive : Type 0 where
        -- the test of a token against what is ahead
        pub same : (a b : T) → is a (Some b) ≡ true → a ≡ b
        pub self : (a : T) → is a (Some a) ≡ true
        -- the sets are large enough
        pub starts : (n : N) (α : List (Symbol T N)) → Contains (rows n) α → (l : Option T) → selects α never l ≡ true → first n l ≡ true
        pub empty : (n : N) (α : List (Symbol T N)) → Contains (rows n) α → vanishes α ≡ true → nullable n ≡ true
        pub inside : (n : N) (α : List (Symbol T N)) → Contains (rows n) α → Keeps α (follow n)
        -- a row that may stand before what is ahead is the one that is picked
        pub chosen : (n : N) (α : List (Symbol T N)) → Contains (rows n) α → (l : Option T) → selects α (follow n) l ≡ true → pick n l ≡ Some α
        pub from_rows : (n : N) (l : Option T) (α : List (Symbol T N)) → pick n l ≡ Some α → Contains (rows n) α
        -- each nonterminal derives something
        pub word : (n : N) → (w : List T) × Derives rows (Nonterminal n ∷ []) w
