-- The first of things that have keys, lists of numbers in the order of words.
-- Source: this program's own.
use Rattle.std.specs.Prelude.{◌≡◌, ℕ, ◌⊎◌, Bool, true, false, ◌||◌, ◌&&◌, nat_lt, nat_eq, Option, List, [], ◌∷◌}
use Rattle.widl_first.specs.First as first

-- the order of words
abbrev pub lex_lt : List ℕ → List ℕ → Bool
lex_lt xs [] = false
lex_lt [] (y ∷ ys) = true
lex_lt (x ∷ xs) (y ∷ ys) = nat_lt x y || (nat_eq x y && lex_lt xs ys)

module _ {X : Type 0} (key : X → List ℕ) where
  abbrev pub precedes : X → X → Bool
  precedes p q = lex_lt (key p) (key q)

  abbrev pub Precedes : X → X → Type 0
  Precedes p q = precedes p q ≡ true

  -- the first of those that break something, or none where none does
  abbrev pub IsFirst : (X → Type 0) → Option X → Type 0
  IsFirst Breaks found = first.FirstWhere Precedes Breaks found

  -- the first of two
  abbrev pub first_of : Option X → Option X → Option X
  first_of a b = first.first_of precedes a b

abbrev pub Either : {X : Type 0} → (X → Type 0) → (X → Type 0) → X → Type 0
Either A B p = A p ⊎ B p
