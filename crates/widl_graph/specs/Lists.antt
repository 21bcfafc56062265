-- Lists that lie one after another in one list.
use Rattle.std.specs.Prelude.{ℕ, ◌≤◌, ◌-◌, List, [], ◌∷◌, ◌++◌, take, drop}

-- the lists that begin at these places, each up to the beginning of the next
abbrev pub lists_of : List ℕ → List ℕ → List (List ℕ)
lists_of [] xs = []
lists_of (begin ∷ []) xs = drop begin xs ∷ []
lists_of (begin ∷ (end ∷ rest)) xs = take (end - begin) (drop begin xs) ∷ lists_of (end ∷ rest) xs

-- each place is at or after the one before it, and none is past the end
abbrev pub Begins : List ℕ → ℕ → Type 0
Begins [] end = Unit {0}
Begins (begin ∷ []) end = begin ≤ end
Begins (begin ∷ (next ∷ rest)) end = (begin ≤ next) × Begins (next ∷ rest) end

-- the lists with one more item at the end of the last of them
abbrev pub with_successor : List (List ℕ) → ℕ → List (List ℕ)
with_successor [] x = []
with_successor (xs ∷ []) x = (xs ++ x ∷ []) ∷ []
with_successor (xs ∷ (ys ∷ rest)) x = xs ∷ with_successor (ys ∷ rest) x
