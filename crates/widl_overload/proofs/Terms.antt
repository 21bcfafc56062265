-- Items of lists as plain terms.
use Rattle.std.proofs.Common.{◌≡◌, ℕ, ◌<◌, ◌||◌, Bool, List, [], ◌∷◌, length, map, get_or, refl, sym, ap, ◌∙◌}
use Rattle.std.specs.List.{list_any}
use Rattle.std.proofs.lemmas.List.{get_or-map}

pub item_term : {X Y : Type 0} (f : X → Y) (xs : List X) (i : ℕ) (x : X) → i < length xs → x ≡ get_or xs i x → f x ≡ get_or (map f xs) i (f x)
item_term f xs i x below is = ap f is ∙ sym (get_or-map f xs i x (f x) below)

-- a test of the terms
pub any_of_terms : {X Y : Type 0} (p : Y → Bool) (f : X → Y) (xs : List X) → list_any p (map f xs) ≡ list_any (λ x. p (f x)) xs
any_of_terms p f [] = refl
any_of_terms p f (x ∷ xs) = ap (λ b. p (f x) || b) (any_of_terms p f xs)
