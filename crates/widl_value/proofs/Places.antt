-- The item at a place of a list.
use Rattle.std.proofs.Common.{◌≡◌, ◌+◌, ◌<◌, zero, suc, List, [], ◌∷◌, length, map, drop, get_or, arith, ap, sym, subst, ◌∙◌}
use Rattle.std.specs.Prelude.{ℕ, slice_get, option_map, Some}
use Rattle.std.proofs.lemmas.List.{length-map}
use Rattle.std.proofs.lemmas.Option.{same_Some, slice_get-map, slice_get-get_or}

pub term_at : {A B : Type 0} (term : A → B) (xs : List A) (place : ℕ) (x y : A) → place < length (map term xs) → y ≡ get_or xs place y → x ≡ y → slice_get (map term xs) place ≡ Some (term x)
term_at term xs place x y below is same =
    let within : place < length xs = subst (λ n. place < n) (length-map xs term) below in
    slice_get-map term xs place ∙ ap (option_map term) (slice_get-get_or xs place y within) ∙ ap (λ v. Some (term v)) (sym is ∙ sym same)

-- the items from a place on are the one there and those behind it
pub drop_at : {X : Type 0} (xs : List X) (i : ℕ) (x : X) → slice_get xs i ≡ Some x → drop i xs ≡ x ∷ drop (i + 1) xs
drop_at [] i x is = absurd (cc)
drop_at (y ∷ xs) zero x is = ap (λ z. z ∷ xs) (same_Some y x is)
drop_at (y ∷ xs) (suc i) x is =
    let n : suc i + 1 ≡ suc (i + 1) = omega arith in
    drop_at xs i x is ∙ ap (λ k. x ∷ drop k (y ∷ xs)) (sym n)
