-- For proofs alone. Items are taken out of a list, one after another.
use Rattle.std.proofs.Common.{◌≡◌, ℕ, suc, ◌+◌, ◌<◌, List, ◌∷◌, drop, length, slice_get, slice_set, Some, sym, ap, ◌∙◌, arith}
use Rattle.std.proofs.Math.Seq.{drop-cons}
use Rattle.std.proofs.lemmas.List.{drop-set-lt, length-set}
use Rattle.std.proofs.lemmas.Option.{get_or_from_slice_get}

-- the values before the place and those from it on, once the one at the place is taken
pub rest_of_taken : {X : Type 0} (xs ys : List X) (k : ℕ) (t new : X) → k < length xs → slice_get xs k ≡ Some t → ys ≡ slice_set xs k new → drop k xs ≡ t ∷ drop (k + 1) ys
rest_of_taken {X = X} xs ys k t new within at put =
    let less : k < k + 1 = omega arith in
    let next : suc k ≡ k + 1 = omega arith in
    drop-cons xs k new within
    ∙ ap (λ (x : X). x ∷ drop (suc k) xs) (get_or_from_slice_get xs k t new at)
    ∙ ap (λ (n : ℕ). t ∷ drop n xs) next
    ∙ ap (λ (zs : List X). t ∷ zs) (sym (drop-set-lt (k + 1) xs k new less))
    ∙ ap (λ (zs : List X). t ∷ drop (k + 1) zs) (sym put)

pub as_many : {X : Type 0} (xs ys : List X) (k n : ℕ) (new : X) → ys ≡ slice_set xs k new → length xs ≡ n → length ys ≡ n
as_many xs ys k n new put is = ap length put ∙ length-set xs k new ∙ is
