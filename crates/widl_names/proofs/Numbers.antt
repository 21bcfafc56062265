-- One number more in the table of numbers by name.
use Rattle.std.proofs.Common.{◌≡◌, ℕ, Bool, true, false, cond, List, Option, None, Some, refl, ap, ◌∙◌, bytes_eq, is_some}
use Rattle.std.specs.Cmp.Lexicographic.{bytes_decides}
use Rattle.std.specs.Option.{option_or}

-- a text that had no number takes this one
pub kept_new : (old : List ℕ → Option ℕ) (text other : List ℕ) (number : ℕ) (now : Option ℕ) → is_some (old text) ≡ false → now ≡ cond (bytes_eq text other) (Some number) (old other) → now ≡ option_or (old other) (cond (bytes_eq text other) (Some number) None)
kept_new old text other number now none is = is ∙ by_case (bytes_eq text other) refl (old other) refl
  where
    by_case : (b : Bool) → bytes_eq text other ≡ b → (o : Option ℕ) → old other ≡ o → cond b (Some number) o ≡ option_or o (cond b (Some number) None)
    by_case true h None e = refl
    by_case true h (Some k) e = let some : is_some (old text) ≡ true = ap (λ t. is_some (old t)) ((bytes_decides text other).0 h) ∙ ap is_some e in absurd (cc)
    by_case false h None e = refl
    by_case false h (Some k) e = refl
