-- A text alone that is short enough.
use Rattle.std.proofs.Common.{◌≡◌, ℕ, ◌≤◌, zero, suc, List, [], ◌∷◌, length, arith, sym, subst}
use Rattle.widl_text.specs.Limits.{most_file_bytes}
use Rattle.widl_front.specs.Texts.{AreShort}

pub alone_short : (bytes : List ℕ) (texts : List (List ℕ)) → length bytes ≤ most_file_bytes → texts ≡ bytes ∷ [] → AreShort texts
alone_short bytes texts short is = subst AreShort (sym is) by
  where
    by : AreShort (bytes ∷ [])
    by zero = short
    by (suc i) = omega arith
