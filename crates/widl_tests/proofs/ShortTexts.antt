-- Texts none of which has more bytes than a file may have.
use Rattle.std.proofs.Common.{arith, sym, subst, ◌≡◌, ◌≤◌, ℕ, zero, suc, List, [], ◌∷◌, ◌++◌, length}
use Rattle.widl_front.specs.Texts.{named, AreShort}
use Rattle.widl_text.specs.Limits.{most_file_bytes}

pub short_none : (texts : List (List ℕ)) → texts ≡ [] → AreShort texts
short_none texts none i = subst (λ l. length (named l i) ≤ most_file_bytes) (sym none) (omega arith)

short_with : (old : List (List ℕ)) (bytes : List ℕ) → AreShort old → length bytes ≤ most_file_bytes → AreShort (old ++ bytes ∷ [])
short_with [] bytes so_far short zero = short
short_with [] bytes so_far short (suc i) = omega arith
short_with (text ∷ texts) bytes so_far short zero = so_far zero
short_with (text ∷ texts) bytes so_far short (suc i) = short_with texts bytes (λ j. so_far (suc j)) short i

pub short_more : (old new : List (List ℕ)) (bytes : List ℕ) → new ≡ old ++ bytes ∷ [] → AreShort old → length bytes ≤ most_file_bytes → AreShort new
short_more old new bytes added so_far short = subst AreShort (sym added) (short_with old bytes so_far short)
