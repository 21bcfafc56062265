-- The texts of a set with one text more.
use Rattle.std.proofs.Common.{◌≡◌, ℕ, Bool, true, false, cond, ◌||◌, List, arith, bytes_eq, Bor}
use Rattle.indexmap.specs.IndexSet.{IndexSet, contains_by}
use Rattle.widl_names.specs.KnownTexts.{has_text}

pub text_added : {S : Type 0} (old new : IndexSet (Bor (List ℕ)) S) (text other : List ℕ) → contains_by (λ k. bytes_eq other k.now) new ≡ cond (bytes_eq text other) true (contains_by (λ k. bytes_eq other k.now) old) → has_text new other ≡ (has_text old other || bytes_eq text other)
text_added old new text other e = grind (arith, e)
