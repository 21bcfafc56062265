-- The units that are kept for texts, with one text more.
use Rattle.std.proofs.Common.{◌≡◌, ℕ, Bool, true, false, cond, List, bytes_eq, Option, Some, arith, refl, sym, ap, ◌∙◌}
use Rattle.std.proofs.lemmas.Slice.Eq.{bytes_eq-Decides}
use Rattle.widl_idl.specs.WrittenLiterals.{units_of}
use Rattle.widl_names.proofs.Pushed.{some_is}

pub kept_more : (key text mine units : List ℕ) (old new : Option (List ℕ)) → new ≡ cond (bytes_eq key text) (Some mine) old → mine ≡ units_of key → ((more : List ℕ) → old ≡ Some more → more ≡ units_of text) → new ≡ Some units → units ≡ units_of text
kept_more key text mine units old new put is kept found = by (bytes_eq key text) refl
  where
    by : (b : Bool) → bytes_eq key text ≡ b → units ≡ units_of text
    by true h = let same : key ≡ text = grind (arith, bytes_eq-Decides key text) in sym (some_is (sym (put ∙ ap (λ b. cond b (Some mine) old) h) ∙ found)) ∙ is ∙ ap units_of same
    by false h = kept units (sym (put ∙ ap (λ b. cond b (Some mine) old) h) ∙ found)
