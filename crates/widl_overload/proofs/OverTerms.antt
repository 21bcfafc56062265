-- A test of all items by what they are as plain terms.
use Rattle.std.proofs.Common.{◌≡◌, Bool, List, map, sym, ap, ◌∙◌}
use Rattle.std.specs.List.{list_all}
use Rattle.std.proofs.lemmas.List.Folds.{list_all-map}

pub over_terms : {X Y : Type 0} (p : Y → Bool) (h : X → Y) (xs ys : List X) (b : Bool) → b ≡ list_all (λ x. p (h x)) ys → ys ≡ xs → b ≡ list_all p (map h xs)
over_terms p h xs ys b tested same = tested ∙ ap (list_all (λ x. p (h x))) same ∙ sym (list_all-map p h xs)
