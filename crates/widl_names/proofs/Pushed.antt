-- The first violation at which an item breaks, where a list has one item more at its end.
use Rattle.std.proofs.Common.{◌≡◌, ◌⊎◌, inl, inr, ℕ, ◌+◌, ◌<◌, ◌++◌, Bool, true, false, nat_lt, List, [], ◌∷◌, length, take, slice_get, Option, Some, arith, refl, sym, ap, subst, ◌∙◌}
use Rattle.std.proofs.lemmas.List.{take-append-le, get_or_append_left, length-append}
use Rattle.std.proofs.lemmas.Option.{slice_get-get_or}
use Rattle.std.proofs.Math.Seq.{get_or-append_seam, take-append_seam}
use Rattle.widl_idl.specs.declared.violation.Violation.{Violation}
use Rattle.widl_idl.specs.First.{FirstWhere, AtOne, earlier}
use Rattle.widl_first.specs.First.{Either}
use Rattle.widl_idl.proofs.Order.{first_either}

pub some_is : {X : Type 0} {x y : X} → Some x ≡ Some y → x ≡ y
some_is e = (cc)

module _ {X : Type 0} (P : List X → X → Violation → Type 0) (xs : List X) (y : X) where
  abbrev pushed : List X
  pushed = xs ++ y ∷ []

  size : length pushed ≡ length xs + 1
  size = length-append xs (y ∷ [])

  -- an item of the list stands at its place in the longer one
  there : (k : ℕ) (x : X) → k < length xs → slice_get pushed k ≡ slice_get xs k
  there k x l = slice_get-get_or pushed k x (omega (arith, size)) ∙ ap Some (get_or_append_left xs (y ∷ []) x k l) ∙ sym (slice_get-get_or xs k x l)

  last : slice_get pushed (length xs) ≡ Some y
  last = slice_get-get_or pushed (length xs) y (omega (arith, size)) ∙ ap Some (get_or-append_seam xs y [] y)

  index_here : (s : Violation) (u : AtOne P pushed s) → (b : Bool) → nat_lt u.index (length xs) ≡ b → AtOne P xs s ⊎ P xs y s
  index_here s u true h =
      let below : u.index < length xs = grind arith in
      inl (record { index = u.index; below = below; item = u.item; is = sym (there u.index u.item below) ∙ u.is; breaks = subst (λ before. P before u.item s) (take-append-le u.index xs (y ∷ []) (omega (arith, below))) u.breaks })
  index_here s u false h =
      let within = u.below in
      let e : u.index ≡ length xs = grind (arith, size) in
      let same : u.item ≡ y = some_is (sym u.is ∙ ap (slice_get pushed) e ∙ last) in
      inr (subst (λ x. P xs x s) same (subst (λ before. P before u.item s) (ap (λ k. take k pushed) e ∙ take-append_seam xs (y ∷ [])) u.breaks))

  from_left : (s : Violation) → AtOne P xs s → AtOne P pushed s
  from_left s u =
      let below = u.below in
      record { index = u.index; below = omega (arith, size, below); item = u.item; is = there u.index u.item below ∙ u.is; breaks = subst (λ before. P before u.item s) (sym (take-append-le u.index xs (y ∷ []) (omega (arith, below)))) u.breaks }

  from_last : (s : Violation) → P xs y s → AtOne P pushed s
  from_last s b = record { index = length xs; below = omega (arith, size); item = y; is = last; breaks = subst (λ before. P before y s) (sym (take-append_seam xs (y ∷ []))) b }

  -- one of the longer list breaks where one of the list does, or the last item
  pub either_pushed : Either (AtOne P xs) (P xs y) (AtOne P pushed)
  either_pushed = record { left = from_left; right = from_last; only = λ s u. index_here s u (nat_lt u.index (length xs)) refl }

  -- the least in a list with one item more
  pub at_one_push : (best found : Option Violation) → FirstWhere (AtOne P xs) best → FirstWhere (P xs y) found → FirstWhere (AtOne P (xs ++ y ∷ [])) (earlier best found)
  at_one_push best found l m = first_either (AtOne P xs) (P xs y) (AtOne P pushed) either_pushed best found l m
