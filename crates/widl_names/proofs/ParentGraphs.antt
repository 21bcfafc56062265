-- The graph of parents: what each definition leads to is a definition.
use Rattle.std.proofs.Common.{◌≡◌, ℕ, ◌+◌, ◌<◌, ◌≤◌, ◌++◌, Bool, true, false, cond, zero, suc, List, [], ◌∷◌, length, take, map, get_or, Option, None, Some, arith, refl, sym, ap, subst, ◌∙◌}
use Rattle.std.specs.Prelude.{option_to_list}
use Rattle.std.specs.List.{Contains}
use Rattle.std.proofs.lemmas.List.{length-map, take_more, take_all, take-map, map-append}
use Rattle.widl_graph.specs.Reaching.{AreNodes, Step}
use Rattle.widl_idl.specs.declared.kind.Kind.{Kind}
use Rattle.widl_idl.specs.Meanings.{kind_of, meaning, meant_kind, same_kind}
use Rattle.widl_idl.specs.MergingRules.{is_kind, number_of_kind, parent_links, parent_numbers, parent_of}
use Rattle.widl_idl.specs.PlainTypes.{PlainName}
use Rattle.widl_idl.specs.PlainTrees.{PlainDefinition}
use Rattle.widl_names.proofs.NameMeanings.{meaning_below}

pub none_listed : (b : Bool) → option_to_list {X = ℕ} (cond b None None) ≡ []
none_listed true = refl
none_listed false = refl

one_listed : (b : Bool) (n : ℕ) → option_to_list (cond b (Some n) None) ≡ cond b (n ∷ []) []
one_listed true n = refl
one_listed false n = refl

-- the number that a name means, where that is of the kind
pub number_listed : (kind : Kind) (other : Option Kind) (number : Option ℕ) → option_to_list (cond (is_kind kind other) number None) ≡ number_of_kind kind other number
number_listed kind None number = refl
number_listed kind (Some other) None = none_listed (same_kind kind other)
number_listed kind (Some other) (Some n) = one_listed (same_kind kind other) n

-- each number in the list is below the count
abbrev pub AllBelow : ℕ → List ℕ → Type 0
AllBelow count xs = (y : ℕ) → Contains xs y → y < count

pub none_in : (count : ℕ) → AllBelow count []
none_in count y c = absurd (let l = c.1 in omega arith)

pub one_in : (count x : ℕ) → x < count → AllBelow count (x ∷ [])
one_in count x l y c = by_place c.0 c.1 c.2
  where
    by_place : (k : ℕ) → k < length (x ∷ []) → get_or (x ∷ []) k y ≡ y → y < count
    by_place zero below e = let same : x ≡ y = e in omega (arith, same, l)
    by_place (suc k) below e = absurd (omega arith)

module _ (f : PlainDefinition → List ℕ) (count : ℕ) (within : (d : PlainDefinition) → AllBelow count (f d)) where
  each_below : (definitions : List PlainDefinition) (x y : ℕ) → Step (map f definitions) x y → y < count
  each_below [] x y s = none_in count y s
  each_below (d ∷ more) zero y s = within d y s
  each_below (d ∷ more) (suc x) y s = each_below more x y s

-- links whose numbers are those of definitions are a graph
pub links_within : (definitions : List PlainDefinition) (f : PlainDefinition → List ℕ) → ((d : PlainDefinition) → AllBelow (length definitions) (f d)) → AreNodes (map f definitions)
links_within definitions f within = record { below = λ x y s. subst (λ n. y < n) (sym (length-map definitions f)) (each_below f (length definitions) within definitions x y s) }

module _ (definitions : List PlainDefinition) where
  by_kind : (kind : Kind) (other : Option Kind) (number : Option ℕ) → ((k : ℕ) → number ≡ Some k → k < length definitions) → AllBelow (length definitions) (number_of_kind kind other number)
  by_kind kind None number l = none_in (length definitions)
  by_kind kind (Some other) None l = none_in (length definitions)
  by_kind kind (Some other) (Some k) l = by_case (same_kind kind other)
    where
      by_case : (b : Bool) → AllBelow (length definitions) (cond b (k ∷ []) [])
      by_case true = one_in (length definitions) k (l k refl)
      by_case false = none_in (length definitions)

  parents_below : (kind : Kind) (name : Option PlainName) → AllBelow (length definitions) (parent_numbers definitions kind name)
  parents_below kind None = none_in (length definitions)
  parents_below kind (Some name) = by_kind kind (meant_kind definitions name.text) (meaning definitions name.text) (meaning_below definitions name.text)

  pub parents_are_nodes : AreNodes (parent_links definitions)
  parents_are_nodes = links_within definitions (λ d. parent_numbers definitions (kind_of d.kind) (parent_of d.kind)) (λ d. parents_below (kind_of d.kind) (parent_of d.kind))

-- the links of one definition more, as a loop over the definitions has it: xs is walked, and the links are those of ys
module _ {X Y : Type 0} (f : X → Y) (xs : List X) (ys : List Y) (same : map f xs ≡ ys) (g : Y → List ℕ) where
  seen : (n : ℕ) → take n ys ≡ map f (take n xs)
  seen n = ap (take n) (sym same) ∙ take-map f n xs

  pub links_more : (i : ℕ) (x : X) (old new : List (List ℕ)) → i < length xs → x ≡ get_or xs i x → new ≡ old ++ g (f x) ∷ [] → old ≡ map g (take i ys) → new ≡ map g (take (i + 1) ys)
  links_more i x old new below is added so =
      added ∙ ap (λ l. l ++ g (f x) ∷ []) (so ∙ ap (map g) (seen i)) ∙ sym (map-append g (map f (take i xs)) (f x ∷ []))
      ∙ ap (map g) (sym (map-append f (take i xs) (x ∷ [])) ∙ ap (map f) (sym (take_more xs i x below ∙ ap (λ y. take i xs ++ y ∷ []) (sym is))) ∙ sym (seen (i + 1)))

  pub links_all : (i : ℕ) (new : List (List ℕ)) → length xs ≤ i → new ≡ map g (take i ys) → new ≡ map g ys
  links_all i new past so = so ∙ ap (map g) (take_all i ys (let size : length xs ≡ length ys = sym (length-map xs f) ∙ ap length same in omega (arith, size)))
