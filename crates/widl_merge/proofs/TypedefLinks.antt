-- Which typedefs the type of a typedef names: the links of their graph, from a name to its number and back.
use Rattle.std.proofs.Common.{◌≡◌, ℕ, ◌<◌, zero, suc, List, [], ◌∷◌, length, map, get_or, slice_get, Option, None, Some, option_map, arith, refl, sym, ap, subst, ◌∙◌}
use Rattle.std.specs.Prelude.{option_and_then}
use Rattle.std.specs.List.{Contains, flat_map}
use Rattle.std.proofs.lemmas.List.Elements.{Contains-append_left, Contains-append_right}
use Rattle.widl_graph.specs.Reaching.{Step, successors_of}
use Rattle.widl_idl.specs.Meanings.{meaning, meant}
use Rattle.widl_idl.specs.Nesting.{annotated_names, number_if_typedef, typedef_links, typedef_named, typedefs_in}
use Rattle.widl_idl.specs.PlainTypes.{PlainName}
use Rattle.widl_idl.specs.PlainTrees.{PlainDefinition, PlainKind, PlainTypedef, TypedefDefinition}

-- a list of lists, put together
pub flat_has : {X Y : Type 0} (f : X → List Y) (xs : List X) (x : X) (y : Y) → Contains xs x → Contains (f x) y → Contains (flat_map f xs) y
flat_has f [] x y c h = absurd (let l = c.1 in omega (arith, l))
flat_has f (first ∷ xs) x y c h = by_place c.0 c.1 c.2 (λ d. flat_has f xs x y d h)
  where
    by_place : (k : ℕ) → k < length (first ∷ xs) → get_or (first ∷ xs) k x ≡ x → (Contains xs x → Contains (flat_map f xs) y) → Contains (flat_map f (first ∷ xs)) y
    by_place zero below e later = Contains-append_left (f first) (flat_map f xs) y (subst (λ z. Contains (f z) y) (sym e) h)
    by_place (suc k) below e later = Contains-append_right (f first) (flat_map f xs) y (later (k, omega (arith, below), e))

-- the kind of the definition of a number
abbrev pub kind_of_number : List PlainDefinition → ℕ → Option PlainKind
kind_of_number definitions number = option_map (λ d. d.kind) (slice_get definitions number)

abbrev pub links_of : (PlainKind → List ℕ) → Option PlainKind → List ℕ
links_of g None = []
links_of g (Some kind) = g kind

pub links_at : (g : PlainKind → List ℕ) (ds : List PlainDefinition) (x : ℕ) → successors_of (map (λ d. g d.kind) ds) x ≡ links_of g (kind_of_number ds x)
links_at g [] x = refl
links_at g (d ∷ ds) zero = refl
links_at g (d ∷ ds) (suc x) = links_at g ds x

module _ (definitions : List PlainDefinition) where
  -- what a name means has a number
  pub meant_at : (text : List ℕ) (kind : PlainKind) → meant definitions text ≡ Some kind → (y : ℕ) × (meaning definitions text ≡ Some y) × (kind_of_number definitions y ≡ Some kind)
  meant_at text kind e = by_number (meaning definitions text) e
    where
      by_number : (m : Option ℕ) → option_map (λ d. d.kind) (option_and_then (slice_get definitions) m) ≡ Some kind → (y : ℕ) × (m ≡ Some y) × (kind_of_number definitions y ≡ Some kind)
      by_number None h = absurd (cc)
      by_number (Some y) h = (y, refl, h)

  -- a typedef is linked to the typedefs that its type names
  pub link_named : (x y : ℕ) (t u : PlainTypedef) (name : PlainName) → kind_of_number definitions x ≡ Some (TypedefDefinition t) → Contains (annotated_names t.ty) name → meaning definitions name.text ≡ Some y → meant definitions name.text ≡ Some (TypedefDefinition u) → Step (typedef_links definitions) x y
  link_named x y t u name is c number kind =
      let here : typedef_named definitions name ≡ y ∷ [] = ap (λ m. number_if_typedef m (meant definitions name.text)) number ∙ ap (number_if_typedef (Some y)) kind in
      let all : successors_of (typedef_links definitions) x ≡ typedefs_in definitions (TypedefDefinition t) = links_at (typedefs_in definitions) definitions x ∙ ap (links_of (typedefs_in definitions)) is in
      subst (λ ys. Contains ys y) (sym all) (flat_has (typedef_named definitions) (annotated_names t.ty) name y c (subst (λ ys. Contains ys y) (sym here) (0, omega arith, refl)))
