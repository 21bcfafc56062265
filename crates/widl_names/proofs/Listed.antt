-- What a loop over a list adds to a listing.
use Rattle.std.proofs.Common.{◌≡◌, refl, ℕ, ◌+◌, ◌<◌, ◌≤◌, ◌++◌, List, [], ◌∷◌, length, take, flat_map, get_or, sym, ap, ◌∙◌}
use Rattle.std.proofs.lemmas.List.{take_more, take_all, flat_map_more}
use Rattle.widl_idl.specs.declared.tree.types.AnnotatedType.{AnnotatedType}
use Rattle.widl_idl.specs.Nodes.{nodes_of_annotated, nodes_of_union}
use Rattle.widl_idl.specs.PlainTypes.{annotated_of, union_of}

-- with one item more
pub listed_more : {X A : Type 0} (f : X → List A) (xs : List X) (i : ℕ) (x : X) (start old new : List A) → i < length xs → x ≡ get_or xs i x → new ≡ old ++ f x → old ≡ start ++ flat_map f (take i xs) → new ≡ start ++ flat_map f (take (i + 1) xs)
listed_more f xs i x start old new below is added so =
    added ∙ ap (λ l. l ++ f x) so ∙ flat_map_more f start (take i xs) x
    ∙ ap (λ l. start ++ flat_map f l) (sym (take_more xs i x below ∙ ap (λ y. take i xs ++ y ∷ []) (sym is)))

-- at the end of the list
pub listed_all : {X A : Type 0} (f : X → List A) (xs : List X) (i : ℕ) (start new whole : List A) → length xs ≤ i → flat_map f xs ≡ whole → new ≡ start ++ flat_map f (take i xs) → new ≡ start ++ whole
listed_all f xs i start new whole past is so = so ∙ ap (λ l. start ++ flat_map f l) (take_all i xs past) ∙ ap (λ l. start ++ l) is

-- the nodes of a union's members, as a loop over them lists them
pub union_listed : (members : List AnnotatedType) → flat_map (λ m. nodes_of_annotated (annotated_of m)) members ≡ nodes_of_union (union_of members)
union_listed [] = refl
union_listed (m ∷ members) = ap (λ nodes. nodes_of_annotated (annotated_of m) ++ nodes) (union_listed members)
