-- Lists of definitions as plain terms.
use Rattle.std.proofs.Common.{◌≡◌, ℕ, ◌+◌, ◌<◌, ◌^◌, ◌++◌, List, [], ◌∷◌, length, take, map, get_or, slice_get, option_map, Some, arith, refl, sym, ap, ◌∙◌, Bor}
use Rattle.std.proofs.lemmas.List.{length-map, take_more, map-append}
use Rattle.widl_idl.specs.declared.tree.definitions.Definition.{Definition}
use Rattle.std.proofs.lemmas.Option.{slice_get-map, slice_get_read}
use Rattle.widl_idl.specs.PlainTrees.{PlainDefinition, definition_of, plain_definitions}
use Rattle.widl_names.specs.Listings.{listed_definitions}

-- the definitions of a list are those that its items are
pub listed_twice : (list : List (Bor Definition)) → listed_definitions list ≡ plain_definitions (map (λ d. d.now) list)
listed_twice [] = refl
listed_twice (d ∷ list) = ap (λ ds. definition_of d.now ∷ ds) (listed_twice list)

pub listed_same : (list : List (Bor Definition)) (definitions : List Definition) → map (λ d. d.now) list ≡ definitions → listed_definitions list ≡ plain_definitions definitions
listed_same list definitions e = listed_twice list ∙ ap plain_definitions e

-- the scope of files has their definitions
pub scope_declares : (list items : List (Bor Definition)) (declared : List PlainDefinition) (scope : List Definition) → list ≡ items → listed_definitions items ≡ declared → scope ≡ map (λ d. d.now) list → plain_definitions scope ≡ declared
scope_declares list items declared scope same listed is = sym (listed_same list scope (sym is)) ∙ ap listed_definitions same ∙ listed

-- a list of what is seen as few items is short
pub short_list : {X Y : Type 0} (f : X → Y) (list items : List X) (seen : List Y) → list ≡ items → map f items ≡ seen → length seen < 2 ^ 32 → length list < 2 ^ 32
short_list f list items seen same is few = let size = length-map list f in let sizes = ap length (ap (map f) same ∙ is) in omega (arith, size, sizes, few)

-- the list up to the next definition
pub listed_more : (list : List (Bor Definition)) (i : ℕ) (d : Bor Definition) → i < length list → d ≡ get_or list i d → listed_definitions (take (i + 1) list) ≡ listed_definitions (take i list) ++ definition_of d.now ∷ []
listed_more list i d below is = ap listed_definitions (take_more list i d below ∙ ap (λ e. take i list ++ e ∷ []) (sym is)) ∙ map-append (λ e. definition_of e.now) (take i list) (d ∷ [])

-- what a list is mapped to, up to the next item
pub mapped_more : {X Y : Type 0} (f : X → Y) (xs : List X) (i : ℕ) (x : X) → i < length xs → x ≡ get_or xs i x → map f (take (i + 1) xs) ≡ map f (take i xs) ++ f x ∷ []
mapped_more f xs i x below is = ap (map f) (take_more xs i x below ∙ ap (λ y. take i xs ++ y ∷ []) (sym is)) ∙ map-append f (take i xs) (x ∷ [])

-- the kind of a definition at its place
pub kind_there : (list : List (Bor Definition)) (definitions : List Definition) (i : ℕ) (d : Bor Definition) → i < length list → d ≡ get_or list i d → map (λ e. e.now) list ≡ definitions → option_map (λ (x : PlainDefinition). x.kind) (slice_get (plain_definitions definitions) i) ≡ Some (definition_of d.now).kind
kind_there list definitions i d below is same =
    ap (λ ds. option_map (λ (x : PlainDefinition). x.kind) (slice_get ds i)) (sym (listed_same list definitions same))
    ∙ ap (option_map (λ (x : PlainDefinition). x.kind)) (slice_get-map (λ (e : Bor Definition). definition_of e.now) list i ∙ ap (option_map (λ (e : Bor Definition). definition_of e.now)) (slice_get_read list (length list) i d refl below is))
