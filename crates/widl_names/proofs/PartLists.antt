-- Lists of parts, a definition at a time.
use Rattle.std.proofs.Common.{◌≡◌, ◌≢◌, ℕ, ◌+◌, ◌<◌, ◌≤◌, ◌++◌, Bool, true, false, cond, List, [], ◌∷◌, length, take, map, flat_map, get_or, slice_set, nat_eq, Option, Some, arith, refl, sym, ap, ◌∙◌, Bor, append-nil, length-set, get_or-set_same, get_or-set_other}
use Rattle.std.proofs.lemmas.List.{take_all, map-append, flat_map_more}
use Rattle.widl_idl.specs.declared.tree.definitions.Definition.{Definition}
use Rattle.widl_idl.specs.PlainTrees.{PlainDefinition, definition_of}
use Rattle.widl_idl.specs.MergingRules.{is_number}
use Rattle.widl_names.specs.Listings.{listed_definitions}
use Rattle.widl_names.specs.PartTables.{Grouped, Puts}
use Rattle.widl_names.proofs.PlainLists.{listed_more}

-- one item is put after the group of its owner
put_at : {X : Type 0} (old : List (List X)) (owner number : ℕ) (item : X) (b : Bool) → nat_eq number owner ≡ b → owner < length old → get_or (slice_set old owner (get_or old owner [] ++ item ∷ [])) number [] ≡ get_or old number [] ++ cond b (item ∷ []) []
put_at old owner number item true h below =
    let same : number ≡ owner = grind arith in
    ap (λ k. get_or (slice_set old owner (get_or old owner [] ++ item ∷ [])) k []) same ∙ get_or-set_same old owner (get_or old owner [] ++ item ∷ []) [] below ∙ ap (λ k. get_or old k [] ++ item ∷ []) (sym same)
put_at old owner number item false h below =
    let other : number ≢ owner = grind arith in
    get_or-set_other old owner number (get_or old owner [] ++ item ∷ []) [] other ∙ sym (append-nil (get_or old number []))

pub put_one : {X : Type 0} (old new : List (List X)) (owner : Option ℕ) (number : ℕ) (item : X) → Some number ≡ owner → number < length old → new ≡ slice_set old number (get_or old number [] ++ item ∷ []) → Puts old new owner (item ∷ [])
put_one old new owner number item is below e = record {
  size = ap length e ∙ length-set old number (get_or old number [] ++ item ∷ []);
  each = λ n. ap (λ groups. get_or groups n []) e ∙ put_at old number n item (nat_eq n number) refl below ∙ ap (λ o. get_or old n [] ++ cond (is_number n o) (item ∷ []) []) is;
}

map_by : {X Y : Type 0} (read : X → Y) (b : Bool) (xs : List X) → map read (cond b xs []) ≡ cond b (map read xs) []
map_by read true xs = refl
map_by read false xs = refl

-- the groups, with one definition more
pub group_step : {X Y : Type 0} (read : X → Y) (part : ℕ → PlainDefinition → List Y) (old new : List (List X)) (definitions : List (Bor Definition)) (i count : ℕ) (d : Bor Definition) (owner : Option ℕ) (items : List X) → i < length definitions → d ≡ get_or definitions i d
    → Puts old new owner items → ((number : ℕ) → cond (is_number number owner) (map read items) [] ≡ part number (definition_of d.now))
    → Grouped read part old (listed_definitions (take i definitions)) count → Grouped read part new (listed_definitions (take (i + 1) definitions)) count
group_step read part old new definitions i count d owner items below is puts are g = record {
  size = puts.size ∙ g.size;
  each = λ n. ap (map read) (puts.each n) ∙ map-append read (get_or old n []) (cond (is_number n owner) items []) ∙ ap (λ ys. map read (get_or old n []) ++ ys) (map_by read (is_number n owner) items ∙ are n) ∙ ap (λ ys. ys ++ part n (definition_of d.now)) (g.each n)
      ∙ flat_map_more (part n) [] (listed_definitions (take i definitions)) (definition_of d.now) ∙ ap (flat_map (part n)) (sym (listed_more definitions i d below is));
}

-- at the end of the list
pub group_all : {X Y : Type 0} (read : X → Y) (part : ℕ → PlainDefinition → List Y) (groups : List (List X)) (definitions : List (Bor Definition)) (i count : ℕ) (all : List PlainDefinition) → length definitions ≤ i → listed_definitions definitions ≡ all
    → Grouped read part groups (listed_definitions (take i definitions)) count → (number : ℕ) → map read (get_or groups number []) ≡ flat_map (part number) all
group_all read part groups definitions i count all past same g = λ n. g.each n ∙ ap (λ ds. flat_map (part n) (listed_definitions ds)) (take_all i definitions past) ∙ ap (flat_map (part n)) same

map_same : {X : Type 0} (xs : List X) → map (λ x. x) xs ≡ xs
map_same [] = refl
map_same (x ∷ xs) = ap (λ ys. x ∷ ys) (map_same xs)

-- the same of groups that are read as they are
pub group_all_same : {X : Type 0} (part : ℕ → PlainDefinition → List X) (groups : List (List X)) (definitions : List (Bor Definition)) (i count : ℕ) (all : List PlainDefinition) → length definitions ≤ i → listed_definitions definitions ≡ all
    → Grouped (λ x. x) part groups (listed_definitions (take i definitions)) count → (number : ℕ) → get_or groups number [] ≡ flat_map (part number) all
group_all_same part groups definitions i count all past same g = λ n. sym (map_same (get_or groups n [])) ∙ group_all (λ x. x) part groups definitions i count all past same g n
