-- The graph of dictionaries, a node at a time.
use Rattle.std.proofs.Common.{◌≡◌, ℕ, ◌+◌, ◌<◌, ◌++◌, Bool, true, false, List, [], ◌∷◌, length, map, get_or, slice_get, Some, option_map, arith, refl, sym, ap, subst, ◌∙◌, nat_lt, length-append}
use Rattle.std.specs.List.{flat_map}
use Rattle.std.proofs.Math.ListN.{get_or-append}
use Rattle.std.proofs.Math.Seq.{get_or-append_seam}
use Rattle.std.proofs.lemmas.List.{length-map}
use Rattle.std.proofs.lemmas.List.Folds.{flat_map-map}
use Rattle.std.proofs.lemmas.Option.{slice_get-map, slice_get_read}
use Rattle.widl_graph.specs.Reaching.{successors_of}
use Rattle.widl_idl.specs.declared.dictionary.Dict.{Dict}
use Rattle.widl_idl.specs.declared.dictionary.Member.{Member}
use Rattle.widl_idl.specs.declared.types.IdlType.{IdlType}
use Rattle.widl_idl.specs.DefinitionTerms.{DictTerm, dict_term, member_term}
use Rattle.widl_idl.specs.Terms.{type_term, packed}
use Rattle.widl_inheritance.specs.HoldingGraph.{AreWithin, IsHoldingGraph, IsTypeGraph, IsWithin, member_links}
use Rattle.widl_overload.specs.rules.Dictionaries.{dictionaries_in, dictionaries_in_all}

-- the nodes of a graph with one more
module _ (old new : List (List ℕ)) (links : List ℕ) (added : new ≡ old ++ links ∷ []) where
  one_longer : length new ≡ length old + 1
  one_longer = let size : length new ≡ length old + length (links ∷ []) = ap length added ∙ length-append old (links ∷ []) in omega (arith, size)

  as_before : (n : ℕ) → n < length old → successors_of new n ≡ successors_of old n
  as_before n below = ap (λ g. successors_of g n) added ∙ get_or-append old (links ∷ []) [] n below

  at_last : (n : ℕ) → n ≡ length old → successors_of new n ≡ links
  at_last n is = ap (λ g. successors_of g n) added ∙ ap (successors_of (old ++ links ∷ [])) is ∙ get_or-append_seam old links [] []

pub types_start : (count : ℕ) (graph : List (List ℕ)) → graph ≡ [] → IsTypeGraph count 0 graph
types_start count graph is = record { size = ap length is; types = λ n below. absurd (omega (arith, below)) }

-- the node of one more dictionary as a type
pub types_next : (count nodes : ℕ) (old new : List (List ℕ)) (links : List ℕ) → IsTypeGraph count nodes old → new ≡ old ++ links ∷ [] → links ≡ (count + nodes) ∷ [] → IsTypeGraph count (nodes + 1) new
types_next count nodes old new links so added is = record { size = one_longer old new links added ∙ ap (λ k. k + 1) so.size; types = λ n below. by_place n below (nat_lt n nodes) refl }
  where
    by_place : (n : ℕ) → n < nodes + 1 → (b : Bool) → nat_lt n nodes ≡ b → successors_of new n ≡ (count + n) ∷ []
    by_place n below true e =
        let lower : n < nodes = grind arith in
        as_before old new links added n (subst (λ k. n < k) (sym so.size) lower) ∙ so.types n lower
    by_place n below false e =
        let last : n ≡ nodes = grind arith in
        at_last old new links added n (last ∙ sym so.size) ∙ is ∙ ap (λ k. (count + k) ∷ []) (sym last)

-- no members yet
pub members_start : (dicts : List Dict) (graph : List (List ℕ)) → IsTypeGraph (length dicts) (length dicts) graph → IsHoldingGraph (map dict_term dicts) 0 graph
members_start dicts graph so = record {
  size = (let l = so.size in let m = length-map dicts dict_term in omega (arith, l, m));
  types = λ n below. subst (λ k. successors_of graph n ≡ (k + n) ∷ []) (sym (length-map dicts dict_term)) (so.types n (subst (λ k. n < k) (length-map dicts dict_term) below));
  members = λ n d below. absurd (omega (arith, below));
  within = λ n d below. absurd (omega (arith, below));
}

module _ (dicts : List DictTerm) (i : ℕ) (d : DictTerm) (old new : List (List ℕ)) (links : List ℕ) (added : new ≡ old ++ links ∷ []) (here : slice_get dicts i ≡ Some d) (so : IsHoldingGraph dicts i old) where
  same_term : (n : ℕ) (e : DictTerm) → n ≡ i → slice_get dicts n ≡ Some e → d ≡ e
  same_term n e last is = some_is (sym here ∙ ap (slice_get dicts) (sym last) ∙ is)
    where
      some_is : Some d ≡ Some e → d ≡ e
      some_is f = (cc)

  -- the node of one more dictionary's members
  members_next : links ≡ member_links (length dicts) d → IsWithin (length dicts) d → IsHoldingGraph dicts (i + 1) new
  members_next linked within = record {
    size = one_longer old new links added ∙ (let l = so.size in let e : length old + 1 ≡ length dicts + (i + 1) = omega (arith, l) in e);
    types = λ n below. as_before old new links added n (let l = so.size in omega (arith, l, below)) ∙ so.types n below;
    members = λ n e below is. by_place n e below is (nat_lt n i) refl;
    within = λ n e below is. within_place n e below is (nat_lt n i) refl;
  }
    where
      by_place : (n : ℕ) (e : DictTerm) → n < i + 1 → slice_get dicts n ≡ Some e → (b : Bool) → nat_lt n i ≡ b → successors_of new (length dicts + n) ≡ member_links (length dicts) e
      by_place n e below is true t =
          let lower : n < i = grind arith in
          let size = so.size in
          as_before old new links added (length dicts + n) (omega (arith, size, lower)) ∙ so.members n e lower is
      by_place n e below is false t =
          let last : n ≡ i = grind arith in
          at_last old new links added (length dicts + n) (ap (λ k. length dicts + k) last ∙ sym so.size) ∙ linked ∙ ap (member_links (length dicts)) (same_term n e last is)

      within_place : (n : ℕ) (e : DictTerm) → n < i + 1 → slice_get dicts n ≡ Some e → (b : Bool) → nat_lt n i ≡ b → IsWithin (length dicts) e
      within_place n e below is true t = so.within n e (grind arith) is
      within_place n e below is false t = subst (IsWithin (length dicts)) (same_term n e (grind arith) is) within

-- the same, as a loop over dictionaries has it
pub members_more : (dicts : List Dict) (i : ℕ) (dict : Dict) (old new : List (List ℕ)) (links : List ℕ) → i < length dicts → dict ≡ get_or dicts i dict → IsHoldingGraph (map dict_term dicts) i old → new ≡ old ++ links ∷ [] → links ≡ member_links (length dicts) (dict_term dict) → IsWithin (length dicts) (dict_term dict) → IsHoldingGraph (map dict_term dicts) (i + 1) new
members_more dicts i dict old new links below is so added linked within =
    members_next (map dict_term dicts) i (dict_term dict) old new links added
    (slice_get-map dict_term dicts i ∙ ap (option_map dict_term) (slice_get_read dicts (length dicts) i dict refl below is))
    so
    (linked ∙ ap (λ k. member_links k (dict_term dict)) (sym (length-map dicts dict_term)))
    (subst (λ k. IsWithin k (dict_term dict)) (sym (length-map dicts dict_term)) within)

-- what a dictionary names, as a loop over dictionaries has it
pub item_within : (dicts : List Dict) (i : ℕ) (dict : Dict) → i < length dicts → dict ≡ get_or dicts i dict → AreWithin (map dict_term dicts) → IsWithin (length dicts) (dict_term dict)
item_within dicts i dict below is all =
    subst (λ k. IsWithin k (dict_term dict)) (length-map dicts dict_term)
    (all i (dict_term dict) (slice_get-map dict_term dicts i ∙ ap (option_map dict_term) (slice_get_read dicts (length dicts) i dict refl below is)))

-- the dictionaries in the types of members, as a loop over them has it
pub members_inside : (members : List Member) → flat_map (λ m. dictionaries_in (type_term m.ty)) members ≡ flat_map (λ m. dictionaries_in m.ty) (map member_term members)
members_inside members = sym (flat_map-map (λ m. dictionaries_in m.ty) member_term members)

-- the same of the member types of a union
pub union_inside : (types : List IdlType) → flat_map (λ t. dictionaries_in (type_term t)) types ≡ dictionaries_in_all (packed (map type_term types))
union_inside [] = refl
union_inside (t ∷ types) = ap (λ l. dictionaries_in (type_term t) ++ l) (union_inside types)

-- after the last dictionary
pub all_members : (dicts : List Dict) (graph : List (List ℕ)) → IsHoldingGraph (map dict_term dicts) (length dicts) graph → IsHoldingGraph (map dict_term dicts) (length (map dict_term dicts)) graph
all_members dicts graph so = subst (λ n. IsHoldingGraph (map dict_term dicts) n graph) (sym (length-map dicts dict_term)) so
