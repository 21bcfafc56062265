-- Flattened members aren't distinguishable where their kinds clash, or where they are related interfaces.
use Rattle.std.proofs.Common.{◌≡◌, ℕ, suc, Bool, true, false, ◌||◌, ◌&&◌, not, List, [], ◌∷◌, map, None, nat_eq, arith, refl, sym, ap, ◌∙◌}
use Rattle.std.proofs.Math.Bool.{or-false}
use Rattle.std.specs.List.{All, filter_map, list_any}
use Rattle.widl_idl.specs.DefinitionTerms.{IfaceTerm}
use Rattle.widl_idl.specs.Terms.{TypeTerm, NullableType, UnionType}
use Rattle.widl_idl.specs.Flattened.{includes_nullable_type}
use Rattle.widl_overload.specs.declared.category.Category.{Category}
use Rattle.widl_overload.specs.declared.category.Category.TheVariants.{Interface}
use Rattle.widl_overload.specs.sets.Distinct.{categories_apart, category, distinguishable, has_dictionary, innermost, is_never, is_same, overlaps, union_members}
use Rattle.widl_overload.specs.sets.Inheritance.{inherits}
use Rattle.widl_overload.proofs.Ruled.{ruled_by}
use Rattle.widl_overload.specs.rules.TypeRules.{HaveIndistinguishablePair}
use Rattle.widl_type_rules.specs.IndistinguishablePairs.{IsFlat, any_pair, are_related, clash, interface_number}
use Rattle.widl_type_rules.proofs.AnyPair.{any_pair_either, any_pair_found, any_pair_here}

flat_nullable : (t : TypeTerm) → IsFlat t → includes_nullable_type t ≡ false
flat_nullable (NullableType t) h = absurd h
flat_nullable (UnionType ts) h = absurd h
flat_nullable t h = refl

flat_union : (t : TypeTerm) → IsFlat t → union_members t ≡ None
flat_union (NullableType t) h = absurd h
flat_union (UnionType ts) h = absurd h
flat_union t h = refl

flat_category : (t : TypeTerm) → IsFlat t → category (innermost t) ≡ category t
flat_category (NullableType t) h = absurd h
flat_category (UnionType ts) h = absurd h
flat_category t h = refl

abbrev related_kinds : List IfaceTerm → Category → Category → Bool
related_kinds ifaces (Interface m) (Interface n) = are_related ifaces m n
related_kinds ifaces c d = false

not_related : (a b c : Bool) → not (not a && (not b && not c)) ≡ (a || (b || c))
not_related true b c = refl
not_related false true c = refl
not_related false false true = refl
not_related false false false = refl

not_both : (a b : Bool) → not (not a && not b) ≡ ((a || b) || false)
not_both true b = refl
not_both false true = refl
not_both false false = refl

indistinguishable_kinds : (ifaces : List IfaceTerm) (c d : Category) → not (categories_apart ifaces c d) ≡ (clash c d || related_kinds ifaces c d)
indistinguishable_kinds ifaces (Interface m) (Interface n) = ap not (or-false (not (nat_eq m n) && (not (inherits ifaces m n) && not (inherits ifaces n m)))) ∙ not_related (nat_eq m n) (inherits ifaces m n) (inherits ifaces n m)
indistinguishable_kinds ifaces (Interface m) d = refl
indistinguishable_kinds ifaces c d = not_both (is_never c || is_never d) (is_same c d || (overlaps c d || overlaps d c))

module _ (ifaces : List IfaceTerm) where
  abbrev indistinguishable : TypeTerm → TypeTerm → Bool
  indistinguishable t u = not (distinguishable ifaces t u)

  abbrev indistinguishable_kind : Category → Category → Bool
  indistinguishable_kind c d = clash c d || related_kinds ifaces c d

  -- of flat types the kinds decide
  kinds_decide : (t u : TypeTerm) → IsFlat t → IsFlat u → indistinguishable t u ≡ indistinguishable_kind (category t) (category u)
  kinds_decide t u f g =
      let apart : distinguishable ifaces t u ≡ categories_apart ifaces (category t) (category u)
      = ruled_by ifaces t u None None (flat_union t f) (flat_union u g)
      ∙ (λ j. not ((flat_nullable t f j && (flat_nullable u g j || has_dictionary u)) || (flat_nullable u g j && has_dictionary t)) && categories_apart ifaces (flat_category t f j) (flat_category u g j)) in
      ap not apart ∙ indistinguishable_kinds ifaces (category t) (category u)

  one_decides : (t : TypeTerm) (types : List TypeTerm) → IsFlat t → All IsFlat types → list_any (indistinguishable t) types ≡ list_any (indistinguishable_kind (category t)) (map category types)
  one_decides t [] f h = refl
  one_decides t (u ∷ types) f h = λ j. kinds_decide t u f (h 0 u (omega arith)) j || one_decides t types f (λ k d l. h (suc k) d (omega arith)) j

  all_decide : (types : List TypeTerm) → All IsFlat types → any_pair indistinguishable types ≡ any_pair indistinguishable_kind (map category types)
  all_decide [] h = refl
  all_decide (t ∷ types) h =
      let rest : All IsFlat types = λ k d l. h (suc k) d (omega arith) in
      λ j. one_decides t types (h 0 t (omega arith)) rest j || all_decide types rest j

  -- an interface among kinds is related to one of the interfaces
  one_related : (m : ℕ) (kinds : List Category) → list_any (related_kinds ifaces (Interface m)) kinds ≡ list_any (are_related ifaces m) (filter_map interface_number kinds)
  one_related m [] = refl
  one_related m (Interface n ∷ kinds) = ap (λ b. are_related ifaces m n || b) (one_related m kinds)
  one_related m (c ∷ kinds) = one_related m kinds

  nothing_related : (p : Category → Bool) (kinds : List Category) → ((d : Category) → p d ≡ false) → list_any p kinds ≡ false
  nothing_related p [] h = refl
  nothing_related p (d ∷ kinds) h = ap (λ b. b || list_any p kinds) (h d) ∙ nothing_related p kinds h

  pairs_related : (kinds : List Category) → any_pair (related_kinds ifaces) kinds ≡ any_pair (are_related ifaces) (filter_map interface_number kinds)
  pairs_related [] = refl
  pairs_related (Interface m ∷ kinds) = λ j. one_related m kinds j || pairs_related kinds j
  pairs_related (c ∷ kinds) = ap (λ b. b || any_pair (related_kinds ifaces) kinds) (nothing_related (λ d. false) kinds (λ d. refl)) ∙ pairs_related kinds

  -- two of flat types are indistinguishable where their kinds clash or their interfaces are related
  abbrev pub indistinguishable_by : List TypeTerm → Bool
  indistinguishable_by types = any_pair clash (map category types) || any_pair (are_related ifaces) (filter_map interface_number (map category types))

  decided : (types : List TypeTerm) → All IsFlat types → any_pair indistinguishable types ≡ indistinguishable_by types
  decided types h = all_decide types h ∙ any_pair_either clash (related_kinds ifaces) (map category types) ∙ ap (λ b. any_pair clash (map category types) || b) (pairs_related (map category types))

  distinguished : (b : Bool) → not b ≡ true → b ≡ false
  distinguished true e = sym e
  distinguished false e = refl

  pub have_pair : (types : List TypeTerm) → All IsFlat types → indistinguishable_by types ≡ true → HaveIndistinguishablePair ifaces types
  have_pair types h e =
      let p = any_pair_found indistinguishable types (decided types h ∙ e) in
      record { first = p.first; second = p.second; follows = p.follows; one = p.one; other = p.other; one_is = p.one_is; other_is = p.other_is; indistinguishable = distinguished (distinguishable ifaces p.one p.other) p.passes }

  pub have_none : (types : List TypeTerm) → All IsFlat types → indistinguishable_by types ≡ false → HaveIndistinguishablePair ifaces types → ⊥
  have_none types h e p =
      let yes : any_pair indistinguishable types ≡ true = any_pair_here indistinguishable types p.first p.second p.one p.other p.follows p.one_is p.other_is (ap not p.indistinguishable) in
      let f : true ≡ false = sym yes ∙ decided types h ∙ e in (cc)

  -- the kinds alone tell whether there are two that aren't distinguishable
  pub same_pair : (xs ys : List TypeTerm) → All IsFlat xs → All IsFlat ys → map category xs ≡ map category ys → HaveIndistinguishablePair ifaces xs → HaveIndistinguishablePair ifaces ys
  same_pair xs ys f g same p = go (indistinguishable_by ys) refl
    where
      by_kinds : indistinguishable_by xs ≡ indistinguishable_by ys
      by_kinds = ap (λ kinds. any_pair clash kinds || any_pair (are_related ifaces) (filter_map interface_number kinds)) same

      go : (b : Bool) → indistinguishable_by ys ≡ b → HaveIndistinguishablePair ifaces ys
      go true e = have_pair ys g e
      go false e = absurd (have_none xs f (by_kinds ∙ e) p)
