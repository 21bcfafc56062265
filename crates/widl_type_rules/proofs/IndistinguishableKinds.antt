-- The kinds that were seen tell whether one more meets them.
use Rattle.std.proofs.Common.{◌≡◌, ℕ, ◌+◌, ◌<◌, ◌++◌, Bool, true, false, ◌||◌, List, [], ◌∷◌, length, take, drop, map, get_or, refl, sym, ap, subst, ◌∙◌, rules}
use Rattle.std.proofs.lemmas.List.{map-append, take-append-drop}
use Rattle.std.proofs.lemmas.List.Folds.{list_any-append}
use Rattle.std.proofs.lemmas.List.Elements.{filter_map-append}
use Rattle.std.proofs.Math.Bool.{or-false}
use Rattle.std.specs.List.{filter_map, list_any}
use Rattle.widl_idl.specs.declared.types.IdlType.{IdlType}
use Rattle.widl_idl.specs.Terms.{type_term}
use Rattle.widl_idl.proofs.Members.{terms_more}
use Rattle.widl_overload.specs.declared.category.Category.{Category}
use Rattle.widl_overload.specs.declared.category.Category.TheVariants.{Interface}
use Rattle.widl_overload.specs.sets.Distinct.{category}
use Rattle.widl_type_rules.specs.IndistinguishableKinds.{is_met, with_kind}
use Rattle.widl_type_rules.specs.IndistinguishablePairs.{any_pair, clash, interface_number, listed}
use Rattle.widl_type_rules.specs.declared.kinds_seen.KindsSeen.{KindsSeen}
use Rattle.widl_type_rules.proofs.AnyPair.{any_pair_none, any_pair_push, any_pair_start, or_true}

-- a kind meets those that were seen where it clashes with one of these
abbrev pub Tells : KindsSeen → List Category → Type 0
Tells seen kinds = (c : Category) → is_met seen c ≡ list_any (λ d. clash d c) kinds

-- a kind that was seen beside the others is met by those that it clashes with
one_more : (s : KindsSeen) (d c : Category) → is_met (with_kind s d) c ≡ (is_met s c || clash d c)
one_more s (Interface m) (Interface n) = sym (or-false (is_met s (Interface n)))
one_more s d c = grind rules

pub tells_more : (s : KindsSeen) (kinds : List Category) (d : Category) → Tells s kinds → Tells (with_kind s d) (kinds ++ d ∷ [])
tells_more s kinds d h c =
    one_more s d c ∙ ap (λ b. b || clash d c) (h c) ∙ sym (list_any-append (λ e. clash e c) kinds (d ∷ []) ∙ ap (λ b. list_any (λ e. clash e c) kinds || b) (or-false (clash d c)))

-- the kinds of types
abbrev pub kinds_of : List IdlType → List Category
kinds_of types = map category (map type_term types)

pub kinds_more : (types : List IdlType) (i : ℕ) (t : IdlType) → i < length types → t ≡ get_or types i t → kinds_of (take (i + 1) types) ≡ kinds_of (take i types) ++ category (type_term t) ∷ []
kinds_more types i t below is = ap (map category) (terms_more types i t below is) ∙ map-append category (map type_term (take i types)) (type_term t ∷ [])

kinds_start : (types : List IdlType) (i : ℕ) → kinds_of (take i types) ++ kinds_of (drop i types) ≡ kinds_of types
kinds_start types i =
    sym (map-append category (map type_term (take i types)) (map type_term (drop i types)))
    ∙ ap (map category) (sym (map-append type_term (take i types) (drop i types)) ∙ ap (map type_term) (take-append-drop i types))

module _ (types : List IdlType) (i : ℕ) (t : IdlType) (seen : KindsSeen) (kind : Category) (met : Bool) (below : i < length types) (is : t ≡ get_or types i t) (kind_is : kind ≡ category (type_term t)) (met_is : met ≡ is_met seen kind)
    (tells : Tells seen (kinds_of (take i types))) where
  meeting : list_any (λ d. clash d (category (type_term t))) (kinds_of (take i types)) ≡ met
  meeting = ap (λ k. list_any (λ d. clash d k) (kinds_of (take i types))) (sym kind_is) ∙ sym (tells kind) ∙ sym met_is

  -- a member that meets an earlier one
  pub found_clash : met ≡ true → true ≡ any_pair clash (kinds_of types)
  found_clash met_one =
      let first : any_pair clash (kinds_of (take (i + 1) types)) ≡ true
      = ap (any_pair clash) (kinds_more types i t below is) ∙ any_pair_push clash (kinds_of (take i types)) (category (type_term t)) ∙ ap (λ b. any_pair clash (kinds_of (take i types)) || b) (meeting ∙ met_one) ∙ or_true (any_pair clash (kinds_of (take i types))) in
      sym (ap (any_pair clash) (sym (kinds_start types (i + 1))) ∙ any_pair_start clash (kinds_of (take (i + 1) types)) (kinds_of (drop (i + 1) types)) first)

  -- a member that meets none
  pub no_clash : any_pair clash (kinds_of (take i types)) ≡ false → met ≡ false → any_pair clash (kinds_of (take (i + 1) types)) ≡ false
  no_clash none met_none = ap (any_pair clash) (kinds_more types i t below is) ∙ any_pair_none clash (kinds_of (take i types)) (category (type_term t)) none (meeting ∙ met_none)

  pub seen_more : (now : KindsSeen) → now ≡ with_kind seen kind → Tells now (kinds_of (take (i + 1) types))
  seen_more now e = subst (λ s. Tells s (kinds_of (take (i + 1) types))) (sym (e ∙ ap (with_kind seen) kind_is))
      (subst (Tells (with_kind seen (category (type_term t)))) (sym (kinds_more types i t below is)) (tells_more seen (kinds_of (take i types)) (category (type_term t)) tells))

listed_filter : (k : Category) → listed (interface_number k) ≡ filter_map interface_number (k ∷ [])
listed_filter (Interface n) = refl
listed_filter k = refl

-- the numbers of the interfaces among the first types and one more
pub numbers_more : (types : List IdlType) (i : ℕ) (t : IdlType) (kind : Category) (numbers now : List ℕ) → i < length types → t ≡ get_or types i t → kind ≡ category (type_term t) → now ≡ numbers ++ listed (interface_number kind)
    → numbers ≡ filter_map interface_number (kinds_of (take i types)) → now ≡ filter_map interface_number (kinds_of (take (i + 1) types))
numbers_more types i t kind numbers now below is kind_is now_is so =
    now_is ∙ ap (λ ns. ns ++ listed (interface_number kind)) so ∙ ap (λ k. filter_map interface_number (kinds_of (take i types)) ++ listed (interface_number k)) kind_is
    ∙ ap (λ ns. filter_map interface_number (kinds_of (take i types)) ++ ns) (listed_filter (category (type_term t)))
    ∙ sym (ap (filter_map interface_number) (kinds_more types i t below is) ∙ filter_map-append interface_number (kinds_of (take i types)) (category (type_term t) ∷ []))
