-- Laws of distinguishability, and its closed form for a type that is no union: one test of all pairs of innermost types.
use Rattle.std.proofs.Common.{◌≡◌, ℕ, ◌+◌, Bool, true, false, ◌||◌, ◌&&◌, cond, not, nat_eq, nat_lt, List, [], ◌∷◌, arith, refl, sym, ap, ◌∙◌, inl, inr}
use Rattle.std.specs.Prelude.{Option, None, Some, ◌⊎◌, is_some, unwrap_or}
use Rattle.std.specs.List.{list_all, list_any}
use Rattle.std.proofs.lemmas.List.Folds.{list_any-append, list_all-append}
use Rattle.widl_idl.specs.DefinitionTerms.{IfaceTerm}
use Rattle.widl_idl.specs.Terms.{TypeTerm, TypeTerms, NullableType, UnionType, no_types, more_types}
use Rattle.widl_idl.specs.Flattened.{flattened_member, flattened_members, includes_nullable_type, inner_nullable_members, nullable_members, nullable_one, unannotated}
use Rattle.widl_overload.specs.declared.category.Category.{Category}
use Rattle.widl_overload.specs.sets.Pairs.{each_apart, flattened_apart, is_apart, second_members}
use Rattle.widl_overload.specs.sets.Distinct.{HaveMembers, any_nullable_clash, are_apart, categories_apart, category, distinguishable, has_dictionary, has_nullable, innermost, is_dictionary, listed, nullable_clash, single_apart, single_from_each, union_members}
use Rattle.widl_overload.proofs.Ruled.{all_same, no_members, ruled_by}

and_true : (b : Bool) → (b && true) ≡ b
and_true true = refl
and_true false = refl

and_false : (b : Bool) → (b && false) ≡ false
and_false true = refl
and_false false = refl

one_more : (n : ℕ) → nat_lt 0 (1 + n) ≡ true
one_more n = grind arith

none_more : (n : ℕ) → nat_lt 0 (0 + n) ≡ nat_lt 0 n
none_more n = let same : 0 + n ≡ n = omega arith in ap (nat_lt 0) same

-- a type has a nullable member or is nullable, as its marks are counted
marked : (t : TypeTerm) → nat_lt 0 (nullable_one t + inner_nullable_members t) ≡ has_nullable t
marked (NullableType t) = one_more (inner_nullable_members t)
marked (UnionType ts) = none_more (nullable_members ts)
marked t = refl

either_marked : (m n : ℕ) → nat_lt 0 (m + n) ≡ (nat_lt 0 m || nat_lt 0 n)
either_marked m n = grind arith

abbrev has_dictionary_inside : TypeTerm → Bool
has_dictionary_inside t = list_any is_dictionary (flattened_member t)

dictionary_or_nullable : (t : TypeTerm) → (has_nullable t || has_dictionary t) ≡ (has_nullable t || has_dictionary_inside t)
dictionary_or_nullable (NullableType t) = refl
dictionary_or_nullable (UnionType ts) = refl
dictionary_or_nullable t = refl

-- the first rule for a type that is nullable or a dictionary or neither, and what has marks and dictionaries or hasn't
abbrev clash_of : Bool → Bool → Bool → Bool → Bool
clash_of nullable dictionary marks dictionaries = (nullable && (marks || dictionaries)) || (marks && dictionary)

no_clash : (n d : Bool) → true ≡ (not (clash_of n d false false) && true)
no_clash true d = refl
no_clash false d = refl

both_clash : (n d h f m g a b : Bool) → ((not (clash_of n d h f) && a) && (not (clash_of n d m g) && b)) ≡ (not (clash_of n d (h || m) (f || g)) && (a && b))
both_clash n d h f m g a b = grind arith

under_mark : (n d x y z w s l : Bool) → (not ((n && x) || (y && d)) && s) ≡ (not ((n && z) || (w && d)) && l) → (not ((n && true) || (true && d)) && s) ≡ (not ((n && true) || (true && d)) && l)
under_mark true d x y z w s l h = refl
under_mark false true x y z w s l h = refl
under_mark false false x true z true s l h = h
under_mark false false x true z false s l h = h
under_mark false false x false z true s l h = h
under_mark false false x false z false s l h = h

weaker_clash : (n d one m f l : Bool) → (one ≡ true → m ≡ true) → (not ((n && (one || f)) || (one && d)) && (not (clash_of n d m f) && l)) ≡ (not (clash_of n d m f) && l)
weaker_clash n d false false f l h = grind arith
weaker_clash n d false true f l h = grind arith
weaker_clash n d true true f l h = grind arith
weaker_clash n d true false f l h = absurd (let bad : false ≡ true = h refl in cc)

one_is_some : (n : ℕ) → nat_eq n 1 ≡ true → nat_lt 0 n ≡ true
one_is_some n e = grind arith

same_nullable : (t : TypeTerm) → union_members t ≡ None → includes_nullable_type t ≡ has_nullable t
same_nullable (NullableType t) none = refl
same_nullable (UnionType ts) none = cc
same_nullable t none = refl

marks_are : (u : TypeTerm) (us : TypeTerms) → (has_nullable u || nat_lt 0 (nullable_members us)) ≡ nat_lt 0 (nullable_members (more_types u us))
marks_are u us = ap (λ b. b || nat_lt 0 (nullable_members us)) (sym (marked u)) ∙ sym (either_marked (nullable_one u + inner_nullable_members u) (nullable_members us))

-- a type that is no union is flattened to its innermost type
flattened_single : (t : TypeTerm) → union_members t ≡ None → flattened_member t ≡ innermost t ∷ []
flattened_single (NullableType t) none = flattened_single t none
flattened_single (UnionType ts) none = cc
flattened_single t none = refl

all_both : {X : Type 0} (p q : X → Bool) (xs : List X) → list_all (λ x. p x && q x) xs ≡ (list_all p xs && list_all q xs)
all_both p q [] = refl
all_both p q (x ∷ xs) = ap (λ b. (p x && q x) && b) (all_both p q xs) ∙ regroup (p x) (q x) (list_all p xs) (list_all q xs)
  where
    regroup : (a b c d : Bool) → ((a && b) && (c && d)) ≡ ((a && c) && (b && d))
    regroup a b c d = grind arith

all_true : {X : Type 0} (xs : List X) → true ≡ list_all (λ x. true) xs
all_true [] = refl
all_true (x ∷ xs) = all_true xs

module _ (ifaces : List IfaceTerm) where
  pub all_apart : List TypeTerm → List TypeTerm → Bool
  all_apart ts us = list_all (λ m. list_all (λ n. are_apart ifaces m n) us) ts

  -- 1. A type that is no union

  module _ (t : TypeTerm) (none : union_members t ≡ None) where
    abbrev from_each : List TypeTerm → Bool
    from_each us = list_all (are_apart ifaces (innermost t)) us

    nullable : includes_nullable_type t ≡ has_nullable t
    nullable = same_nullable t none

    mutual
      single_is : (u : TypeTerm) → (not (nullable_clash t u) && single_apart ifaces t u) ≡ (not (any_nullable_clash t u) && from_each (flattened_member u))
      single_is (NullableType u) =
          (λ i. not ((nullable i && true) || (true && has_dictionary t)) && single_apart ifaces t u)
          ∙ under_mark (has_nullable t) (has_dictionary t) (includes_nullable_type u || has_dictionary u) (includes_nullable_type u) (has_nullable u || has_dictionary u) (has_nullable u) (single_apart ifaces t u) (from_each (flattened_member u))
          ((λ i. not ((sym nullable i && (includes_nullable_type u || has_dictionary u)) || (includes_nullable_type u && has_dictionary t)) && single_apart ifaces t u) ∙ single_is u)
      single_is (UnionType us) =
          (λ i. not ((nullable i && (nat_eq (nullable_members us) 1 || list_any is_dictionary (flattened_members us))) || (nat_eq (nullable_members us) 1 && has_dictionary t)) && each_is us i)
          ∙ weaker_clash (has_nullable t) (has_dictionary t) (nat_eq (nullable_members us) 1) (nat_lt 0 (nullable_members us)) (list_any is_dictionary (flattened_members us)) (from_each (flattened_members us)) (one_is_some (nullable_members us))
      single_is u = λ i. not ((nullable i && (includes_nullable_type u || has_dictionary u)) || (includes_nullable_type u && has_dictionary t)) && sym (and_true (are_apart ifaces (innermost t) (unannotated u))) i

      each_is : (us : TypeTerms) → single_from_each ifaces t us ≡ (not (clash_of (has_nullable t) (has_dictionary t) (nat_lt 0 (nullable_members us)) (list_any is_dictionary (flattened_members us))) && from_each (flattened_members us))
      each_is no_types = no_clash (has_nullable t) (has_dictionary t)
      each_is (more_types u us) =
          (λ i. single_is u i && each_is us i)
          ∙ ap (λ b. (not ((has_nullable t && b) || (has_nullable u && has_dictionary t)) && from_each (flattened_member u)) && (not (clash_of (has_nullable t) (has_dictionary t) (nat_lt 0 (nullable_members us)) (list_any is_dictionary (flattened_members us))) && from_each (flattened_members us))) (dictionary_or_nullable u)
          ∙ both_clash (has_nullable t) (has_dictionary t) (has_nullable u) (has_dictionary_inside u) (nat_lt 0 (nullable_members us)) (list_any is_dictionary (flattened_members us)) (from_each (flattened_member u)) (from_each (flattened_members us))
          ∙ (λ i. not (clash_of (has_nullable t) (has_dictionary t) (marks_are u us i) (sym (list_any-append is_dictionary (flattened_member u) (flattened_members us)) i)) && sym (list_all-append (are_apart ifaces (innermost t)) (flattened_member u) (flattened_members us)) i)

  -- the closed form
  pub closed : (t u : TypeTerm) → union_members t ≡ None → distinguishable ifaces t u ≡ (not (any_nullable_clash t u) && all_apart (flattened_member t) (flattened_member u))
  unfolding all_apart
  closed t u none =
      ap (λ b. not (nullable_clash t u) && b) (no_members ifaces t t u none)
      ∙ single_is t none u
      ∙ (λ i. not (any_nullable_clash t u) && sym (and_true (list_all (are_apart ifaces (innermost t)) (flattened_member u))) i)
      ∙ (λ i. not (any_nullable_clash t u) && list_all (λ m. list_all (are_apart ifaces m) (flattened_member u)) (sym (flattened_single t none) i))

  -- 2. Symmetry

  categories_sym : (c d : Category) → categories_apart ifaces c d ≡ categories_apart ifaces d c
  categories_sym c d = grind arith

  clash_tests : (m n c d : Bool) → ((m && (n || d)) || (n && c)) ≡ ((n && (m || c)) || (m && d))
  clash_tests m n c d = grind arith

  clash_sym : (t u : TypeTerm) → nullable_clash t u ≡ nullable_clash u t
  clash_sym t u = clash_tests (includes_nullable_type t) (includes_nullable_type u) (has_dictionary t) (has_dictionary u)

  abbrev test : TypeTerm → TypeTerm → Bool
  test t u = distinguishable ifaces t u

  abbrev members_of : TypeTerm → List TypeTerm
  members_of t = unwrap_or (union_members t) []

  -- a type that is no union, and any other
  module _ (t : TypeTerm) (none : union_members t ≡ None) where
    abbrev EachSame : List TypeTerm → Type 0
    EachSame [] = Unit {0}
    EachSame (u ∷ us) = (test t u ≡ test u t) × EachSame us

    same_each : (us : List TypeTerm) → EachSame us → list_all (test t) us ≡ list_all (λ n. test n t) us
    same_each [] h = refl
    same_each (u ∷ us) h = λ i. h.0 i && same_each us h.1 i

    single_by : (u : TypeTerm) (o : Option (List TypeTerm)) → union_members u ≡ o → EachSame (unwrap_or o []) → test t u ≡ test u t
    single_by u None e h =
        ruled_by ifaces t u None None none e
        ∙ (λ i. not (clash_sym t u i) && categories_sym (category (innermost t)) (category (innermost u)) i)
        ∙ sym (ruled_by ifaces u t None None e none)
    single_by u (Some us) e h =
        ruled_by ifaces t u None (Some us) none e
        ∙ (λ i. not (clash_sym t u i) && same_each us h i)
        ∙ sym (ruled_by ifaces u t (Some us) None e none)

    mutual
      same_members : (u : TypeTerm) → EachSame (members_of u)
      same_members (NullableType u) = same_members u
      same_members (UnionType us) = same_listed us
      same_members u = tt

      same_listed : (us : TypeTerms) → EachSame (listed us)
      same_listed no_types = tt
      same_listed (more_types u us) = (single_by u (union_members u) refl (same_members u), same_listed us)

    single_symmetric : (u : TypeTerm) → test t u ≡ test u t
    single_symmetric u = single_by u (union_members u) refl (same_members u)

  abbrev AllSame : List TypeTerm → Type 0
  AllSame [] = Unit {0}
  AllSame (t ∷ ts) = ((u : TypeTerm) → test t u ≡ test u t) × AllSame ts

  swapped : (ts us : List TypeTerm) → AllSame ts → list_all (λ m. list_all (test m) us) ts ≡ list_all (λ n. list_all (test n) ts) us
  swapped [] us h = all_true us
  swapped (t ∷ ts) us h =
      (λ i. all_same (test t) (λ n. test n t) h.0 us i && swapped ts us h.1 i)
      ∙ sym (all_both (λ n. test n t) (λ n. list_all (test n) ts) us)

  symmetric_by : (t u : TypeTerm) (o p : Option (List TypeTerm)) → union_members t ≡ o → union_members u ≡ p → AllSame (unwrap_or o []) → test t u ≡ test u t
  symmetric_by t u None p e f h = single_symmetric t e u
  symmetric_by t u (Some ts) None e f h = sym (single_symmetric u f t)
  symmetric_by t u (Some ts) (Some us) e f h =
      ruled_by ifaces t u (Some ts) (Some us) e f
      ∙ (λ i. not (clash_sym t u i) && swapped ts us h i)
      ∙ sym (ruled_by ifaces u t (Some us) (Some ts) f e)

  mutual
    symmetric_members : (t : TypeTerm) → AllSame (members_of t)
    symmetric_members (NullableType t) = symmetric_members t
    symmetric_members (UnionType ts) = symmetric_listed ts
    symmetric_members t = tt

    symmetric_listed : (ts : TypeTerms) → AllSame (listed ts)
    symmetric_listed no_types = tt
    symmetric_listed (more_types t ts) = ((λ u. symmetric_by t u (union_members t) (union_members u) refl refl (symmetric_members t)), symmetric_listed ts)

  pub symmetric : (t u : TypeTerm) → distinguishable ifaces t u ≡ distinguishable ifaces u t
  symmetric t u = symmetric_by t u (union_members t) (union_members u) refl refl (symmetric_members t)

  with_head : (t : TypeTerm) (ts us : List TypeTerm) → all_apart us (t ∷ ts) ≡ (list_all (λ n. are_apart ifaces t n) us && all_apart us ts)
  unfolding all_apart
  with_head t ts us =
      all_both (λ u. are_apart ifaces u t) (λ u. list_all (are_apart ifaces u) ts) us
      ∙ ap (λ b. b && all_apart us ts) (all_same (λ u. are_apart ifaces u t) (are_apart ifaces t) (λ u. categories_sym (category u) (category t)) us)

  all_sym : (ts us : List TypeTerm) → all_apart ts us ≡ all_apart us ts
  unfolding all_apart
  all_sym [] us = all_true us
  all_sym (t ∷ ts) us = ap (λ b. list_all (λ n. are_apart ifaces t n) us && b) (all_sym ts us) ∙ sym (with_head t ts us)

  -- the closed form where the other type is no union
  pub closed_other : (t u : TypeTerm) → union_members u ≡ None → distinguishable ifaces t u ≡ (not (any_nullable_clash t u) && all_apart (flattened_member t) (flattened_member u))
  closed_other t u none =
      symmetric t u ∙ closed u t none
      ∙ (λ i. not (clash_tests (has_nullable u) (has_nullable t) (has_dictionary u) (has_dictionary t) i) && all_sym (flattened_member u) (flattened_member t) i)

  -- 3. A type and itself

  not_apart : (c : Category) → categories_apart ifaces c c ≡ false
  not_apart c = grind arith

  -- it is no union, or a union with a member that isn't distinguishable from itself
  abbrev FailsFirst : TypeTerm → Type 0
  FailsFirst t = (union_members t ≡ None) ⊎ ((m : TypeTerm) × (ms : List TypeTerm) × (union_members t ≡ Some (m ∷ ms)) × (test m m ≡ false))

  fails_by : (t : TypeTerm) → FailsFirst t → test t t ≡ false
  fails_by t (inl none) = ruled_by ifaces t t None None none none ∙ ap (λ b. not (nullable_clash t t) && b) (not_apart (category (innermost t))) ∙ and_false (not (nullable_clash t t))
  fails_by t (inr first) =
      let ts = first.0 ∷ first.1 in
      ruled_by ifaces t t (Some ts) (Some ts) first.2 first.2
      ∙ ap (λ b. not (nullable_clash t t) && ((b && list_all (test first.0) first.1) && list_all (λ m. list_all (test m) ts) first.1)) first.3
      ∙ and_false (not (nullable_clash t t))

  mutual
    fails_first : (t : TypeTerm) → HaveMembers t → FailsFirst t
    fails_first (NullableType t) h = fails_first t h
    fails_first (UnionType ts) h = fails_listed ts h
    fails_first t h = inl refl

    fails_listed : (ts : TypeTerms) → HaveMembers (UnionType ts) → FailsFirst (UnionType ts)
    fails_listed no_types h = absurd h
    fails_listed (more_types t ts) h = inr (t, listed ts, refl, fails_by t (fails_first t h.0))

  pub never_from_itself : (t : TypeTerm) → HaveMembers t → distinguishable ifaces t t ≡ false
  never_from_itself t h = fails_by t (fails_first t h)

  -- 4. What the code tells of two types one of which is no union

  single_told : (t u : TypeTerm) (o : Option (List TypeTerm)) → union_members t ≡ o → cond (is_some o) (union_members u) None ≡ None → flattened_apart ifaces t u ≡ distinguishable ifaces t u
  unfolding all_apart each_apart flattened_apart is_apart
  single_told t u None e none = sym (closed t u e)
  single_told t u (Some ts) e none = sym (closed_other t u none)

  pub other_told : (t u : TypeTerm) → second_members t u ≡ None → flattened_apart ifaces t u ≡ distinguishable ifaces t u
  other_told t u none = single_told t u (union_members t) refl none
