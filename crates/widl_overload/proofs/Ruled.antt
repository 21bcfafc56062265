-- Which types are distinguishable, by the standard's rules in order.
use Rattle.std.proofs.Common.{◌≡◌, Bool, true, false, ◌&&◌, cond, not, List, [], ◌∷◌, refl, sym, ap, ◌∙◌}
use Rattle.std.specs.Prelude.{Option, None, Some, is_some, unwrap_or}
use Rattle.std.specs.List.{list_all}
use Rattle.widl_idl.specs.DefinitionTerms.{IfaceTerm}
use Rattle.widl_idl.specs.Terms.{TypeTerm, TypeTerms, packed, NullableType, UnionType, no_types, more_types}
use Rattle.widl_idl.specs.Flattened.{unannotated}
use Rattle.widl_overload.specs.declared.category.Category.{Category}
use Rattle.widl_overload.specs.sets.Pairs.{apart_from, members_in, second_members}
use Rattle.widl_overload.specs.sets.Distinct.{are_apart, by_members, categories_apart, category, by_rules, distinguishable, each_from_members, innermost, listed, members_apart, members_or_itself, nullable_clash, single_apart, single_from_each, union_members}

and_true : (b : Bool) → (b && true) ≡ b
and_true true = refl
and_true false = refl

-- two tests that agree at each item
pub all_same : {X : Type 0} (f g : X → Bool) → ((x : X) → f x ≡ g x) → (xs : List X) → list_all f xs ≡ list_all g xs
all_same f g same [] = refl
all_same f g same (x ∷ xs) = ap (λ b. b && list_all f xs) (same x) ∙ ap (λ b. g x && b) (all_same f g same xs)

members_are : (t : TypeTerm) → members_in t ≡ unwrap_or (union_members t) []
members_are (NullableType t) = members_are t
members_are (UnionType ts) = refl
members_are t = refl

abbrev second_by : Option (List TypeTerm) → Option (List TypeTerm) → Option (List TypeTerm)
second_by o p = cond (is_some o) p None

module _ (ifaces : List IfaceTerm) where
  -- a type that is no union
  pub no_members : (p t u : TypeTerm) → union_members p ≡ None → members_apart ifaces p t u ≡ single_apart ifaces t u
  no_members (NullableType p) t u none = no_members p t u none
  no_members (UnionType ts) t u none = cc
  no_members p t u none = refl

  each_listed : (ts : TypeTerms) (u : TypeTerm) → each_from_members ifaces ts u ≡ list_all (λ m. list_all (distinguishable ifaces m) (members_or_itself u)) (listed ts)
  each_listed no_types u = refl
  each_listed (more_types t ts) u = ap (λ b. list_all (distinguishable ifaces t) (members_or_itself u) && b) (each_listed ts u)

  some_members : (ms ts : List TypeTerm) → Some ms ≡ Some ts → ms ≡ ts
  some_members ms ts e = cc

  -- a union
  with_members : (p t u : TypeTerm) (ts : List TypeTerm) → union_members p ≡ Some ts → members_apart ifaces p t u ≡ list_all (λ m. list_all (distinguishable ifaces m) (members_or_itself u)) ts
  with_members (NullableType p) t u ts some = with_members p t u ts some
  with_members (UnionType ms) t u ts some = each_listed ms u ∙ ap (list_all (λ m. list_all (distinguishable ifaces m) (members_or_itself u))) (some_members (listed ms) ts some)
  with_members p t u ts some = cc

  -- rule 1 is asked of a type that is no union and this one, and then the others
  abbrev single_test : TypeTerm → TypeTerm → Bool
  single_test t n = not (nullable_clash t n) && single_apart ifaces t n

  single_listed : (t : TypeTerm) (us : TypeTerms) → single_from_each ifaces t us ≡ list_all (single_test t) (listed us)
  single_listed t no_types = refl
  single_listed t (more_types u us) = ap (λ b. single_test t u && b) (single_listed t us)

  single_innermost : (t u : TypeTerm) → union_members u ≡ None → single_apart ifaces t u ≡ are_apart ifaces (innermost t) (innermost u)
  single_innermost t (NullableType u) none = single_innermost t u none
  single_innermost t (UnionType us) none = cc
  single_innermost t u none = refl

  single_members : (t u : TypeTerm) (us : List TypeTerm) → union_members u ≡ Some us → single_apart ifaces t u ≡ list_all (single_test t) us
  single_members t (NullableType u) us some = single_members t u us some
  single_members t (UnionType ms) us some = single_listed t ms ∙ ap (list_all (single_test t)) (some_members (listed ms) us some)
  single_members t u us some = cc

  -- rules 2 to 4, by whether the types are unions
  rules_are : (t u : TypeTerm) (o p : Option (List TypeTerm)) → union_members t ≡ o → union_members u ≡ p → members_apart ifaces t t u ≡ by_members ifaces (distinguishable ifaces) o p t u
  rules_are t u (Some ts) (Some us) e f = with_members t t u ts e ∙ ap (λ us. list_all (λ m. list_all (distinguishable ifaces m) us) ts) (ap (λ o. unwrap_or o (u ∷ [])) f)
  rules_are t u (Some ts) None e f =
      with_members t t u ts e
      ∙ ap (λ us. list_all (λ m. list_all (distinguishable ifaces m) us) ts) (ap (λ o. unwrap_or o (u ∷ [])) f)
      ∙ all_same (λ m. distinguishable ifaces m u && true) (λ m. distinguishable ifaces m u) (λ m. and_true (distinguishable ifaces m u)) ts
  rules_are t u None (Some us) e f =
      no_members t t u e ∙ single_members t u us f
      ∙ all_same (single_test t) (distinguishable ifaces t) (λ n. ap (λ b. not (nullable_clash t n) && b) (sym (no_members t t n e))) us
  rules_are t u None None e f = no_members t t u e ∙ single_innermost t u f

  -- the four rules in order
  pub ruled : (t u : TypeTerm) → distinguishable ifaces t u ≡ by_rules ifaces (distinguishable ifaces) t u
  ruled t u = ap (λ b. not (nullable_clash t u) && b) (rules_are t u (union_members t) (union_members u) refl refl)

  -- the same where it is known whether they are unions
  pub ruled_by : (t u : TypeTerm) (o p : Option (List TypeTerm)) → union_members t ≡ o → union_members u ≡ p → distinguishable ifaces t u ≡ (not (nullable_clash t u) && by_members ifaces (distinguishable ifaces) o p t u)
  ruled_by t u o p e f = ap (λ b. not (nullable_clash t u) && b) (rules_are t u o p e f)

  -- what is told of two unions
  unions_by : (t u : TypeTerm) (us : List TypeTerm) (o : Option (List TypeTerm)) → union_members t ≡ o → second_by o (union_members u) ≡ Some us
      → (not (nullable_clash t u) && list_all (λ m. list_all (distinguishable ifaces m) us) (unwrap_or o [])) ≡ distinguishable ifaces t u
  unions_by t u us None e f = cc
  unions_by t u us (Some ts) e f = sym (ruled_by t u (Some ts) (Some us) e f)

  unions_told : (t u : TypeTerm) (us : List TypeTerm) (clash apart : Bool) → second_members t u ≡ Some us → clash ≡ nullable_clash t u → apart ≡ list_all (apart_from ifaces us) (members_in t)
      → (not clash && apart) ≡ distinguishable ifaces t u
  unfolding apart_from
  unions_told t u us clash apart some is told = (λ i. not (is i) && (told ∙ ap (list_all (apart_from ifaces us)) (members_are t)) i) ∙ unions_by t u us (union_members t) refl some

  -- the first rule leaves it to the others
  pub left_told : (t u : TypeTerm) (us : List TypeTerm) (clash apart : Bool) → second_members t u ≡ Some us → clash ≡ nullable_clash t u → clash ≡ false → apart ≡ list_all (apart_from ifaces us) (members_in t)
      → apart ≡ distinguishable ifaces t u
  unfolding apart_from
  left_told t u us clash apart some is none told = ap (λ b. not b && apart) (sym none) ∙ unions_told t u us clash apart some is told

  -- it says that they aren't
  pub clash_told : (t u : TypeTerm) (us : List TypeTerm) (clash : Bool) → second_members t u ≡ Some us → clash ≡ nullable_clash t u → clash ≡ true → false ≡ distinguishable ifaces t u
  unfolding apart_from
  clash_told t u us clash some is one =
      let apart = list_all (apart_from ifaces us) (members_in t) in
      ap (λ b. not b && apart) (sym one) ∙ unions_told t u us clash apart some is refl

-- the members of a list of types
pub listed_packed : (ts : List TypeTerm) → listed (packed ts) ≡ ts
listed_packed [] = refl
listed_packed (t ∷ ts) = ap (λ us. t ∷ us) (listed_packed ts)

-- two lists of interfaces of which the same categories are apart
module _ (xs ys : List IfaceTerm) (same : (c d : Category) → categories_apart xs c d ≡ categories_apart ys c d) where
  mutual
    single_same : (t u : TypeTerm) → single_apart xs t u ≡ single_apart ys t u
    single_same t (NullableType u) = single_same t u
    single_same t (UnionType us) = singles_same t us
    single_same t u = same (category (innermost t)) (category (unannotated u))

    singles_same : (t : TypeTerm) (us : TypeTerms) → single_from_each xs t us ≡ single_from_each ys t us
    singles_same t no_types = refl
    singles_same t (more_types u us) = λ i. (not (nullable_clash t u) && single_same t u i) && singles_same t us i

  mutual
    members_same : (p t u : TypeTerm) → members_apart xs p t u ≡ members_apart ys p t u
    members_same (NullableType p) t u = members_same p t u
    members_same (UnionType ts) t u = each_same ts u
    members_same p t u = single_same t u

    each_same : (ts : TypeTerms) (u : TypeTerm) → each_from_members xs ts u ≡ each_from_members ys ts u
    each_same no_types u = refl
    each_same (more_types t ts) u = λ i. list_all (λ n. not (nullable_clash t n) && members_same t t n i) (members_or_itself u) && each_same ts u i

  -- the same types are distinguishable
  pub distinguishable_same : (t u : TypeTerm) → distinguishable xs t u ≡ distinguishable ys t u
  distinguishable_same t u = ap (λ b. not (nullable_clash t u) && b) (members_same t t u)
