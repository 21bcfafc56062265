-- The first refusal of a union is the earlier of the firsts: of two lists of rules, and of what breaks the same rules.
use Rattle.std.proofs.Common.{◌≡◌, ◌⊎◌, inl, inr, ℕ, ◌+◌, ◌<◌, ◌≤◌, ◌++◌, List, [], ◌∷◌, length, take, map, flat_map, get_or, zero, suc, Option, None, Some, arith, refl, sym, ap, subst}
use Rattle.std.proofs.lemmas.List.{flat_map_more, take_all}
use Rattle.std.proofs.lemmas.List.Elements.{Contains-append_left, Contains-append_right, Contains-append_cases}
use Rattle.widl_first.specs.First.{Either}
use Rattle.widl_first.proofs.Firsts.{first_either, first_of_one, first_same}
use Rattle.widl_idl.specs.declared.refusal.Refusal.{Refusal}
use Rattle.widl_idl.specs.declared.violation.Violation.{Violation}
use Rattle.widl_idl.specs.First.{Somewhere}
use Rattle.widl_idl.specs.FirstRefusal.{Broken, Earlier, is_earlier, violation_of}
use Rattle.widl_idl.proofs.Somewhere.{one_item, somewhere_cases, somewhere_left, somewhere_right}
use Rattle.widl_idl.proofs.Steps.{refusal_order}
use Rattle.widl_names.proofs.PlainLists.{mapped_more}
use Rattle.widl_overload.specs.declared.validity_rule.ValidityRule.{ValidityRule}
use Rattle.widl_overload.specs.rules.Validity.{validity_number}
use Rattle.widl_refusals.specs.Refusals.{IsFirst, earlier_refusal}

abbrev pub Breaking : Type 1
Breaking = ValidityRule → Violation → Type 0

-- one of the rules is broken as the refusal says
abbrev BrokenBy : Breaking → List ValidityRule → Refusal → Type 0
BrokenBy Breaks rules r = Broken validity_number Breaks rules r

module _ (A B C : Breaking) (xs ys zs : List ValidityRule) (e : Either (BrokenBy A xs) (BrokenBy B ys) (BrokenBy C zs)) where
  first_union : (best found : Option Refusal) → IsFirst A xs best → IsFirst B ys found → IsFirst C zs (earlier_refusal found best)
  first_union best None l m = subst (IsFirst C zs) (first_of_one is_earlier best) (first_either refusal_order (BrokenBy A xs) (BrokenBy B ys) (BrokenBy C zs) e best None l m)
  first_union best (Some found) l m = first_either refusal_order (BrokenBy A xs) (BrokenBy B ys) (BrokenBy C zs) e best (Some found) l m

-- of two lists of rules
module _ (Breaks : Breaking) (xs ys : List ValidityRule) where
  of_lists : Either (BrokenBy Breaks ys) (BrokenBy Breaks xs) (BrokenBy Breaks (xs ++ ys))
  of_lists = record {
    left = λ r b. record { which = b.which; listed = Contains-append_right xs ys b.which b.listed; numbered = b.numbered; breaks = b.breaks };
    right = λ r b. record { which = b.which; listed = Contains-append_left xs ys b.which b.listed; numbered = b.numbered; breaks = b.breaks };
    only = λ r b. elim (Contains-append_cases xs ys b.which b.listed) [ inl l ↦ inr (record { which = b.which; listed = l; numbered = b.numbered; breaks = b.breaks }) | inr l ↦ inl (record { which = b.which; listed = l; numbered = b.numbered; breaks = b.breaks }) ];
  }

  pub both_lists : (best found now : Option Refusal) → IsFirst Breaks ys best → IsFirst Breaks xs found → now ≡ earlier_refusal found best → IsFirst Breaks (xs ++ ys) now
  both_lists best found now l m same = subst (IsFirst Breaks (xs ++ ys)) (sym same) (first_union Breaks Breaks Breaks ys xs (xs ++ ys) of_lists best found l m)

module _ (rules : List ValidityRule) where
  -- of what breaks the same rules in one way or another
  module _ (A B C : Breaking) (e : (rule : ValidityRule) → Either (A rule) (B rule) (C rule)) where
    of_breaks : Either (BrokenBy A rules) (BrokenBy B rules) (BrokenBy C rules)
    of_breaks = record {
      left = λ r b. record { which = b.which; listed = b.listed; numbered = b.numbered; breaks = (e b.which).left (violation_of r) b.breaks };
      right = λ r b. record { which = b.which; listed = b.listed; numbered = b.numbered; breaks = (e b.which).right (violation_of r) b.breaks };
      only = λ r b. elim ((e b.which).only (violation_of r) b.breaks) [ inl l ↦ inl (record { which = b.which; listed = b.listed; numbered = b.numbered; breaks = l }) | inr l ↦ inr (record { which = b.which; listed = b.listed; numbered = b.numbered; breaks = l }) ];
    }

    pub both_breaks : (best found now : Option Refusal) → IsFirst A rules best → IsFirst B rules found → now ≡ earlier_refusal found best → IsFirst C rules now
    both_breaks best found now l m same = subst (IsFirst C rules) (sym same) (first_union A B C rules rules rules of_breaks best found l m)

  -- of a list, an item at a time, as a loop over what is seen as the items has it
  module _ {X V : Type 0} (Any : List X → Breaking) (One : List X → X → Breaking) (push : (xs : List X) (x : X) (rule : ValidityRule) → Either (Any xs rule) (One xs x rule) (Any (xs ++ x ∷ []) rule)) (f : V → X) (vs : List V) where
    pub next_item : (i : ℕ) (v : V) (best found now : Option Refusal) → i < length vs → v ≡ get_or vs i v → IsFirst (Any (map f (take i vs))) rules best → IsFirst (One (map f (take i vs)) (f v)) rules found → now ≡ earlier_refusal found best → IsFirst (Any (map f (take (i + 1) vs))) rules now
    next_item i v best found now below is l m same =
        subst (λ xs. IsFirst (Any xs) rules now) (sym (mapped_more f vs i v below is))
        (both_breaks (Any (map f (take i vs))) (One (map f (take i vs)) (f v)) (Any (map f (take i vs) ++ f v ∷ [])) (push (map f (take i vs)) (f v)) best found now l m same)

  -- at the end of the list
  pub all_items : {X V : Type 0} (Any : List X → Breaking) (f : V → X) (vs : List V) (i : ℕ) (best : Option Refusal) → length vs ≤ i → IsFirst (Any (map f (take i vs))) rules best → IsFirst (Any (map f vs)) rules best
  all_items Any f vs i best past m = subst (λ xs. IsFirst (Any (map f xs)) rules best) (take_all i vs past) m

-- what one of the items breaks, with one item more, and with one list of items more
pub item_pushed : {X : Type 0} (P : X → Violation → Type 0) (xs : List X) (x : X) → Either (Somewhere P xs) (P x) (Somewhere P (xs ++ x ∷ []))
item_pushed P xs x = record {
  left = λ s h. somewhere_left P xs (x ∷ []) s h;
  right = λ s b. somewhere_right P xs (x ∷ []) s (record { item = x; listed = (0, omega arith, refl); breaks = b });
  only = λ s h. elim (somewhere_cases P xs (x ∷ []) s h) [ inl l ↦ inl l | inr r ↦ inr (one_item P x s r) ];
}

pub list_pushed : {X Y : Type 0} (P : Y → Violation → Type 0) (f : X → List Y) (xs : List X) (x : X) → Either (Somewhere P (flat_map f xs)) (Somewhere P (f x)) (Somewhere P (flat_map f (xs ++ x ∷ [])))
list_pushed P f xs x = subst (λ ys. Either (Somewhere P (flat_map f xs)) (Somewhere P (f x)) (Somewhere P ys)) (flat_map_more f [] xs x) (record {
  left = somewhere_left P (flat_map f xs) (f x);
  right = somewhere_right P (flat_map f xs) (f x);
  only = somewhere_cases P (flat_map f xs) (f x);
})

-- ---- the same rules in other words

module _ (A B : Breaking) (rules : List ValidityRule) where
  -- each rule is broken at the same violations
  pub same_breaks : (found : Option Refusal) → ((rule : ValidityRule) (s : Violation) → A rule s → B rule s) → ((rule : ValidityRule) (s : Violation) → B rule s → A rule s) → IsFirst A rules found → IsFirst B rules found
  same_breaks found to from l =
      first_same Earlier (BrokenBy A rules) (BrokenBy B rules) found
      (λ r b. record { which = b.which; listed = b.listed; numbered = b.numbered; breaks = to b.which (violation_of r) b.breaks })
      (λ r b. record { which = b.which; listed = b.listed; numbered = b.numbered; breaks = from b.which (violation_of r) b.breaks }) l

abbrev head : List (Violation → Type 0) → Violation → Type 0
head [] s = ⊥
head (P ∷ Ps) s = P s

abbrev tail : List (Violation → Type 0) → List (Violation → Type 0)
tail [] = []
tail (P ∷ Ps) = Ps

module _ (A B : Breaking) where
  one_rule : (rules : List ValidityRule) → map A rules ≡ map B rules → (rule : ValidityRule) (k : ℕ) → k < length rules → get_or rules k rule ≡ rule → A rule ≡ B rule
  one_rule [] same rule k below is = absurd (omega (arith, below))
  one_rule (first ∷ rules) same rule zero below is = subst (λ r. A r ≡ B r) is (ap head same)
  one_rule (first ∷ rules) same rule (suc k) below is = one_rule rules (ap tail same) rule k (omega (arith, below)) is

  -- the listed rules are the same by computation
  pub same_rules : (rules : List ValidityRule) (found : Option Refusal) → map A rules ≡ map B rules → IsFirst A rules found → IsFirst B rules found
  same_rules rules found same l =
      first_same Earlier (BrokenBy A rules) (BrokenBy B rules) found
      (λ r b. record { which = b.which; listed = b.listed; numbered = b.numbered; breaks = subst (λ P. P (violation_of r)) (one_rule rules same b.which b.listed.0 b.listed.1 b.listed.2) b.breaks })
      (λ r b. record { which = b.which; listed = b.listed; numbered = b.numbered; breaks = subst (λ P. P (violation_of r)) (sym (one_rule rules same b.which b.listed.0 b.listed.1 b.listed.2)) b.breaks }) l
