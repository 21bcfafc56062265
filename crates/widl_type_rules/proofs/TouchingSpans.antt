-- Spans that touch, seen in the order of their starts, and as those of interfaces.
use Rattle.std.proofs.Common.{◌≡◌, ℕ, zero, suc, ◌+◌, ◌<◌, ◌≤◌, Bool, true, false, ◌||◌, ◌&&◌, ltb, nat_lt, max, List, [], ◌∷◌, length, take, map, get_or, Option, arith, refl, sym, ap, ◌∙◌}
use Rattle.std.proofs.lemmas.Bool.{lt-ltb}
use Rattle.std.proofs.lemmas.List.{get_or_default}
use Rattle.std.proofs.lemmas.List.Folds.{list_any_more}
use Rattle.std.proofs.lemmas.List.Sorted.{All-permutation}
use Rattle.std.proofs.Math.Bool.{and-true}
use Rattle.std.specs.List.{All, list_any}
use Rattle.std.specs.List.Sorted.{IsNonDecreasingBy, IsPermutation}
use Rattle.widl_idl.specs.DefinitionTerms.{IfaceTerm}
use Rattle.widl_type_rules.specs.IndistinguishablePairs.{any_pair, are_related}
use Rattle.widl_graph.specs.declared.spans.Span.{Span}
use Rattle.widl_type_rules.specs.Lineages.{TellRelated, begins_within, lineage_of, touches}
use Rattle.widl_type_rules.proofs.AnyPair.{pair_found, pair_none}
use Rattle.widl_type_rules.proofs.PairCounts.{any_pair_permuted}

both_turned : (a b : Bool) → (a && b) ≡ (b && a)
both_turned true true = refl
both_turned true false = refl
both_turned false true = refl
both_turned false false = refl

symmetric : (s t : Span) → touches s t ≡ touches t s
symmetric s t = both_turned (ltb t.start s.past) (ltb s.start t.past)

-- a span touches a later one where this begins within it
later_touches : (s : Span) (spans : List Span) → ((k : ℕ) (d : Span) → k < length spans → s.start < (get_or spans k d).past) → list_any (begins_within s) spans ≡ list_any (touches s) spans
later_touches s [] h = refl
later_touches s (t ∷ spans) h =
    let one : begins_within s t ≡ touches s t = sym (ap (λ b. ltb t.start s.past && b) (lt-ltb s.start t.past (h 0 t (omega arith))) ∙ and-true (ltb t.start s.past)) in
    λ j. one j || later_touches s spans (λ k d l. h (suc k) d (omega arith)) j

in_order : (spans : List Span) → IsNonDecreasingBy (λ s. s.start) spans → All (λ s. s.start < s.past) spans → any_pair begins_within spans ≡ any_pair touches spans
in_order [] up h = refl
in_order (s ∷ spans) up h =
    λ j. later_touches s spans (λ k d l. omega (arith, up 0 (suc k) d (omega arith) (omega arith), h (suc k) d (omega arith))) j
    || in_order spans (λ i k d l b. up (suc i) (suc k) d (omega arith) (omega arith)) (λ k d l. h (suc k) d (omega arith)) j

-- what the spans tell once they are sorted
pub sorted_touch : (spans sorted : List Span) → IsPermutation spans sorted → IsNonDecreasingBy (λ s. s.start) sorted → All (λ s. s.start < s.past) spans → any_pair begins_within sorted ≡ any_pair touches spans
sorted_touch spans sorted p up h = in_order sorted up (All-permutation (λ (s : Span). s.start < s.past) spans sorted p h) ∙ any_pair_permuted touches symmetric spans sorted p

module _ (ifaces : List IfaceTerm) (all : List (Option Span)) (told : TellRelated ifaces all) where
  one_related : (n : ℕ) (numbers : List ℕ) → list_any (touches (lineage_of all n)) (map (lineage_of all) numbers) ≡ list_any (are_related ifaces n) numbers
  one_related n [] = refl
  one_related n (m ∷ numbers) = λ j. sym (told.tells n m) j || one_related n numbers j

  pub spans_related : (numbers : List ℕ) → any_pair touches (map (lineage_of all) numbers) ≡ any_pair (are_related ifaces) numbers
  spans_related [] = refl
  spans_related (n ∷ numbers) = λ j. one_related n numbers j || spans_related numbers j

  pub spans_filled : (numbers : List ℕ) → All (λ s. s.start < s.past) (map (lineage_of all) numbers)
  spans_filled [] k d l = absurd (omega arith)
  spans_filled (n ∷ numbers) zero d l = told.filled n
  spans_filled (n ∷ numbers) (suc k) d l = spans_filled numbers k d (omega arith)

-- the greatest end so far tells whether one is past a place
abbrev pub Reaches : ℕ → List Span → Type 0
Reaches reach spans = (n : ℕ) → nat_lt n reach ≡ list_any (λ s. nat_lt n s.past) spans

max_reach : (n a b : ℕ) → ltb n (max a b) ≡ (ltb n a || ltb n b)
max_reach n a b = grind arith

pub reach_more : (spans : List Span) (i : ℕ) (d : Span) (reach : ℕ) → i < length spans → Reaches reach (take i spans) → Reaches (max reach (get_or spans i d).past) (take (i + 1) spans)
reach_more spans i d reach below h n = max_reach n reach (get_or spans i d).past ∙ ap (λ b. b || ltb n (get_or spans i d).past) (h n) ∙ sym (list_any_more (λ (s : Span). ltb n s.past) spans i d below)

not_below : (a b : ℕ) → b ≤ a → ltb a b ≡ false
not_below a b h = grind arith

module _ (spans : List Span) (i : ℕ) (d : Span) (reach : ℕ) (below : i < length spans) (reaches : Reaches reach (take i spans)) where
  same_item : get_or spans i d ≡ get_or spans i (get_or spans i d)
  same_item = get_or_default spans i d (get_or spans i d) below

  pub found_within : (get_or spans i d).start < reach → true ≡ any_pair begins_within spans
  found_within l = sym (pair_found begins_within spans i (get_or spans i d) below same_item (sym (reaches (get_or spans i d).start) ∙ lt-ltb (get_or spans i d).start reach l))

  pub none_within : any_pair begins_within (take i spans) ≡ false → reach ≤ (get_or spans i d).start → any_pair begins_within (take (i + 1) spans) ≡ false
  none_within none l = pair_none begins_within spans i (get_or spans i d) below same_item none (sym (reaches (get_or spans i d).start) ∙ not_below (get_or spans i d).start reach l)
