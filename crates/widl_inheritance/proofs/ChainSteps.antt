-- Chains of dictionaries along the steps of their graph.
use Rattle.std.proofs.Common.{◌≡◌, ◌⊎◌, inl, inr, ℕ, ◌+◌, ◌<◌, List, length, slice_get, Some, arith, refl, sym, subst}
use Rattle.std.specs.List.{Contains}
use Rattle.widl_graph.specs.Reaching.{Step}
use Rattle.widl_idl.specs.DefinitionTerms.{DictTerm}
use Rattle.widl_inheritance.specs.ChainLengths.{BeginsAt, begun, inside, nothing}
use Rattle.widl_inheritance.specs.HoldingGraph.{IsHoldingGraph}
use Rattle.widl_inheritance.proofs.HoldingSteps.{MemberStep, from_members, holds_above, holds_cases, holds_own, to_above, to_inside}
use Rattle.widl_overload.specs.rules.Dictionaries.{BeginsChain, HoldsIn, alone, after, dictionaries_of_members}

module _ (dicts : List DictTerm) where
  -- a chain of one, or one with a shorter chain after the first
  record After (count n : ℕ) : Type 0 where
    shorter : ℕ
    next : ℕ
    longer : count ≡ shorter + 1
    holds : HoldsIn dicts n next
    chain : BeginsChain dicts shorter next

  chain_cases : {count n : ℕ} → BeginsChain dicts count n → (count ≡ 1) ⊎ After count n
  chain_cases alone = inl refl
  chain_cases (after {count = k} {m = m} h c) = inr (record { shorter = k; next = m; longer = refl; holds = h; chain = c })

  pub one_begins : (count n : ℕ) → count ≡ 1 → BeginsChain dicts count n
  one_begins count n is = subst (λ k. BeginsChain dicts k n) (sym is) alone

  -- a dictionary adds one to the chains that begin in its members
  pub with_itself : (count n : ℕ) → n < length dicts → BeginsAt dicts count (length dicts + n) → BeginsAt dicts (count + 1) n
  with_itself count n below (nothing is) = begun below (one_begins (count + 1) n (omega (arith, is)))
  with_itself count n below (begun past c) = absurd (omega (arith, past))
  with_itself count n below (inside k m is h c) = begun below (after (subst (λ j. HoldsIn dicts j m) same h) c)
    where
      same : k ≡ n
      same = omega (arith, is)

  pub without_itself : (count n : ℕ) → n < length dicts → BeginsAt dicts (count + 1) n → BeginsAt dicts count (length dicts + n)
  without_itself count n below (nothing is) = absurd (omega (arith, is))
  without_itself count n below (inside k m is h c) = absurd (omega (arith, is, below))
  without_itself count n below (begun l c) = by_case (chain_cases c)
    where
      by_case : (count + 1 ≡ 1) ⊎ After (count + 1) n → BeginsAt dicts count (length dicts + n)
      by_case (inl is) = nothing (omega (arith, is))
      by_case (inr b) = let same : b.shorter ≡ count = (let e = b.longer in omega (arith, e)) in inside n b.next refl b.holds (subst (λ k. BeginsChain dicts k b.next) same b.chain)

  -- a chain that begins at a dictionary's own node begins with the dictionary
  pub begins_with : (count n : ℕ) → 0 < count → n < length dicts → BeginsAt dicts count n → BeginsChain dicts count n
  begins_with count n some below (nothing is) = absurd (omega (arith, is, some))
  begins_with count n some below (begun l c) = c
  begins_with count n some below (inside k m is h c) = absurd (omega (arith, is, below))

  module _ (graph : List (List ℕ)) (linked : IsHoldingGraph dicts (length dicts) graph) where
    -- a chain in the members of a dictionary begins at a node to which they lead
    pub record Onward (count node : ℕ) : Type 0 where
      pub next : ℕ
      pub step : Step graph node next
      pub begins : BeginsAt dicts count next

    pub goes_on : (count n : ℕ) → 0 < count → n < length dicts → BeginsAt dicts count (length dicts + n) → Onward count (length dicts + n)
    goes_on count n some below (nothing is) = absurd (omega (arith, is, some))
    goes_on count n some below (begun past c) = absurd (omega (arith, past))
    goes_on count n some below (inside k m is h c) = by_case (holds_cases dicts n m (subst (λ j. HoldsIn dicts j m) same h))
      where
        same : k ≡ n
        same = omega (arith, is)

        by_case : (d : DictTerm) × (slice_get dicts n ≡ Some d) × (Contains (dictionaries_of_members d) m ⊎ ((p : ℕ) × (d.parent ≡ Some p) × HoldsIn dicts p m)) → Onward count (length dicts + n)
        by_case f = elim f.2 [
          | inl g ↦ record { next = m; step = to_inside dicts graph linked n m f.0 f.1 g; begins = begun ((linked.within n f.0 below f.1).inside m g) c }
          | inr g ↦ record { next = length dicts + g.0; step = to_above dicts graph linked n g.0 f.0 f.1 g.1; begins = inside g.0 m refl g.2 c }
        ]

    pub comes_from : (count n y : ℕ) → 0 < count → n < length dicts → Step graph (length dicts + n) y → BeginsAt dicts count y → BeginsAt dicts count (length dicts + n)
    comes_from count n y some below s begins = by_case (from_members dicts graph linked n y below s)
      where
        above : (p : ℕ) (d : DictTerm) → slice_get dicts n ≡ Some d → d.parent ≡ Some p → y ≡ length dicts + p → BeginsAt dicts count y → BeginsAt dicts count (length dicts + n)
        above p d is parent_is at (nothing e) = absurd (omega (arith, e, some))
        above p d is parent_is at (begun past c) = absurd (omega (arith, past, at))
        above p d is parent_is at (inside k m e h c) = let same : k ≡ p = omega (arith, e, at) in inside n m refl (holds_above dicts n p m d is parent_is (subst (λ j. HoldsIn dicts j m) same h)) c

        by_case : MemberStep dicts n y → BeginsAt dicts count (length dicts + n)
        by_case m = elim m.goes [
          | inl h ↦ inside n y refl (holds_own dicts n y m.dictionary m.is h.0) (begins_with count y some h.1 begins)
          | inr h ↦ above h.0 m.dictionary m.is h.1 h.2 begins
        ]
