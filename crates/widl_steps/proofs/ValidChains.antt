-- Over the list of a valid set of files no chain of more dictionaries begins than may be.
use Rattle.std.proofs.Common.{◌≡◌, ℕ, ◌+◌, ◌⊎◌, List, Some, refl, sym, subst, arith}
use Rattle.std.specs.Prelude.{slice_get}
use mathlib.Core.Logic.{inl, inr}
use Rattle.widl_text.specs.Limits.{most_chained_dictionaries}
use Rattle.widl_graph.proofs.ParentSteps.{step_parent}
use Rattle.widl_graph.proofs.Reach.{first_step}
use Rattle.widl_idl.specs.DefinitionTerms.{DictTerm}
use Rattle.widl_idl.specs.First.{violation_at}
use Rattle.widl_overload.specs.declared.validity_rule.ValidityRule.TheVariants as rule
use Rattle.widl_overload.specs.rules.Dictionaries.{BeginsChain, alone, after, HoldsIn, IsOfLine, dictionary_terms}
use Rattle.widl_steps.specs.Laws.{ValidChainsEnd}

module _ (dicts : List DictTerm) where
  first_holds : {count n : ℕ} → BeginsChain dicts count n → (count ≡ 1) ⊎ ((m : ℕ) × HoldsIn dicts n m)
  first_holds alone = inl refl
  first_holds (after {m = m} holds chain) = inr (m, holds)

  abbrev IsThere : ℕ → Type 0
  IsThere n = (d : DictTerm) × (slice_get dicts n ≡ Some d)

is_there : (dicts : List DictTerm) (n m : ℕ) → HoldsIn dicts n m → IsThere dicts n
is_there dicts n m holds = by holds.of_line
  where
    by : IsOfLine dicts n holds.declaring → IsThere dicts n
    by (inl same) = (holds.dictionary, subst (λ (k : ℕ). slice_get dicts k ≡ Some holds.dictionary) (sym same) holds.is)
    by (inr inherits) = let s = first_step inherits in
        let p = step_parent (λ (d : DictTerm). d.parent) dicts n s.0 s.1 in (p.0, p.1)

pub chains_end : ValidChainsEnd
chains_end set valid built n is_built chain = by (first_holds (dictionary_terms set.defs) chain)
  where
    by : (most_chained_dictionaries + 1 ≡ 1) ⊎ ((m : ℕ) × HoldsIn (dictionary_terms set.defs) n m) → ⊥
    by (inl e) = absurd (omega (arith, e))
    by (inr x) =
        let d = is_there (dictionary_terms set.defs) n x.0 x.1 in
        valid rule.LongDictionaryChain (violation_at d.0.at)
        (record { number = n; dictionary = d.0; is = d.1; finite = λ other holds. valid rule.DictionaryHoldsItself other holds; chain = chain; at_name = refl })
