-- The least name of a dictionary of whose number a fact holds.
use Rattle.std.proofs.Common.{◌≡◌, inl, refl, ℕ, ◌<◌, Bool, true, List, length, take, map, slice_get, Option, Some, arith, sym, subst}
use Rattle.std.proofs.lemmas.List.{length-map, length-take-le}
use Rattle.std.proofs.lemmas.Option.{slice_get_within}
use Rattle.widl_idl.specs.declared.dictionary.Dict.{Dict}
use Rattle.widl_idl.specs.declared.violation.Violation.{Violation}
use Rattle.widl_idl.specs.DefinitionTerms.{DictTerm, dict_term}
use Rattle.widl_idl.specs.First.{FirstWhere, AtOne}
use Rattle.widl_idl.specs.MergingRules.{IsAt}
use Rattle.widl_idl.proofs.Order.{first_same}
use Rattle.widl_inheritance.specs.HoldingGraph.{AreHoldings, FlaggedAfter, IsAtName}
use Rattle.widl_inheritance.proofs.HoldingSteps.{leads_reached, reached_leads}
use Rattle.widl_overload.specs.rules.DictionaryRules.{HoldsItself}
use Rattle.widl_inheritance.specs.declared.holding.Holdings.{Holdings}

-- the flags by the numbers of the dictionaries
pub by_number : (flags : List Bool) (dicts : List DictTerm) (found : Option Violation) → FirstWhere (AtOne (FlaggedAfter flags) dicts) found → FirstWhere (IsAtName (λ n. slice_get flags n ≡ Some true) dicts) found
by_number flags dicts found l = first_same (AtOne (FlaggedAfter flags) dicts) (IsAtName (λ n. slice_get flags n ≡ Some true) dicts) found
    (λ s u. record { number = u.index; dictionary = u.item; is = u.is; holds = subst (λ n. slice_get flags n ≡ Some true) (before u.index u.below) u.breaks.0; at_name = u.breaks.1 })
    (λ s h. let below = slice_get_within dicts h.number h.dictionary h.is in record { index = h.number; below = below; item = h.dictionary; is = h.is; breaks = (subst (λ n. slice_get flags n ≡ Some true) (sym (before h.number below)) h.holds, h.at_name) })
    l
  where
    before : (n : ℕ) → n < length dicts → length (take n dicts) ≡ n
    before n below = length-take-le n dicts (omega (arith, below))

-- at the number of the dictionaries before, as a loop over dictionaries has it
pub flagged_after : (flags : List Bool) (dicts : List Dict) (number : ℕ) (dict : Dict) (found : Option Violation) → number < length dicts → FirstWhere (λ s. (slice_get flags number ≡ Some true) × IsAt dict.at s) found → FirstWhere (FlaggedAfter flags (take number (map dict_term dicts)) (dict_term dict)) found
flagged_after flags dicts number dict found below l = subst (λ n. FirstWhere (λ s. (slice_get flags n ≡ Some true) × IsAt dict.at s) found) (sym (length-take-le number (map dict_term dicts) (let size = length-map dicts dict_term in omega (arith, size, below)))) l

-- the dictionaries whose nodes reach themselves are those that hold themselves
pub holding_themselves : (dicts : List DictTerm) (holdings : Holdings) (found : Option Violation) → AreHoldings dicts holdings → FirstWhere (IsAtName (λ n. slice_get holdings.walk.cyclic.items n ≡ Some true) dicts) found → FirstWhere (HoldsItself dicts) found
holding_themselves dicts holdings found so l = first_same (IsAtName (λ n. slice_get holdings.walk.cyclic.items n ≡ Some true) dicts) (HoldsItself dicts) found
    (λ s h. let below = slice_get_within dicts h.number h.dictionary h.is in record { number = h.number; dictionary = h.dictionary; is = h.is; back = reached_leads dicts holdings.graph so.graph ((so.cyclic.tells h.number).0 h.holds) below h.number below (inl refl); at_name = h.at_name })
    (λ s h. record { number = h.number; dictionary = h.dictionary; is = h.is; holds = (so.cyclic.tells h.number).1 (leads_reached dicts holdings.graph so.graph h.back); at_name = h.at_name })
    l
