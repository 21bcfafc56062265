use Rattle.std.proofs.Common.{List, Option, map, subst, sym}
use Rattle.widl_idl.specs.declared.violation.Violation.{Violation}
use Rattle.widl_idl.specs.DefinitionTerms.{DictTerm, defs_term, dict_term}
use Rattle.widl_idl.specs.First.{FirstWhere}
use Rattle.widl_idl.proofs.Steps.{first_rule, no_rules}
use Rattle.widl_fits.specs.Hierarchies.{IsHierarchy}
use Rattle.widl_inheritance.specs.HoldingGraph.{AreWithin}
use Rattle.widl_overload.specs.rules.Dictionaries.{dictionary_terms}
use Rattle.widl_overload.specs.rules.DictionaryRules.{BeginsLongChain, HasNameTwice, HoldsItself}
use Rattle.widl_overload.specs.rules.Validity.{BreaksRule, validity_number}
use Rattle.widl_overload.specs.declared.validity_rule.ValidityRule.TheVariants as rule
use Rattle.widl_valid.proofs.inherited_refusals.find_in_dictionaries.Goals as goal

pub of-requires : goal.of-requires
of-requires c = subst (λ ds. AreWithin (map dict_term ds)) (sym c.as_slice-dicts.ensures) c.requires.within

pub first_long_chain-requires-clause-hierarchy : goal.first_long_chain-requires-clause-hierarchy
first_long_chain-requires-clause-hierarchy c = subst (λ ds. IsHierarchy (map dict_term ds)) (sym c.as_slice-dicts.ensures) c.requires.hierarchy

pub first_repeated_member-requires : goal.first_repeated_member-requires
first_repeated_member-requires c = subst (λ ds. IsHierarchy (map dict_term ds)) (sym c.as_slice-dicts.ensures) c.requires.hierarchy

pub returns : goal.returns
returns c = λ definitions.
    let b = BreaksRule (defs_term c.args.defs.now) definitions in
    let there : (P : List DictTerm → Violation → Type 0) (found : Option Violation) → FirstWhere (P (map dict_term c.as_slice-dicts.result.now)) found → FirstWhere (P (dictionary_terms c.args.defs.now)) found
    = λ P found l. subst (λ ds. FirstWhere (P (map dict_term ds)) found) c.as_slice-dicts.ensures l in
    first_rule validity_number b rule.RepeatedDictionaryMember _ _ _ _ (there HasNameTwice _ c.in_ok-found-2.ensures) c.first.ensures
    (first_rule validity_number b rule.DictionaryHoldsItself _ _ _ _ (there HoldsItself _ c.first_holding_itself-found.ensures) c.first-best-2.ensures
    (first_rule validity_number b rule.LongDictionaryChain _ _ _ _ (there BeginsLongChain _ c.in_ok-found.ensures) c.first-best.ensures (no_rules validity_number b)))
