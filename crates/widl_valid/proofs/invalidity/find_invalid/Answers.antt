use Rattle.std.proofs.Common.{sym, subst}
use Rattle.widl_idl.specs.DefinitionTerms.{defs_term}
use Rattle.widl_idl.specs.Meanings.{definitions_of}
use Rattle.widl_idl.specs.MergingRules.{parent_links}
use Rattle.widl_idl.specs.PlainTrees.{plain_definitions}
use Rattle.widl_idl.specs.declared.merging_rule.MergingRule.TheVariants as merging
use Rattle.widl_graph.specs.Reaching.{IsAcyclic}
use Rattle.widl_fits.proofs.MergedHierarchies.{merged_hierarchy, merged_interfaces}
use Rattle.widl_fits.proofs.MergedParents.{none_back}
use Rattle.widl_inheritance.proofs.MergedTypes.{merged_within}
use Rattle.widl_names.proofs.PlainLists.{listed_same}
use Rattle.widl_overload.specs.rules.Validity.{BreaksRule, default_rules, dictionary_rules, iterable_rules, overload_rules}
use Rattle.widl_overload.specs.rules.OnDefinitions.{definition_rules}
use Rattle.widl_overload.specs.rules.OnMembers.{member_rules}
use Rattle.widl_refusals.specs.Refusals.{IsFirstOver}
use Rattle.widl_overload.specs.rules.OnTypes.{type_rules}
use Rattle.widl_refusals.proofs.FirstRefusals.{both_lists}
use Rattle.widl_valid.proofs.invalidity.find_invalid.Goals as goal

pub find_in_overloads-requires : goal.find_in_overloads-requires
find_in_overloads-requires c = c.requires.merged.numbered

pub find_in_iterables-requires : goal.find_in_iterables-requires
find_in_iterables-requires c =
    let r = c.requires in
    subst (λ ds. IsAcyclic (parent_links ds)) r.declare (none_back (definitions_of r.fragments) (r.merged.unbroken.merging merging.InheritsFromItself))

pub find_in_dictionaries-requires : goal.find_in_dictionaries-requires
find_in_dictionaries-requires c = record {
  within = merged_within c.args.defs.now c.requires.fragments c.requires.merged;
  hierarchy = merged_hierarchy c.args.defs.now c.requires.fragments c.requires.merged;
}

pub find_in_defaults-requires : goal.find_in_defaults-requires
find_in_defaults-requires c = merged_hierarchy c.args.defs.now c.requires.fragments c.requires.merged

pub find_in_types-requires : goal.find_in_types-requires
find_in_types-requires c = merged_interfaces c.args.defs.now c.requires.fragments c.requires.merged

pub returns : goal.returns
returns c =
    let defs = defs_term c.args.defs.now in
    let list = plain_definitions c.args.scope.now in
    let b = BreaksRule defs list in
    both_lists b definition_rules _ _ _ _
    (both_lists b type_rules _ _ _ _
    (both_lists b member_rules _ _ _ _
    (both_lists b default_rules _ _ _ _
    (both_lists b dictionary_rules _ _ _ _
    (both_lists b iterable_rules overload_rules _ _ _ (c.in_ok-best.ensures list) (c.in_ok-found.ensures defs) c.earlier_refusal-best.ensures)
    (c.in_ok-found-2.ensures list) c.earlier_refusal-best-2.ensures)
    c.in_ok-found-3.ensures c.earlier_refusal-best-3.ensures)
    (c.in_ok-found-4.ensures defs) c.earlier_refusal-best-4.ensures)
    c.in_ok-found-5.ensures c.earlier_refusal-best-5.ensures)
    (subst (λ ds. IsFirstOver defs ds definition_rules c.in_ok-found-6.found) (listed_same c.all.result.now c.args.scope.now c.all.ensures.all) (c.in_ok-found-6.ensures defs)) c.earlier_refusal.ensures
