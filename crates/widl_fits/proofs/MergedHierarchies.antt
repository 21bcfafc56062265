-- The interfaces and the dictionaries of a merged list inherit from one another without a circle: a step from one to its parent is a step from its main definition to that of the parent.
use Rattle.std.proofs.Common.{◌≡◌, ◌≢◌, ℕ, ◌<◌, Bool, true, false, ◌&&◌, not, cond, List, [], ◌∷◌, length, map, filter, filter_map, Option, None, Some, option_map, slice_get, arith, refl, sym, ap, subst, ◌∙◌, Contains}
use Rattle.std.specs.List.{cons_option}
use Rattle.std.specs.Option.{option_to_list}
use Rattle.std.proofs.lemmas.List.{length-map}
use Rattle.std.proofs.lemmas.Option.{get_or_from_slice_get, same_Some, slice_get_within}
use Rattle.std.proofs.lemmas.Simd.{map-map}
use Rattle.widl_graph.specs.Reaching.{Reaches, Step, more, one, IsForest}
use Rattle.widl_idl.specs.declared.defs.Defs.{Defs}
use Rattle.widl_idl.specs.declared.kind.Kind.{Kind}
use Rattle.widl_idl.specs.declared.kind.Kind.TheVariants as kinds
use Rattle.widl_idl.specs.declared.merging_rule.MergingRule.TheVariants as rule
use Rattle.widl_idl.specs.declared.tree.fragments.Fragment.{Fragment}
use Rattle.widl_idl.specs.declared.violation.Violation.{Violation}
use Rattle.widl_idl.specs.DefinitionTerms.{DefsTerm, DictTerm, IfaceTerm, defs_term}
use Rattle.widl_idl.specs.First.{Somewhere, violation_at}
use Rattle.widl_idl.specs.Meanings.{definitions_of, is_partial, kind_of, meaning, meant_kind, same_kind}
use Rattle.widl_idl.specs.MergedList.{dictionary_if, dictionary_of, each_main, interface_if, interface_of, number_of_meaning, parent_number}
use Rattle.widl_idl.specs.MergedSets.{IsMerged}
use Rattle.widl_idl.specs.MergingRules.{AtName, ComesBack, HasOtherParent, number_of_kind, parent_links, parent_numbers, parent_of}
use Rattle.widl_idl.specs.PlainTrees.{PlainDefinition, PlainKind, DictionaryDefinition, InterfaceDefinition}
use Rattle.widl_idl.specs.PlainTypes.{PlainName}
use Rattle.widl_idl.specs.WrittenTypes.{is_main_of, number_among}
use Rattle.widl_overload.specs.rules.Dictionaries.{dictionary_parents, dictionary_terms}
use Rattle.widl_fits.specs.Hierarchies.{IsHierarchy, interface_parents}
use Rattle.widl_fits.proofs.MainDefinitions.{at_place, count_below, meant_main, place_at, place_of}
use Rattle.widl_fits.proofs.MergedParents.{none_back}
use Rattle.widl_graph.proofs.ParentSteps.{step_parent, to_step}

first_true : (a b : Bool) → (a && b) ≡ true → a ≡ true
first_true true b e = refl
first_true false b e = absurd (let f : false ≡ true = e in (cc))

module _ (definitions : List PlainDefinition) (kind : Kind) where
  -- the main definitions of the kind
  abbrev pub mains : List PlainDefinition
  mains = filter (is_main_of kind) definitions

  -- the number of that from which one inherits
  abbrev parent_of_main : PlainDefinition → Option ℕ
  parent_of_main d = parent_number definitions kind (parent_of d.kind)

  abbrev pub main_parents : List (List ℕ)
  main_parents = map (λ d. option_to_list (parent_of_main d)) mains

  -- those of the list that is made of these definitions
  module _ {X : Type 0} (choose : PlainKind → Option X) (parent : X → Option ℕ) (agree : (d : PlainDefinition) → option_map parent (choose d.kind) ≡ cond (is_main_of kind d) (Some (parent_of_main d)) None) where
    one_more : (x : Option X) (b : Bool) (d : PlainDefinition) (xs : List X) (ds : List PlainDefinition) → option_map parent x ≡ cond b (Some (parent_of_main d)) None → map parent xs ≡ map parent_of_main ds → map parent (cons_option x xs) ≡ map parent_of_main (cond b (d ∷ ds) ds)
    one_more None true d xs ds e same = absurd (let f : None ≡ Some (parent_of_main d) = e in (cc))
    one_more None false d xs ds e same = same
    one_more (Some x) true d xs ds e same = λ j. same_Some (parent x) (parent_of_main d) e j ∷ same j
    one_more (Some x) false d xs ds e same = absurd (let f : Some (parent x) ≡ None = e in (cc))

    chosen : (ds : List PlainDefinition) → map parent (filter_map (λ (d : PlainDefinition). choose d.kind) ds) ≡ map parent_of_main (filter (is_main_of kind) ds)
    chosen [] = refl
    chosen (d ∷ ds) = one_more (choose d.kind) (is_main_of kind d) d (filter_map (λ (e : PlainDefinition). choose e.kind) ds) (filter (is_main_of kind) ds) (agree d) (chosen ds)

    pub chosen_parents : map (λ x. option_to_list (parent x)) (each_main definitions choose) ≡ main_parents
    chosen_parents = sym (map-map option_to_list parent (each_main definitions choose)) ∙ ap (map option_to_list) (chosen definitions) ∙ map-map option_to_list parent_of_main mains

    pub chosen_count : length (each_main definitions choose) ≡ length mains
    chosen_count = sym (length-map (each_main definitions choose) parent) ∙ ap length (chosen definitions) ∙ length-map mains parent_of_main

  -- the place of a main definition among all
  abbrev main_place : ℕ → ℕ
  main_place n = place_of (is_main_of kind) definitions n

  module _ (itself : same_kind kind kind ≡ true) (same : (other : Kind) → same_kind kind other ≡ true → kind ≡ other) where
    pub meant_below : (text : List ℕ) (k : ℕ) → meaning definitions text ≡ Some k → meant_kind definitions text ≡ Some kind → number_among definitions kind k < length mains
    meant_below text k means is = let d = meant_main definitions kind itself text k means is in count_below (is_main_of kind) definitions k d.0 d.1 d.2

    is_kind : (found : Option Kind) → ((found ≢ Some kind) → ⊥) → found ≡ Some kind
    is_kind None h = absurd (h (λ e. cc))
    is_kind (Some other) h = by_test (same_kind kind other) refl
      where
        by_test : (b : Bool) → same_kind kind other ≡ b → Some other ≡ Some kind
        by_test true e = ap Some (sym (same other e))
        by_test false e = absurd (h (λ f. let g : true ≡ false = sym itself ∙ ap (same_kind kind) (sym (same_Some other kind f)) ∙ e in (cc)))

    module _ (known : (s : Violation) → Somewhere (HasOtherParent definitions) definitions s → ⊥) where
      -- where a step leads to
      abbrev Above : ℕ → ℕ → Type 0
      Above n m = Step (parent_links definitions) (main_place n) (main_place m) × (m < length mains)

      -- a parent's name means a definition of the kind
      parent_meant : (place : ℕ) (d : PlainDefinition) (name : PlainName) → slice_get definitions place ≡ Some d → kind ≡ kind_of d.kind → parent_of d.kind ≡ Some name → meant_kind definitions name.text ≡ Some kind
      parent_meant place d name is of_kind parent_is =
          is_kind (meant_kind definitions name.text)
          (λ other. known (violation_at name.at)
          (record {
            item = d;
            listed = (place, slice_get_within definitions place d is, get_or_from_slice_get definitions place d d is);
            breaks = subst (λ o. AtName o (λ n. meant_kind definitions n.text ≢ Some (kind_of d.kind)) (violation_at name.at)) (sym parent_is) (subst (λ k. meant_kind definitions name.text ≢ Some k) of_kind other, refl);
          }))

      above : (n m : ℕ) (d : PlainDefinition) (parent : Option PlainName) → slice_get definitions (main_place n) ≡ Some d → kind ≡ kind_of d.kind → parent_of d.kind ≡ parent → parent_number definitions kind parent ≡ Some m → Above n m
      above n m d None is of_kind parent_is e = absurd (let f : None ≡ Some m = e in (cc))
      above n m d (Some name) is of_kind parent_is e = by_meaning (meaning definitions name.text) refl e
        where
          its_kind : meant_kind definitions name.text ≡ Some kind
          its_kind = parent_meant (main_place n) d name is of_kind parent_is

          by_meaning : (k : Option ℕ) → meaning definitions name.text ≡ k → number_of_meaning definitions kind k ≡ Some m → Above n m
          by_meaning None means f = absurd (let g : None ≡ Some m = f in (cc))
          by_meaning (Some k) means f =
              let number : number_among definitions kind k ≡ m = same_Some (number_among definitions kind k) m f in
              let there = meant_main definitions kind itself name.text k means its_kind in
              let place : k ≡ main_place m = sym (place_at (is_main_of kind) definitions k there.0 there.1 there.2) ∙ ap main_place number in
              let links : parent_numbers definitions (kind_of d.kind) (parent_of d.kind) ≡ k ∷ []
              = (λ j. parent_numbers definitions (sym of_kind j) (parent_is j)) ∙ (λ j. number_of_kind kind (its_kind j) (means j)) ∙ ap (λ b. cond b (k ∷ []) []) itself in (
                to_step (λ e. parent_numbers definitions (kind_of e.kind) (parent_of e.kind)) definitions (main_place n) (main_place m) d is (subst (λ ys. Contains ys (main_place m)) (sym links) (0, omega arith, place)),
                subst (λ c. c < length mains) number (meant_below name.text k means its_kind),
              )

      step : (n m : ℕ) → Step main_parents n m → Above n m
      step n m s =
          let p = step_parent parent_of_main mains n m s in
          let at = at_place (is_main_of kind) definitions n p.0 p.1 in
          above n m p.0 (parent_of p.0.kind) at.0 (same (kind_of p.0.kind) (first_true (same_kind kind (kind_of p.0.kind)) (not (is_partial p.0.kind)) at.1)) refl p.2

      comes : {n m : ℕ} → Reaches main_parents n m → Reaches (parent_links definitions) (main_place n) (main_place m)
      comes (one {x = n} {y = m} s) = one (step n m s).0
      comes (more {x = n} {y = k} s r) = more (step n k s).0 (comes r)

      pub mains_forest : ((s : Violation) → ComesBack (parent_links definitions) definitions s → ⊥) → IsForest main_parents
      mains_forest back = record {
        listed = record { below = λ n m s. subst (λ c. m < c) (sym (length-map mains (λ d. option_to_list (parent_of_main d)))) (step n m s).1 };
        acyclic = λ n r. none_back definitions back (main_place n) (comes r);
      }

same_dictionary : (other : Kind) → same_kind kinds.Dictionary other ≡ true → kinds.Dictionary ≡ other
same_dictionary kinds.Dictionary e = refl
same_dictionary other e = absurd (let f : false ≡ true = e in (cc))

same_interface : (other : Kind) → same_kind kinds.Interface other ≡ true → kinds.Interface ≡ other
same_interface kinds.Interface e = refl
same_interface other e = absurd (let f : false ≡ true = e in (cc))

module _ (definitions : List PlainDefinition) where
  dictionary_agrees : (kind : PlainKind) → option_map (λ (d : DictTerm). d.parent) (dictionary_if definitions kind) ≡ cond (same_kind kinds.Dictionary (kind_of kind) && not (is_partial kind)) (Some (parent_number definitions kinds.Dictionary (parent_of kind))) None
  dictionary_agrees (DictionaryDefinition d) = by_partial d.partial
    where
      by_partial : (b : Bool) → option_map (λ (t : DictTerm). t.parent) (cond b None (Some (dictionary_of definitions d))) ≡ cond (not b) (Some (parent_number definitions kinds.Dictionary d.parent)) None
      by_partial true = refl
      by_partial false = refl
  dictionary_agrees kind = refl

  interface_agrees : (kind : PlainKind) → option_map (λ (i : IfaceTerm). i.parent) (interface_if definitions kind) ≡ cond (same_kind kinds.Interface (kind_of kind) && not (is_partial kind)) (Some (parent_number definitions kinds.Interface (parent_of kind))) None
  interface_agrees (InterfaceDefinition i) = by_partial i.partial
    where
      by_partial : (b : Bool) → option_map (λ (t : IfaceTerm). t.parent) (cond b None (Some (interface_of definitions i))) ≡ cond (not b) (Some (parent_number definitions kinds.Interface i.parent)) None
      by_partial true = refl
      by_partial false = refl
  interface_agrees kind = refl

  -- the dictionary that a name means is in the list
  pub dictionary_listed : (text : List ℕ) (k : ℕ) → meaning definitions text ≡ Some k → meant_kind definitions text ≡ Some kinds.Dictionary → number_among definitions kinds.Dictionary k < length (each_main definitions (dictionary_if definitions))
  dictionary_listed text k means is = subst (λ c. number_among definitions kinds.Dictionary k < c) (sym (chosen_count definitions kinds.Dictionary (dictionary_if definitions) (λ (d : DictTerm). d.parent) (λ d. dictionary_agrees d.kind))) (meant_below definitions kinds.Dictionary refl same_dictionary text k means is)

-- a merged list has a forest of dictionaries
pub merged_hierarchy : (defs : Defs) (fragments : List Fragment) → IsMerged defs fragments → IsHierarchy (dictionary_terms defs)
merged_hierarchy defs fragments merged =
    let definitions = definitions_of fragments in
    subst IsForest (sym (ap (λ (t : DefsTerm). dictionary_parents t.dicts) merged.merged ∙ chosen_parents definitions kinds.Dictionary (dictionary_if definitions) (λ (d : DictTerm). d.parent) (λ d. dictionary_agrees definitions d.kind)))
    (mains_forest definitions kinds.Dictionary refl same_dictionary (merged.unbroken.merging rule.ParentOfOtherKind) (merged.unbroken.merging rule.InheritsFromItself))

-- and one of interfaces
pub merged_interfaces : (defs : Defs) (fragments : List Fragment) → IsMerged defs fragments → IsForest (interface_parents (defs_term defs).ifaces)
merged_interfaces defs fragments merged =
    let definitions = definitions_of fragments in
    subst IsForest (sym (ap (λ (t : DefsTerm). interface_parents t.ifaces) merged.merged ∙ chosen_parents definitions kinds.Interface (interface_if definitions) (λ (i : IfaceTerm). i.parent) (λ d. interface_agrees definitions d.kind)))
    (mains_forest definitions kinds.Interface refl same_interface (merged.unbroken.merging rule.ParentOfOtherKind) (merged.unbroken.merging rule.InheritsFromItself))
