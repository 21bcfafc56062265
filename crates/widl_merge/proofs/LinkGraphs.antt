-- The links between definitions as graphs: what each leads to is a definition.
use Rattle.std.proofs.Common.{◌≡◌, inl, inr, ℕ, ◌<◌, ◌++◌, cond, List, [], ◌∷◌, length, Option, None, Some, option_map, refl, sym, ap, ◌∙◌}
use Rattle.std.specs.Prelude.{option_to_list}
use Rattle.std.specs.List.{Contains, flat_map}
use Rattle.std.proofs.lemmas.Grind.{flat_map-append}
use Rattle.std.proofs.lemmas.List.Elements.{Contains-append_cases}
use Rattle.widl_names.proofs.NameMeanings.{meaning_below}
use Rattle.widl_names.proofs.ParentGraphs.{AllBelow, links_within, none_in, none_listed, one_in}
use Rattle.widl_graph.specs.Reaching.{AreNodes}
use Rattle.widl_idl.specs.declared.kind.Kind.TheVariants as kinds
use Rattle.widl_idl.specs.declared.tree.types.AnnotatedType.{AnnotatedType}
use Rattle.widl_idl.specs.Meanings.{meaning, meant, kind_of, same_kind}
use Rattle.widl_idl.specs.MergingRules.{is_kind}
use Rattle.widl_idl.specs.Nesting.{typedef_links, typedef_named, typedefs_in, number_if_typedef, annotated_names, union_names}
use Rattle.widl_idl.specs.PlainTypes.{PlainName, annotated_of, union_of}
use Rattle.widl_idl.specs.PlainTrees.{PlainDefinition, PlainKind, TypedefDefinition}

-- the number that a name means, where that is of a typedef
pub typedef_listed : (number : Option ℕ) (kind : Option PlainKind) → option_to_list (cond (is_kind kinds.Typedef (option_map kind_of kind)) number None) ≡ number_if_typedef number kind
typedef_listed (Some n) (Some (TypedefDefinition d)) = refl
typedef_listed (Some n) (Some kind) = refl
typedef_listed (Some n) None = refl
typedef_listed None (Some kind) = none_listed (same_kind kinds.Typedef (kind_of kind))
typedef_listed None None = refl

module _ (definitions : List PlainDefinition) where
  if_typedef : (number : Option ℕ) (kind : Option PlainKind) → ((k : ℕ) → number ≡ Some k → k < length definitions) → AllBelow (length definitions) (number_if_typedef number kind)
  if_typedef (Some k) (Some (TypedefDefinition d)) l = one_in (length definitions) k (l k refl)
  if_typedef number kind l = none_in (length definitions)

  named_below : (names : List PlainName) → AllBelow (length definitions) (flat_map (typedef_named definitions) names)
  named_below [] y c = none_in (length definitions) y c
  named_below (name ∷ more) y c = elim (Contains-append_cases (typedef_named definitions name) (flat_map (typedef_named definitions) more) y c) [ inl l ↦ if_typedef (meaning definitions name.text) (meant definitions name.text) (meaning_below definitions name.text) y l | inr r ↦ named_below more y r ]

  typedefs_below : (kind : PlainKind) → AllBelow (length definitions) (typedefs_in definitions kind)
  typedefs_below (TypedefDefinition d) = named_below (annotated_names d.ty)
  typedefs_below kind = none_in (length definitions)

  pub typedefs_are_nodes : AreNodes (typedef_links definitions)
  typedefs_are_nodes = links_within definitions (λ d. typedefs_in definitions d.kind) (λ d. typedefs_below d.kind)

-- what the names in a union's members give, as a loop over the members has it
pub union_named : (g : PlainName → List ℕ) (members : List AnnotatedType) → flat_map (λ m. flat_map g (annotated_names (annotated_of m))) members ≡ flat_map g (union_names (union_of members))
union_named g [] = refl
union_named g (m ∷ members) = ap (λ l. flat_map g (annotated_names (annotated_of m)) ++ l) (union_named g members) ∙ sym (flat_map-append g (annotated_names (annotated_of m)) (union_names (union_of members)))
