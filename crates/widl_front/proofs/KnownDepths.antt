-- A type that is written has a depth where each name in a type is that of a type and no typedef reaches itself.
use Rattle.std.proofs.Common.{◌≡◌, ◌⊎◌, inl, inr, ℕ, ◌+◌, ◌<◌, ◌++◌, true, zero, suc, List, [], ◌∷◌, length, slice_get, Option, None, Some, option_map, arith, refl, sym, ap, subst, ◌∙◌}
use Rattle.std.specs.List.{Contains}
use Rattle.std.proofs.lemmas.List.Elements.{Contains-append_left, Contains-append_right}
use Rattle.std.proofs.lemmas.Option.{get_or_from_slice_get, slice_get_within}
use Rattle.widl_graph.specs.Reaching.{IsAcyclic, Reaches, ReachesItself, Step}
use Rattle.widl_graph.proofs.Reach.{first_step}
use Rattle.widl_idl.specs.Meanings.{declared_name, kind_of, meant, meant_kind}
use Rattle.widl_idl.specs.MergingRules.{is_type_kind}
use Rattle.widl_idl.specs.Nesting.{annotated_depth, annotated_names, deeper, depth_of, form_depth, form_names, meant_depth, named_depth, one_deeper, type_depth, type_names, typedef_links, typedefs_in, union_depth, union_names}
use Rattle.widl_idl.specs.Nodes.{Node, TypeNode, nodes_inside, nodes_of, nodes_of_annotated, nodes_of_attributes, nodes_of_definition, nodes_of_optional_name}
use Rattle.widl_idl.specs.PlainTrees.{PlainDefinition, PlainKind, PlainTypedef, MixinDefinition, NamespaceDefinition, TypedefDefinition}
use Rattle.widl_idl.specs.PlainTypes.{PlainName, PlainForm, PlainType, PlainAnnotated, PlainMembers, PlainNamed, PlainContainer, PlainRecord, PlainPromise, PlainUnion, plain_type, plain_annotated, no_plain, more_plain}
use Rattle.widl_merge.proofs.TypedefLinks.{flat_has, kind_of_number, link_named, links_at, links_of, meant_at}
use Rattle.widl_front.proofs.NodeParts.{IsNamedIn, annotated_named, type_named, written_parts}
use Rattle.widl_graph.proofs.Ways.{IsWay, few}

none_inside : (d : Option ℕ) → one_deeper d ≡ None → d ≡ None
none_inside None e = refl
none_inside (Some n) e = absurd (cc)

none_of_both : (a b : Option ℕ) → deeper a b ≡ None → (a ≡ None) ⊎ (b ≡ None)
none_of_both None b e = inl refl
none_of_both (Some m) None e = inr refl
none_of_both (Some m) (Some n) e = absurd (cc)

-- a type without a depth has a name without one
module _ (named : PlainName → Option ℕ) where
  abbrev HasUnknown : List PlainName → Type 0
  HasUnknown names = (name : PlainName) × Contains names name × (named name ≡ None)

  mutual
    form_unknown : (form : PlainForm) → form_depth named form ≡ None → HasUnknown (form_names form)
    form_unknown (PlainNamed name) e = (name, (0, omega arith, refl), e)
    form_unknown (PlainContainer kind inner) e = annotated_unknown inner (none_inside (annotated_depth named inner) e)
    form_unknown (PlainRecord key inner) e = annotated_unknown inner (none_inside (annotated_depth named inner) e)
    form_unknown (PlainPromise inner) e = type_unknown inner (none_inside (type_depth named inner) e)
    form_unknown (PlainUnion members) e = union_unknown members (none_inside (union_depth named members) e)
    form_unknown form e = absurd (cc)

    pub type_unknown : (t : PlainType) → type_depth named t ≡ None → HasUnknown (type_names t)
    type_unknown (plain_type at form question) e = form_unknown form e

    pub annotated_unknown : (t : PlainAnnotated) → annotated_depth named t ≡ None → HasUnknown (annotated_names t)
    annotated_unknown (plain_annotated at attributes inner) e = type_unknown inner e

    union_unknown : (members : PlainMembers) → union_depth named members ≡ None → HasUnknown (union_names members)
    union_unknown no_plain e = absurd (cc)
    union_unknown (more_plain member others) e = elim (none_of_both (annotated_depth named member) (union_depth named others) e) [
      | inl l ↦ let h = annotated_unknown member l in (h.0, Contains-append_left (annotated_names member) (union_names others) h.0 h.1, h.2)
      | inr r ↦ let h = union_unknown others r in (h.0, Contains-append_right (annotated_names member) (union_names others) h.0 h.1, h.2)
    ]

definition_at : (ds : List PlainDefinition) (x : ℕ) (kind : PlainKind) → kind_of_number ds x ≡ Some kind → (d : PlainDefinition) × (slice_get ds x ≡ Some d) × (d.kind ≡ kind)
definition_at ds x kind e = by_found (slice_get ds x) refl e
  where
    kind_is : (d : PlainDefinition) → Some d.kind ≡ Some kind → d.kind ≡ kind
    kind_is d h = (cc)

    by_found : (found : Option PlainDefinition) → slice_get ds x ≡ found → option_map (λ d. d.kind) found ≡ Some kind → (d : PlainDefinition) × (slice_get ds x ≡ Some d) × (d.kind ≡ kind)
    by_found None is h = absurd (cc)
    by_found (Some d) is h = (d, is, kind_is d h)

module _ (definitions : List PlainDefinition) where
  typedef_nodes : (x : ℕ) (t : PlainTypedef) (n : Node) → kind_of_number definitions x ≡ Some (TypedefDefinition t) → Contains (nodes_of_annotated t.ty) n → Contains (nodes_of definitions) n
  typedef_nodes x t n is c =
      let d = definition_at definitions x (TypedefDefinition t) is in
      let attributes = nodes_of_attributes d.0.attributes in
      let name = nodes_of_optional_name (declared_name d.0.kind) in
      let inside = nodes_inside d.0.kind in
      let listed : Contains inside n = subst (λ k. Contains (nodes_inside k) n) (sym d.2) c in
      flat_has nodes_of_definition definitions d.0 n (x, slice_get_within definitions x d.0 d.1, get_or_from_slice_get definitions x d.0 d.0 d.1) (Contains-append_right attributes (name ++ inside) n (Contains-append_right name inside n listed))

  -- what comes back to itself is a typedef
  pub cyclic_typedef : (x : ℕ) → ReachesItself (typedef_links definitions) x → (d : PlainDefinition) × (t : PlainTypedef) × (slice_get definitions x ≡ Some d) × (d.kind ≡ TypedefDefinition t)
  cyclic_typedef x back = by_kind (kind_of_number definitions x) refl (subst (λ ys. Contains ys next.0) (links_at (typedefs_in definitions) definitions x) next.1)
    where
      next : (y : ℕ) × Step (typedef_links definitions) x y × ((y ≡ x) ⊎ Reaches (typedef_links definitions) y x)
      next = first_step back

      by_kind : (kind : Option PlainKind) → kind_of_number definitions x ≡ kind → Contains (links_of (typedefs_in definitions) kind) next.0 → (d : PlainDefinition) × (t : PlainTypedef) × (slice_get definitions x ≡ Some d) × (d.kind ≡ TypedefDefinition t)
      by_kind (Some (TypedefDefinition t)) is c = let d = definition_at definitions x (TypedefDefinition t) is in (d.0, t, d.1, d.2)
      by_kind kind is c = absurd (let l = c.1 in omega (arith, l))

  -- the name of a type that has no depth is a typedef's, whose type has none
  unknown_typedef : (levels : ℕ) (name : PlainName) → is_type_kind (meant_kind definitions name.text) ≡ true → named_depth definitions (suc levels) name ≡ None → (t : PlainTypedef) × (meant definitions name.text ≡ Some (TypedefDefinition t)) × (annotated_depth (named_depth definitions levels) t.ty ≡ None)
  unknown_typedef levels name typed e = by_kind (meant definitions name.text) refl typed e
    where
      by_kind : (kind : Option PlainKind) → meant definitions name.text ≡ kind → is_type_kind (option_map kind_of kind) ≡ true → meant_depth (annotated_depth (named_depth definitions levels)) kind ≡ None → (t : PlainTypedef) × (meant definitions name.text ≡ Some (TypedefDefinition t)) × (annotated_depth (named_depth definitions levels) t.ty ≡ None)
      by_kind None is typed h = absurd (cc)
      by_kind (Some (TypedefDefinition t)) is typed h = (t, is, h)
      by_kind (Some (MixinDefinition m)) is typed h = absurd (cc)
      by_kind (Some (NamespaceDefinition n)) is typed h = absurd (cc)
      by_kind (Some kind) is typed h = absurd (cc)

  module _ (typed : (name : PlainName) → IsNamedIn (nodes_of definitions) name → is_type_kind (meant_kind definitions name.text) ≡ true) (acyclic : IsAcyclic (typedef_links definitions)) where
    abbrev IsLinked : ℕ → List ℕ → Type 0
    IsLinked = IsWay (typedef_links definitions) (length definitions)

    below : (x : ℕ) (kind : PlainKind) → kind_of_number definitions x ≡ Some kind → x < length definitions
    below x kind is = let d = definition_at definitions x kind is in slice_get_within definitions x d.0 d.1

    -- from a typedef whose type has no depth at so many levels as many typedefs lead on
    linked_on : (levels x : ℕ) (t : PlainTypedef) → kind_of_number definitions x ≡ Some (TypedefDefinition t) → annotated_depth (named_depth definitions levels) t.ty ≡ None → (xs : List ℕ) × IsLinked x xs × (length xs ≡ levels)
    linked_on zero x t is e = ([], below x (TypedefDefinition t) is, refl)
    linked_on (suc levels) x t is e =
        let unknown = annotated_unknown (named_depth definitions (suc levels)) t.ty e in
        let name = unknown.0 in
        let node = annotated_named t.ty name unknown.1 in
        let u = unknown_typedef levels name (typed name (node.0, node.1, typedef_nodes x t (TypeNode (plain_type node.0 (PlainNamed name) node.1)) is node.2)) unknown.2 in
        let y = meant_at definitions name.text (TypedefDefinition u.0) u.1 in
        let rest = linked_on levels y.0 u.0 y.2 u.2 in
        let size = rest.2 in
        (y.0 ∷ rest.0, (below x (TypedefDefinition t) is, link_named definitions x y.0 t u.0 name is unknown.1 y.1 u.1, rest.1), omega (arith, size))

    pub depth_known : (t : PlainType) → Contains (nodes_of definitions) (TypeNode t) → (depth : ℕ) × (depth_of definitions t ≡ Some depth)
    depth_known t listed = by_depth (depth_of definitions t) refl
      where
        by_depth : (found : Option ℕ) → depth_of definitions t ≡ found → (depth : ℕ) × (depth_of definitions t ≡ Some depth)
        by_depth (Some depth) is = (depth, is)
        by_depth None is =
            let levels : length definitions + 1 ≡ suc (length definitions) = omega arith in
            let unknown = type_unknown (named_depth definitions (suc (length definitions))) t (ap (λ l. type_depth (named_depth definitions l) t) (sym levels) ∙ is) in
            let name = unknown.0 in
            let node = type_named t name unknown.1 in
            let u = unknown_typedef (length definitions) name (typed name (node.0, node.1, written_parts definitions t (TypeNode (plain_type node.0 (PlainNamed name) node.1)) listed node.2)) unknown.2 in
            let y = meant_at definitions name.text (TypedefDefinition u.0) u.1 in
            let way = linked_on (length definitions) y.0 u.0 y.2 u.2 in
            let size = way.2 in
            let most = few (typedef_links definitions) (length definitions) acyclic y.0 way.0 way.1 in
            absurd (omega (arith, size, most))
