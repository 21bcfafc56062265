-- What types mean has at most as many levels as their depths tell.
use Rattle.std.proofs.Common.{◌≡◌, ℕ, ◌+◌, ◌≤◌, ◌++◌, Bool, true, false, cond, nat_lt, zero, suc, max, List, [], length, Option, None, Some, option_map, arith, refl, sym, ap, subst, ◌∙◌}
use Rattle.std.specs.List.{Contains}
use Rattle.widl_graph.specs.Reaching.{ReachesItself}
use Rattle.widl_text.specs.Limits.{most_type_levels}
use Rattle.widl_idl.specs.declared.kind.Kind.{Kind}
use Rattle.widl_idl.specs.declared.kind.Kind.TheVariants as kinds
use Rattle.widl_idl.specs.declared.merging_rule.MergingRule.{MergingRule}
use Rattle.widl_idl.specs.declared.merging_rule.MergingRule.TheVariants as rule
use Rattle.widl_idl.specs.declared.tree.fragments.Fragment.{Fragment}
use Rattle.widl_idl.specs.declared.tree.types.Container.{Container}
use Rattle.widl_idl.specs.declared.tree.types.Container.TheVariants as container
use Rattle.widl_idl.specs.declared.violation.Violation.{Violation}
use Rattle.widl_idl.specs.First.{FirstWhere, violation_at}
use Rattle.widl_idl.specs.Meanings.{declared_name, definitions_of, kind_of, meaning, meant, meant_kind}
use Rattle.widl_idl.specs.MergingRules.{AtName, BreaksMerging, is_kind, is_type_kind}
use Rattle.widl_idl.specs.MergedSets.{IsUnbroken}
use Rattle.widl_idl.specs.Nesting.{annotated_depth, deeper, depth_of, form_depth, meant_depth, named_depth, one_deeper, type_depth, typedef_links, union_depth}
use Rattle.widl_idl.specs.Nodes.{TypeNode, nodes_of}
use Rattle.widl_idl.specs.PlainTrees.{PlainDefinition, PlainKind, PlainTypedef, MixinDefinition, NamespaceDefinition, TypedefDefinition}
use Rattle.widl_idl.specs.PlainTypes.{PlainName, PlainForm, PlainType, PlainAnnotated, PlainMembers, PlainNamed, PlainContainer, PlainRecord, PlainPromise, PlainUnion, plain_type, plain_annotated, no_plain, more_plain}
use Rattle.widl_idl.specs.Resolution.{Note, WrittenType, is_nullable_twice, nullable_of, resolved, resolved_members, typedef_in}
use Rattle.widl_idl.specs.Terms.{TypeTerm, NullableType}
use Rattle.widl_idl.specs.WrittenTypes.{container_of, meaning_of_type, named_type, notes_of, type_of_meaning, typedefs, written_form, written_members, written_type}
use Rattle.widl_front.specs.TypeLevels.{levels, most_levels}
use Rattle.widl_names.specs.TypeUses.{form_meaning, is_followed, meaning_at, notes_in, question_count, questioned, type_in, where_left, without_parts}
use Rattle.widl_front.proofs.KnownDepths.{cyclic_typedef, depth_known}
use Rattle.widl_front.proofs.NodeParts.{IsNamedIn}
use Rattle.widl_names.proofs.TypeUses.{named_last, nullable_written, typedef_means}

some_is : {a b : ℕ} → Some a ≡ Some b → a ≡ b
some_is e = (cc)

-- a type around another one
around : (inner : Option ℕ) (depth : ℕ) → one_deeper inner ≡ Some depth → (d : ℕ) × (inner ≡ Some d) × (d + 1 ≡ depth)
around None depth e = absurd (cc)
around (Some d) depth e = (d, refl, some_is e)

-- the deeper of two types
of_both : (first more : Option ℕ) (depth : ℕ) → deeper first more ≡ Some depth → (m : ℕ) × (n : ℕ) × (first ≡ Some m) × (more ≡ Some n) × (max m n ≡ depth)
of_both None more depth e = absurd (cc)
of_both (Some m) None depth e = absurd (cc)
of_both (Some m) (Some n) depth e = (m, n, refl, refl, some_is e)

-- each type has a level
one_level : (t : TypeTerm) → 1 ≤ levels t
one_level (NullableType t) = one_level t
one_level t = omega arith

levels_nullable : (t : TypeTerm) → levels (nullable_of t) ≡ levels t
levels_nullable t = go (is_nullable_twice t)
  where
    go : (b : Bool) → levels (cond b t (NullableType t)) ≡ levels t
    go true = refl
    go false = refl

levels_questioned : (n : ℕ) (t : TypeTerm) → levels (questioned n t) ≡ levels t
levels_questioned zero t = refl
levels_questioned (suc n) t = levels_nullable (questioned n t) ∙ levels_questioned n t

-- where what a name means has at most as many levels as its depth tells, so has what a type means
module _ (definitions : List PlainDefinition) (named : PlainName → Option ℕ) (typedef : ℕ → List Note → TypeTerm) where
  abbrev AreKept : Type 0
  AreKept = (name : PlainName) (depth : ℕ) (notes : List Note) → named name ≡ Some depth → levels (resolved typedef notes (named_type definitions name)) ≤ depth

  container_kept : (kind : Container) (notes own : List Note) (w : WrittenType) (inner depth : ℕ) → levels (resolved typedef own w) ≤ inner → inner + 1 ≡ depth → levels (resolved typedef notes (container_of kind own w)) ≤ depth
  container_kept container.Sequence notes own w inner depth l e = omega (arith, l, e)
  container_kept kind notes own w inner depth l e = omega (arith, e)

  module _ (kept : AreKept) where
    mutual
      form_kept : (form : PlainForm) (depth : ℕ) (notes : List Note) → form_depth named form ≡ Some depth → levels (resolved typedef notes (written_form definitions form)) ≤ depth
      form_kept (PlainNamed name) depth notes e = kept name depth notes e
      form_kept (PlainContainer kind (plain_annotated at attributes inner)) depth notes e =
          let d = around (type_depth named inner) depth e in
          container_kept kind notes (notes_of attributes) (written_type definitions inner) d.0 depth (type_kept inner d.0 (notes_of attributes) d.1) d.2
      form_kept (PlainRecord key (plain_annotated at attributes inner)) depth notes e =
          let d = around (type_depth named inner) depth e in
          let below = type_kept inner d.0 (notes_of attributes) d.1 in
          let next = d.2 in
          omega (arith, below, next)
      form_kept (PlainPromise inner) depth notes e =
          let d = around (type_depth named inner) depth e in
          let below = type_kept inner d.0 [] d.1 in
          let next = d.2 in
          omega (arith, below, next)
      form_kept (PlainUnion members) depth notes e =
          let d = around (union_depth named members) depth e in
          let below = union_kept members d.0 d.1 in
          let next = d.2 in
          omega (arith, below, next)
      form_kept form depth notes e = let one : 1 ≡ depth = some_is e in omega (arith, one)

      pub type_kept : (t : PlainType) (depth : ℕ) (notes : List Note) → type_depth named t ≡ Some depth → levels (resolved typedef notes (written_type definitions t)) ≤ depth
      type_kept (plain_type at form question) depth notes e =
          let same = ap levels (nullable_written typedef notes question (written_form definitions form)) ∙ levels_questioned (question_count question) (resolved typedef notes (written_form definitions form)) in
          let below = form_kept form depth notes e in
          omega (arith, same, below)

      union_kept : (members : PlainMembers) (depth : ℕ) → union_depth named members ≡ Some depth → most_levels (resolved_members typedef (written_members definitions members)) ≤ depth
      union_kept no_plain depth e = omega arith
      union_kept (more_plain (plain_annotated at attributes inner) more) depth e =
          let d = of_both (type_depth named inner) (union_depth named more) depth e in
          let first = type_kept inner d.0 (notes_of attributes) d.2 in
          let others = union_kept more d.1 d.3 in
          let deepest = d.4 in
          omega (arith, first, others, deepest)

    annotated_kept : (t : PlainAnnotated) (depth : ℕ) (notes : List Note) → annotated_depth named t ≡ Some depth → levels (resolved typedef notes (written_type definitions (type_in t))) ≤ depth
    annotated_kept (plain_annotated at attributes inner) depth notes e = type_kept inner depth notes e

none_left : (down : ℕ) → where_left down false ≡ false
none_left zero = refl
none_left (suc down) = refl

module _ (definitions : List PlainDefinition) where
  one_of_meaning : (number : Option ℕ) (kind : Option Kind) → levels (without_parts (type_of_meaning definitions number kind)) ≡ 1
  one_of_meaning (Some n) (Some kinds.Typedef) = refl
  one_of_meaning (Some n) (Some kind) = refl
  one_of_meaning number kind = refl

  -- a name that is not followed means a type of one level
  one_of_name : (down : ℕ) (notes : List Note) (name : PlainName) → is_followed definitions down (PlainNamed name) ≡ false → levels (form_meaning definitions down notes (PlainNamed name)) ≡ 1
  one_of_name down notes name e = ap levels (named_last definitions down notes name e) ∙ one_of_meaning (meaning definitions name.text) (meant_kind definitions name.text)

  abbrev NamesAreKept : ℕ → ℕ → Type 0
  NamesAreKept depths down = AreKept definitions (named_depth definitions depths) (typedef_in (typedefs definitions) down)

  -- a typedef's name is kept to its depth where the names in the typedef's type are, however many levels down typedefs may lead
  typedef_kept : (depths down : ℕ) (name : PlainName) (t : PlainTypedef) (depth : ℕ) (notes : List Note) → ((l : ℕ) → NamesAreKept depths l) → meant definitions name.text ≡ Some (TypedefDefinition t) → annotated_depth (named_depth definitions depths) t.ty ≡ Some depth → levels (form_meaning definitions down notes (PlainNamed name)) ≤ depth
  typedef_kept depths zero name t depth notes kept is e =
      let below = annotated_kept definitions (named_depth definitions depths) (typedef_in (typedefs definitions) zero) (kept zero) t.ty depth [] e in
      let some = one_level (meaning_at definitions zero [] (type_in t.ty)) in
      let one = one_of_name zero notes name refl in
      omega (arith, below, some, one)
  typedef_kept depths (suc down) name t depth notes kept is e =
      let below = annotated_kept definitions (named_depth definitions depths) (typedef_in (typedefs definitions) down) (kept down) t.ty depth (notes ++ notes_in t.ty) e in
      let same = ap levels (typedef_means definitions down notes name t is) in
      omega (arith, below, same)

  meant_kept : (depths down : ℕ) (name : PlainName) (depth : ℕ) (notes : List Note) → ((l : ℕ) → NamesAreKept depths l) → (kind : Option PlainKind) → meant definitions name.text ≡ kind → meant_depth (annotated_depth (named_depth definitions depths)) kind ≡ Some depth → levels (form_meaning definitions down notes (PlainNamed name)) ≤ depth
  meant_kept depths down name depth notes kept None is e = absurd (cc)
  meant_kept depths down name depth notes kept (Some (TypedefDefinition t)) is e = typedef_kept depths down name t depth notes kept is e
  meant_kept depths down name depth notes kept (Some (MixinDefinition m)) is e = absurd (cc)
  meant_kept depths down name depth notes kept (Some (NamespaceDefinition n)) is e = absurd (cc)
  meant_kept depths down name depth notes kept (Some kind) is e =
      let one = one_of_name down notes name (ap (λ k. where_left down (is_kind kinds.Typedef (option_map kind_of k))) is ∙ none_left down) in
      let same : 1 ≡ depth = some_is e in
      omega (arith, one, same)

  names_kept : (depths down : ℕ) → NamesAreKept depths down
  names_kept zero down name depth notes e = absurd (cc)
  names_kept (suc depths) down name depth notes e = meant_kept depths down name depth notes (names_kept depths) (meant definitions name.text) refl e

  -- what a type means after any annotations
  pub meaning_kept : (notes : List Note) (t : PlainType) (depth : ℕ) → depth_of definitions t ≡ Some depth → levels (meaning_of_type definitions notes t) ≤ depth
  meaning_kept notes t depth e = type_kept definitions (named_depth definitions (length definitions + 1)) (typedef_in (typedefs definitions) (length (typedefs definitions))) (names_kept (length definitions + 1) (length (typedefs definitions))) t depth notes e

  -- no depth that is known is beyond the limit, where no type breaks the rule on levels
  depth_within : (t : PlainType) (depth : ℕ) → FirstWhere (BreaksMerging definitions rule.NestsTooDeep) None → Contains (nodes_of definitions) (TypeNode t) → depth_of definitions t ≡ Some depth → depth ≤ most_type_levels
  depth_within (plain_type place form question) depth unbroken listed e = by_test (nat_lt most_type_levels depth) refl
    where
      by_test : (b : Bool) → nat_lt most_type_levels depth ≡ b → depth ≤ most_type_levels
      by_test true is = absurd (unbroken (violation_at place) (record { item = TypeNode (plain_type place form question); listed = listed; breaks = ((depth, e, grind arith), refl) }))
      by_test false is = grind arith

  types_known : FirstWhere (BreaksMerging definitions rule.UnknownType) None → (name : PlainName) → IsNamedIn (nodes_of definitions) name → is_type_kind (meant_kind definitions name.text) ≡ true
  types_known unbroken name node = by_test (is_type_kind (meant_kind definitions name.text)) refl
    where
      by_test : (b : Bool) → is_type_kind (meant_kind definitions name.text) ≡ b → is_type_kind (meant_kind definitions name.text) ≡ true
      by_test true is = is
      by_test false is = absurd (unbroken (violation_at name.at) (record { item = TypeNode (plain_type node.0 (PlainNamed name) node.1); listed = node.2; breaks = (is, refl) }))

  typedefs_end : FirstWhere (BreaksMerging definitions rule.TypedefReachesItself) None → (x : ℕ) → ReachesItself (typedef_links definitions) x → ⊥
  typedefs_end unbroken x back =
      let d = cyclic_typedef definitions x back in
      unbroken (violation_at d.1.name.at) (record { number = x; definition = d.0; is = d.2; back = back; at_name = subst (λ k. AtName (declared_name k) (λ name. Unit {0}) (violation_at d.1.name.at)) (sym d.3) (tt, refl) })

  within_limit : (notes : List Note) (t : PlainType) → ((broken : MergingRule) (s : Violation) → BreaksMerging definitions broken s → ⊥) → Contains (nodes_of definitions) (TypeNode t) → levels (meaning_of_type definitions notes t) ≤ most_type_levels
  within_limit notes t unbroken listed =
      let depth = depth_known definitions (types_known (unbroken rule.UnknownType)) (typedefs_end (unbroken rule.TypedefReachesItself)) t listed in
      let below = meaning_kept notes t depth.0 depth.1 in
      let most = depth_within t depth.0 (unbroken rule.NestsTooDeep) listed depth.1 in
      omega (arith, below, most)

-- each type that is written in a set of files that breaks no rule means one of at most so many levels
pub meaning_within : (fragments : List Fragment) (notes : List Note) (t : PlainType) → IsUnbroken fragments → Contains (nodes_of (definitions_of fragments)) (TypeNode t) → levels (meaning_of_type (definitions_of fragments) notes t) ≤ most_type_levels
meaning_within fragments notes t unbroken listed = within_limit (definitions_of fragments) notes t unbroken.merging listed
