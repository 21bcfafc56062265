-- What a type means has unions of no more members than are written somewhere, so 32 bits can number them.
use Rattle.std.proofs.Common.{◌≡◌, ℕ, zero, suc, ◌+◌, ◌<◌, ◌≤◌, ◌++◌, Bool, true, false, cond, List, [], ◌∷◌, length, slice_get, Option, None, Some, arith, refl, sym, ap, subst}
use Rattle.std.proofs.lemmas.List.{length-append}
use Rattle.widl_text.specs.declared.place.Place.{Place}
use Rattle.widl_idl.specs.declared.kind.Kind.{Kind}
use Rattle.widl_idl.specs.declared.kind.Kind.TheVariants as kinds
use Rattle.widl_idl.specs.declared.tree.types.Container.{Container}
use Rattle.widl_idl.specs.declared.tree.types.Container.TheVariants as container
use Rattle.widl_idl.specs.Counts.{NumberedMembers, NumberedType, member_count}
use Rattle.widl_idl.specs.Meanings.{meaning, meant_kind}
use Rattle.widl_idl.specs.Nodes.{Node, TypeNode, nodes_of_annotated, nodes_of_attributes, nodes_of_form, nodes_of_type, nodes_of_union}
use Rattle.widl_idl.specs.PlainTrees.{PlainDefinition}
use Rattle.widl_idl.specs.PlainTypes.{PlainAnnotated, PlainContainer, PlainForm, PlainMembers, PlainNamed, PlainPromise, PlainRecord, PlainType, PlainUnion, plain_annotated, plain_type, no_plain, more_plain}
use Rattle.widl_idl.specs.Resolution.{Note, NullableOf, PromiseOf, RecordOf, SequenceOf, Typedef, TypedefName, UnionOf, WithoutParts, WrittenMembers, WrittenType, annotated, is_nullable_twice, nullable_of, no_members, more_members, resolve, resolved, resolved_members, resolved_typedef, typedef_in}
use Rattle.widl_idl.specs.Terms.{TypeTerm, IntegerType, NullableType, StringType}
use Rattle.widl_idl.specs.WrittenTypes.{container_of, meaning_of_annotated, meaning_of_type, notes_of, nullable_if, type_of_meaning, typedefs, written_form, written_members, written_type}

-- nodes that 32 bits can count
abbrev pub Fits : List Node → Type 0
Fits nodes = length nodes < 4294967296

pub fits_left : (a b : List Node) → Fits (a ++ b) → Fits a
fits_left a b fits = let both = length-append a b in omega (arith, both, fits)

pub fits_right : (a b : List Node) → Fits (a ++ b) → Fits b
fits_right a b fits = let both = length-append a b in omega (arith, both, fits)

pub fits_rest : (n : Node) (nodes : List Node) → Fits (n ∷ nodes) → Fits nodes
fits_rest n nodes fits = omega (arith, fits)

abbrev written_length : WrittenMembers → ℕ
written_length no_members = 0
written_length (more_members notes t members) = written_length members + 1

abbrev mutual
  -- a written type of which each union has few members
  pub FewWritten : WrittenType → Type 0
  FewWritten (WithoutParts t) = NumberedType t
  FewWritten (TypedefName n) = Unit {0}
  FewWritten (SequenceOf notes t) = FewWritten t
  FewWritten (RecordOf key notes t) = FewWritten t
  FewWritten (PromiseOf t) = FewWritten t
  FewWritten (NullableOf t) = FewWritten t
  FewWritten (UnionOf members) = (written_length members < 4294967296) × EachFew members

  pub EachFew : WrittenMembers → Type 0
  EachFew no_members = Unit {0}
  EachFew (more_members notes t members) = FewWritten t × EachFew members

annotated_numbered : (notes : List Note) (t : TypeTerm) → NumberedType t → NumberedType (annotated notes t)
annotated_numbered notes (IntegerType kind mode) numbered = tt
annotated_numbered notes (StringType kind null_empty) numbered = tt
annotated_numbered notes t numbered = numbered

nullable_numbered : (t : TypeTerm) → NumberedType t → NumberedType (nullable_of t)
nullable_numbered t numbered = by (is_nullable_twice t)
  where
    by : (b : Bool) → NumberedType (cond b t (NullableType t))
    by true = numbered
    by false = numbered

module _ (typedef : ℕ → List Note → TypeTerm) (few : (n : ℕ) (notes : List Note) → NumberedType (typedef n notes)) where
  resolved_count : (members : WrittenMembers) → member_count (resolved_members typedef members) ≡ written_length members
  resolved_count no_members = refl
  resolved_count (more_members notes t members) = ap (λ n. n + 1) (resolved_count members)

  mutual
    pub resolved_numbered : (notes : List Note) (t : WrittenType) → FewWritten t → NumberedType (resolved typedef notes t)
    resolved_numbered notes (WithoutParts t) so = annotated_numbered notes t so
    resolved_numbered notes (TypedefName n) so = few n notes
    resolved_numbered notes (SequenceOf own t) so = resolved_numbered own t so
    resolved_numbered notes (RecordOf key own t) so = resolved_numbered own t so
    resolved_numbered notes (PromiseOf t) so = resolved_numbered [] t so
    resolved_numbered notes (NullableOf t) so = nullable_numbered (resolved typedef notes t) (resolved_numbered notes t so)
    resolved_numbered notes (UnionOf members) so = (subst (λ n. n < 4294967296) (sym (resolved_count members)) so.0, members_numbered members so.1)

    members_numbered : (members : WrittenMembers) → EachFew members → NumberedMembers (resolved_members typedef members)
    members_numbered no_members so = tt
    members_numbered (more_members own t members) so = (resolved_numbered own t so.0, members_numbered members so.1)

-- typedefs whose types have unions of few members
abbrev pub FewTypedefs : List Typedef → Type 0
FewTypedefs all = (n : ℕ) (t : Typedef) → slice_get all n ≡ Some t → FewWritten t.written

module _ (all : List Typedef) (few : FewTypedefs all) where
  typedef_numbered : (levels n : ℕ) (notes : List Note) → NumberedType (typedef_in all levels n notes)
  typedef_numbered zero n notes = tt
  typedef_numbered (suc levels) n notes = by (slice_get all n) refl (typedef_numbered levels)
    where
      by : (found : Option Typedef) → slice_get all n ≡ found → ((other : ℕ) (more : List Note) → NumberedType (typedef_in all levels other more)) → NumberedType (resolved_typedef (typedef_in all levels) notes found)
      by None is inner = tt
      by (Some t) is inner = resolved_numbered (typedef_in all levels) inner (notes ++ t.notes) t.written (few n t is)

  pub resolve_numbered : (notes : List Note) (t : WrittenType) → FewWritten t → NumberedType (resolve all notes t)
  resolve_numbered notes t so = resolved_numbered (typedef_in all (length all)) (typedef_numbered (length all)) notes t so

-- each member of a union is a node of its own
pub one_type : (t : PlainType) → 1 ≤ length (nodes_of_type t)
one_type (plain_type at form question) = omega arith

pub one_annotated : (t : PlainAnnotated) → 1 ≤ length (nodes_of_annotated t)
one_annotated (plain_annotated at attributes inner) = let both = length-append (nodes_of_attributes attributes) (nodes_of_type inner) in let one = one_type inner in omega (arith, both, one)

container_few : (c : Container) (notes : List Note) (t : WrittenType) → FewWritten t → FewWritten (container_of c notes t)
container_few container.Sequence notes t so = so
container_few c notes t so = tt

nullable_few : (question : Option Place) (t : WrittenType) → FewWritten t → FewWritten (nullable_if question t)
nullable_few None t so = so
nullable_few (Some at) t so = so

module _ (definitions : List PlainDefinition) where
  named_few : (number : Option ℕ) (kind : Option Kind) → FewWritten (type_of_meaning definitions number kind)
  named_few None kind = tt
  named_few (Some number) None = tt
  named_few (Some number) (Some kinds.Typedef) = tt
  named_few (Some number) (Some kind) = tt

  written_count_few : (members : PlainMembers) → written_length (written_members definitions members) ≤ length (nodes_of_union members)
  written_count_few no_plain = omega arith
  written_count_few (more_plain (plain_annotated at attributes inner) more) =
      let rest = written_count_few more in
      let one = one_annotated (plain_annotated at attributes inner) in
      let both = length-append (nodes_of_annotated (plain_annotated at attributes inner)) (nodes_of_union more) in
      omega (arith, rest, one, both)

  mutual
    form_few : (form : PlainForm) → Fits (nodes_of_form form) → FewWritten (written_form definitions form)
    form_few (PlainNamed name) fits = named_few (meaning definitions name.text) (meant_kind definitions name.text)
    form_few (PlainContainer c (plain_annotated at attributes inner)) fits = container_few c (notes_of attributes) (written_type definitions inner) (type_few inner (fits_right (nodes_of_attributes attributes) (nodes_of_type inner) fits))
    form_few (PlainRecord key (plain_annotated at attributes inner)) fits = type_few inner (fits_right (nodes_of_attributes attributes) (nodes_of_type inner) fits)
    form_few (PlainPromise inner) fits = type_few inner fits
    form_few (PlainUnion members) fits = (let few = written_count_few members in omega (arith, few, fits), union_few members fits)
    form_few form fits = tt

    -- a type of few nodes
    pub type_few : (t : PlainType) → Fits (nodes_of_type t) → FewWritten (written_type definitions t)
    type_few (plain_type at form question) fits = nullable_few question (written_form definitions form) (form_few form (fits_rest (TypeNode (plain_type at form question)) (nodes_of_form form) fits))

    union_few : (members : PlainMembers) → Fits (nodes_of_union members) → EachFew (written_members definitions members)
    union_few no_plain fits = tt
    union_few (more_plain (plain_annotated at attributes inner) more) fits =
        let here = fits_left (nodes_of_annotated (plain_annotated at attributes inner)) (nodes_of_union more) fits in
        let rest = fits_right (nodes_of_annotated (plain_annotated at attributes inner)) (nodes_of_union more) fits in
        (type_few inner (fits_right (nodes_of_attributes attributes) (nodes_of_type inner) here), union_few more rest)

  module _ (few : FewTypedefs (typedefs definitions)) where
    -- what a type of few nodes means
    pub type_numbered : (notes : List Note) (t : PlainType) → Fits (nodes_of_type t) → NumberedType (meaning_of_type definitions notes t)
    type_numbered notes t fits = resolve_numbered (typedefs definitions) few notes (written_type definitions t) (type_few t fits)

    pub annotated_type_numbered : (notes : List Note) (t : PlainAnnotated) → Fits (nodes_of_annotated t) → NumberedType (meaning_of_annotated definitions notes t)
    annotated_type_numbered notes (plain_annotated at attributes inner) fits = type_numbered (notes ++ notes_of attributes) inner (fits_right (nodes_of_attributes attributes) (nodes_of_type inner) fits)
