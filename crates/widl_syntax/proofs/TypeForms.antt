-- The terms of types, level by level.
use Rattle.std.proofs.Common.{◌≡◌, [], Box, Global, List, Option, ap, ◌∙◌, map, rules}
use Rattle.widl_text.specs.declared.place.Place.{Place}
use Rattle.widl_idl.specs.declared.int_kind.IntKind.{IntKind}
use Rattle.widl_idl.specs.declared.text_kind.TextKind.{TextKind}
use Rattle.widl_idl.specs.declared.tree.extended_attributes.ExtendedAttribute.{ExtendedAttribute}
use Rattle.widl_idl.specs.declared.tree.names.Name.{Name}
use Rattle.widl_idl.specs.declared.tree.types.AnnotatedType.{AnnotatedType, roll-AnnotatedType}
use Rattle.widl_idl.specs.declared.tree.types.Container.{Container}
use Rattle.widl_idl.specs.declared.tree.types.FloatKind.{FloatKind}
use Rattle.widl_idl.specs.declared.tree.types.TypeForm.{TypeForm, the_lemmas}
use Rattle.widl_idl.specs.declared.tree.types.TypeForm.TheVariants as form
use Rattle.widl_idl.specs.declared.tree.types.UnionMembers.{UnionMembers}
use Rattle.widl_idl.specs.declared.tree.types.WrittenType.{WrittenType, roll-WrittenType}
use Rattle.widl_idl.specs.PlainTypes.{form_term, type_of, annotated_of, plain_of, plain_inner}
use Rattle.widl_idl.specs.TypeTrees.{FormTree, AnyForm, BooleanForm, BigIntForm, IntegerForm, FloatForm, NamedForm, ContainerForm, RecordForm, PromiseForm, UnionForm, type_tree, annotated_tree, packed_members, form_of, tree_of_type, tree_of_annotated, trees_of_members}
use Rattle.widl_idl.specs.Written.{members_in}
use Rattle.widl_syntax.specs.Nesting.{form_levels, type_levels, annotated_levels}
use Rattle.widl_syntax.specs.Signs.{at, ◌⧺◌}
use Rattle.widl_syntax.specs.UnparsedNames.{extended_attributes}
use Rattle.widl_syntax.specs.UnparsedTypes.{form_signs, type_signs, annotated_signs, question_mark, inner_type, inner_annotated, within_levels, outer_annotated, written_type, annotated_type, bare_signs, bare_type}

pub form-Any : form_of form.Any ≡ AnyForm
form-Any = search (rules, the_lemmas)

pub form-Boolean : form_of form.Boolean ≡ BooleanForm
form-Boolean = search (rules, the_lemmas)

pub form-BigInt : form_of form.BigInt ≡ BigIntForm
form-BigInt = search (rules, the_lemmas)

pub form-Integer : (kind : IntKind) → form_of (form.Integer kind) ≡ IntegerForm kind
form-Integer kind = search (rules, the_lemmas)

pub form-Float : (kind : FloatKind) → form_of (form.Float kind) ≡ FloatForm kind
form-Float kind = search (rules, the_lemmas)

pub form-Named : (name : Name) → form_of (form.Named name) ≡ NamedForm name
form-Named name = search (rules, the_lemmas)

pub form-Container : (kind : Container) (element : Box AnnotatedType Global) → form_of (form.Container kind element) ≡ ContainerForm kind (tree_of_annotated element.value)
form-Container kind element = search (rules, the_lemmas)

pub form-Record : (key : TextKind) (value : Box AnnotatedType Global) → form_of (form.Record key value) ≡ RecordForm key (tree_of_annotated value.value)
form-Record key value = search (rules, the_lemmas)

pub form-Promise : (value : Box WrittenType Global) → form_of (form.Promise value) ≡ PromiseForm (tree_of_type value.value)
form-Promise value = search (rules, the_lemmas)

pub form-Union : (members : UnionMembers) → form_of (form.Union members) ≡ UnionForm (trees_of_members members)
form-Union members = search (rules, the_lemmas)

pub tree-WrittenType : (place : Place) (f : TypeForm) (question : Option Place) → tree_of_type (roll-WrittenType (record { at = place; form = f; question = question })) ≡ type_tree place (form_of f) question
tree-WrittenType place f question = search (rules, the_lemmas)

pub tree-AnnotatedType : (place : Place) (attributes : List ExtendedAttribute) (ty : WrittenType) → tree_of_annotated (roll-AnnotatedType (record { at = place; attributes = attributes; ty = ty })) ≡ annotated_tree place attributes (tree_of_type ty)
tree-AnnotatedType place attributes ty = search (rules, the_lemmas)

pub trees-UnionMembers : (members : UnionMembers) → trees_of_members members ≡ packed_members (map tree_of_annotated (members_in members))
trees-UnionMembers members = search (rules, the_lemmas)

-- the signs of a type, from the term of its form
pub type-WrittenType : (place : Place) (f : TypeForm) (tree : FormTree) (question : Option Place) → form_of f ≡ tree → inner_type (roll-WrittenType (record { at = place; form = f; question = question })) ≡ at place ⧺ form_signs tree ⧺ question_mark question
type-WrittenType place f tree question e = ap type_signs (tree-WrittenType place f question) ∙ ap (λ form. at place ⧺ form_signs form ⧺ question_mark question) e

pub type-AnnotatedType : (place : Place) (attributes : List ExtendedAttribute) (ty : WrittenType) → inner_annotated (roll-AnnotatedType (record { at = place; attributes = attributes; ty = ty })) ≡ at place ⧺ extended_attributes attributes ⧺ inner_type ty
type-AnnotatedType place attributes ty = ap annotated_signs (tree-AnnotatedType place attributes ty)

pub outer-AnnotatedType : (place : Place) (attributes : List ExtendedAttribute) (ty : WrittenType) → annotated_type (roll-AnnotatedType (record { at = place; attributes = attributes; ty = ty })) ≡ at place ⧺ extended_attributes attributes ⧺ written_type ty
outer-AnnotatedType place attributes ty = ap outer_annotated (tree-AnnotatedType place attributes ty)

pub type-bare : (place : Place) (attributes : List ExtendedAttribute) (ty : WrittenType) → attributes ≡ [] → bare_type (roll-AnnotatedType (record { at = place; attributes = attributes; ty = ty })) ≡ at place ⧺ written_type ty
type-bare place attributes ty none = ap bare_signs (tree-AnnotatedType place attributes ty) ∙ ap (λ all. bare_signs (annotated_tree place all (tree_of_type ty))) none

-- the signs of a type begin at its place
pub type-at : (ty : WrittenType) → written_type ty ≡ at ty.at ⧺ (form_signs (form_of ty.form) ⧺ question_mark ty.question) ⧺ within_levels (tree_of_type ty)
type-at ty = let e : tree_of_type ty ≡ type_tree ty.at (form_of ty.form) ty.question = search (rules, the_lemmas) in ap (λ tree. type_signs tree ⧺ within_levels (tree_of_type ty)) e

-- the levels of a type, from those of its parts
pub levels-WrittenType : (place : Place) (f : TypeForm) (question : Option Place) → type_levels (type_of (roll-WrittenType (record { at = place; form = f; question = question }))) ≡ form_levels (form_term f)
levels-WrittenType place f question = ap (λ tree. type_levels (plain_of tree)) (tree-WrittenType place f question)

pub levels-AnnotatedType : (place : Place) (attributes : List ExtendedAttribute) (ty : WrittenType) → annotated_levels (annotated_of (roll-AnnotatedType (record { at = place; attributes = attributes; ty = ty }))) ≡ type_levels (type_of ty)
levels-AnnotatedType place attributes ty = ap (λ tree. annotated_levels (plain_inner tree)) (tree-AnnotatedType place attributes ty)
