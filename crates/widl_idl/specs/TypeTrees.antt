-- Written types as plain terms: a type of a tree without the places in memory of its parts.
use Rattle.std.specs.Prelude.{Option, List, [], ◌∷◌}
use Rattle.widl_text.specs.declared.place.Place.{Place}
use Rattle.widl_idl.specs.declared.int_kind.IntKind.{IntKind}
use Rattle.widl_idl.specs.declared.text_kind.TextKind.{TextKind}
use Rattle.widl_idl.specs.declared.tree.extended_attributes.ExtendedAttribute.{ExtendedAttribute}
use Rattle.widl_idl.specs.declared.tree.names.Name.{Name}
use Rattle.widl_idl.specs.declared.tree.types.AnnotatedType.{AnnotatedType}
use Rattle.widl_idl.specs.declared.tree.types.BufferKind.{BufferKind}
use Rattle.widl_idl.specs.declared.tree.types.Container.{Container}
use Rattle.widl_idl.specs.declared.tree.types.FloatKind.{FloatKind}
use Rattle.widl_idl.specs.declared.tree.types.TypeForm.{TypeForm}
use Rattle.widl_idl.specs.declared.tree.types.TypeForm.TheOpen.{TypeForm-F, WrittenType-F, AnnotatedType-F, UnionMembers-F, Any, Undefined, Boolean, Object, Symbol, BigInt, Integer, Float, Text, Buffer, Named, Container as InContainer, Record, Promise, Union}
use Rattle.widl_idl.specs.declared.tree.types.TypeForm.TheFolds.{fold-TypeForm, fold-WrittenType, fold-AnnotatedType, fold-UnionMembers}
use Rattle.widl_idl.specs.declared.tree.types.UnionMembers.{UnionMembers}
use Rattle.widl_idl.specs.declared.tree.types.WrittenType.{WrittenType}

mutual
  -- the form of a type, without a `?`
  pub data FormTree : Type 0 where
    AnyForm : FormTree
    UndefinedForm : FormTree
    BooleanForm : FormTree
    ObjectForm : FormTree
    SymbolForm : FormTree
    BigIntForm : FormTree
    IntegerForm : IntKind → FormTree
    FloatForm : FloatKind → FormTree
    TextForm : TextKind → FormTree
    BufferForm : BufferKind → FormTree
    NamedForm : Name → FormTree
    ContainerForm : Container → AnnotatedTree → FormTree
    RecordForm : TextKind → AnnotatedTree → FormTree
    PromiseForm : TypeTree → FormTree
    UnionForm : MemberTrees → FormTree

  -- a type: the place of its first token, its form, and the place of its `?`
  pub data TypeTree : Type 0 where
    type_tree : Place → FormTree → Option Place → TypeTree

  -- a type with the extended attributes before it, and the place of its first token
  pub data AnnotatedTree : Type 0 where
    annotated_tree : Place → List ExtendedAttribute → TypeTree → AnnotatedTree

  -- the member types of a union
  pub data MemberTrees : Type 0 where
    no_members : MemberTrees
    more_members : AnnotatedTree → MemberTrees → MemberTrees

abbrev pub packed_members : List AnnotatedTree → MemberTrees
packed_members [] = no_members
packed_members (m ∷ more) = more_members m (packed_members more)

-- one level of a type, where the levels below are terms
abbrev pub form_level : TypeForm-F FormTree AnnotatedTree MemberTrees TypeTree → FormTree
form_level Any = AnyForm
form_level Undefined = UndefinedForm
form_level Boolean = BooleanForm
form_level Object = ObjectForm
form_level Symbol = SymbolForm
form_level BigInt = BigIntForm
form_level (Integer kind) = IntegerForm kind
form_level (Float kind) = FloatForm kind
form_level (Text kind) = TextForm kind
form_level (Buffer kind) = BufferForm kind
form_level (Named name) = NamedForm name
form_level (InContainer container inner) = ContainerForm container inner.value
form_level (Record key inner) = RecordForm key inner.value
form_level (Promise inner) = PromiseForm inner.value
form_level (Union members) = UnionForm members

abbrev pub type_level : WrittenType-F FormTree AnnotatedTree MemberTrees TypeTree → TypeTree
type_level t = type_tree t.at t.form t.question

abbrev pub annotated_level : AnnotatedType-F FormTree AnnotatedTree MemberTrees TypeTree → AnnotatedTree
annotated_level t = annotated_tree t.at t.attributes t.ty

abbrev pub members_level : UnionMembers-F FormTree AnnotatedTree MemberTrees TypeTree → MemberTrees
members_level members = packed_members members.items.items

-- the terms of types
abbrev pub form_of : TypeForm → FormTree
form_of = fold-TypeForm FormTree AnnotatedTree MemberTrees TypeTree form_level annotated_level members_level type_level

abbrev pub tree_of_type : WrittenType → TypeTree
tree_of_type = fold-WrittenType FormTree AnnotatedTree MemberTrees TypeTree form_level annotated_level members_level type_level

abbrev pub tree_of_annotated : AnnotatedType → AnnotatedTree
tree_of_annotated = fold-AnnotatedType FormTree AnnotatedTree MemberTrees TypeTree form_level annotated_level members_level type_level

abbrev pub trees_of_members : UnionMembers → MemberTrees
trees_of_members = fold-UnionMembers FormTree AnnotatedTree MemberTrees TypeTree form_level annotated_level members_level type_level
