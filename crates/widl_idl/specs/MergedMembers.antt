-- The members of a definition in the form of a list of definitions: by kind, each kind in merged order, operations by their names.
-- Source: Web IDL, "Members", "Overloading", "Stringifiers" and "Iterable declarations".
use Rattle.std.specs.Prelude.{ℕ, ◌+◌, Bool, true, false, ◌&&◌, List, [], ◌∷◌, ◌++◌, length, map, filter, filter_map, Option, None, Some, if◌then◌else◌, bytes_eq}
use Rattle.std.specs.List.{list_any}
use Rattle.widl_text.specs.declared.place.Place.{Place}
use Rattle.widl_idl.specs.declared.argument.Optionality.{Optionality}
use Rattle.widl_idl.specs.declared.argument.Optionality.TheVariants as optionality
use Rattle.widl_idl.specs.declared.interface.Slot.{Slot}
use Rattle.widl_idl.specs.declared.interface.Slot.TheVariants as slot
use Rattle.widl_idl.specs.declared.interface.Stringify.{Stringify}
use Rattle.widl_idl.specs.declared.interface.Stringify.TheVariants as stringify
use Rattle.widl_idl.specs.declared.literal.Literal.{Literal}
use Rattle.widl_idl.specs.declared.tree.members.AttributeKind.{AttributeKind}
use Rattle.widl_idl.specs.declared.tree.members.AttributeKind.TheVariants as attribute_kind
use Rattle.widl_idl.specs.PlainTypes.{PlainName, PlainAttribute, PlainAnnotated}
use Rattle.widl_idl.specs.PlainTrees.{PlainArgument, PlainArgumentKind, RequiredArgument, OptionalArgument, VariadicArgument, PlainConstant, PlainAttributeMember, PlainOperation, PlainMember, PlainMemberKind, ConstantMember, AttributeMember, OperationMember, ConstructorMember, StringifierMember, IterableMember, PlainDictionaryMember, PlainDefinition}
use Rattle.widl_idl.specs.DefinitionTerms.{ArgTerm, SigTerm, OpNameTerm, AttrTerm, ConstantTerm, PairTerm, MembersTerm, MemberTerm}
use Rattle.widl_idl.specs.MergingRules.{is_static, both_or_none}
use Rattle.widl_idl.specs.Terms.{UndefinedType}
use Rattle.widl_idl.specs.WrittenLiterals.{units_of, name_units, value_meant, default_of}
use Rattle.widl_idl.specs.WrittenTypes.{meaning_alone, meaning_with}

abbrev pub optionality_of : PlainArgumentKind → Optionality
optionality_of RequiredArgument = optionality.Required
optionality_of (OptionalArgument default) = optionality.Optional
optionality_of (VariadicArgument ellipsis) = optionality.Variadic

abbrev pub default_in : PlainArgumentKind → Option Literal
default_in (OptionalArgument default) = default_of default
default_in kind = None

-- the name of an operation; empty where it has none
abbrev pub operation_text : Option PlainName → List ℕ
operation_text None = []
operation_text (Some name) = name.text

-- the place of that name, or else of the parenthesis that follows
abbrev pub operation_place : Option PlainName → Place → Place
operation_place None open_place = open_place
operation_place (Some name) open_place = name.at

-- whether two operations have the same name and are both static or both not
abbrev pub are_overloads : PlainOperation → PlainOperation → Bool
are_overloads a b = bytes_eq (operation_text a.name) (operation_text b.name) && both_or_none (is_static a.kind) (is_static b.kind)

-- of these operations, which follow others, those that are the first of their name
abbrev pub firsts_after : List PlainOperation → List PlainOperation → List PlainOperation
firsts_after before [] = []
firsts_after before (o ∷ more) = if list_any (are_overloads o) before then firsts_after before more else o ∷ firsts_after (before ++ o ∷ []) more

-- the kinds of members
abbrev pub operation_in : PlainMemberKind → Option PlainOperation
operation_in (OperationMember o) = Some o
operation_in kind = None

abbrev pub constant_in : PlainMemberKind → Option PlainConstant
constant_in (ConstantMember c) = Some c
constant_in kind = None

abbrev pub operations_in : List PlainMember → List PlainOperation
operations_in members = filter_map (λ (m : PlainMember). operation_in m.kind) members

-- an attribute with the extended attributes before it
pub record MemberAttribute : Type 0 where
  pub attributes : List PlainAttribute
  pub attribute : PlainAttributeMember

abbrev pub attribute_in : List PlainAttribute → PlainMemberKind → Option MemberAttribute
attribute_in attributes (AttributeMember a) = Some (record { attributes = attributes; attribute = a })
attribute_in attributes kind = None

abbrev pub attributes_in : List PlainMember → List MemberAttribute
attributes_in members = filter_map (λ (m : PlainMember). attribute_in m.attributes m.kind) members

abbrev pub constants_in : List PlainMember → List PlainConstant
constants_in members = filter_map (λ (m : PlainMember). constant_in m.kind) members

abbrev pub is_static_attribute : AttributeKind → Bool
is_static_attribute attribute_kind.Static = true
is_static_attribute kind = false

abbrev pub is_stringifier_attribute : AttributeKind → Bool
is_stringifier_attribute (attribute_kind.Stringifier place) = true
is_stringifier_attribute kind = false

-- whether a member makes the interface's objects have a text
abbrev pub is_stringifier : PlainMemberKind → Bool
is_stringifier (StringifierMember s) = true
is_stringifier (AttributeMember a) = is_stringifier_attribute a.kind
is_stringifier kind = false

abbrev pub is_pair : Option PlainAnnotated → Bool
is_pair None = false
is_pair (Some second) = true

-- whether a member makes the interface's objects iterable by pairs
abbrev pub is_pair_iterable : PlainMemberKind → Bool
is_pair_iterable (IterableMember i) = is_pair i.second
is_pair_iterable kind = false

-- whether one of the members is such
abbrev pub has : (PlainMemberKind → Bool) → List PlainMember → Bool
has test members = list_any (λ (m : PlainMember). test m.kind) members

-- what a member is among its interface's members, after those that stand before it: operations by the first of their name, and of stringifiers and of pair iterables the first
abbrev pub slots_of_operation : List PlainOperation → PlainOperation → List Slot
slots_of_operation before o = if list_any (are_overloads o) before then [] else slot.Op (length (firsts_after [] before)) ∷ []

abbrev pub slots_of_stringifier : List PlainMember → Bool → List Slot
slots_of_stringifier before true = if has is_stringifier before then [] else slot.Stringifier ∷ []
slots_of_stringifier before false = []

abbrev pub slots_of_kind : List PlainMember → PlainMemberKind → List Slot
slots_of_kind before (OperationMember o) = slots_of_operation (operations_in before) o
slots_of_kind before (AttributeMember a) = slot.Attr (length (attributes_in before)) ∷ slots_of_stringifier before (is_stringifier_attribute a.kind)
slots_of_kind before (ConstantMember c) = slot.Constant (length (constants_in before)) ∷ []
slots_of_kind before (StringifierMember s) = slots_of_stringifier before true
slots_of_kind before (IterableMember i) = if is_pair i.second then (if has is_pair_iterable before then [] else slot.Pairs ∷ []) else []
slots_of_kind before kind = []

-- the slots of members that follow others
abbrev pub slots_after : List PlainMember → List PlainMember → List Slot
slots_after before [] = []
slots_after before (m ∷ more) = slots_of_kind before m.kind ++ slots_after (before ++ m ∷ []) more

-- the first stringifier of members of which the attributes are counted from `number` on
abbrev pub stringify_kind : ℕ → PlainMemberKind → Stringify → Stringify → Stringify
stringify_kind number (StringifierMember s) next after = stringify.Plain
stringify_kind number (AttributeMember a) next after = if is_stringifier_attribute a.kind then stringify.Attr number else after
stringify_kind number kind next after = next

abbrev pub stringifier_from : ℕ → List PlainMember → Stringify
stringifier_from number [] = stringify.No
stringifier_from number (m ∷ more) = stringify_kind number m.kind (stringifier_from number more) (stringifier_from (number + 1) more)

abbrev pub first_in : {X : Type 0} → List X → Option X
first_in [] = None
first_in (x ∷ xs) = Some x

module _ (definitions : List PlainDefinition) where
  abbrev pub arg_of : PlainArgument → ArgTerm
  arg_of a = record { name = name_units a.name; ty = meaning_with definitions a.attributes a.ty; opt = optionality_of a.kind; value = default_in a.kind }

  abbrev pub sig_of_operation : PlainOperation → SigTerm
  sig_of_operation o = record { at = operation_place o.name o.open_place; args = map arg_of o.arguments; returned = meaning_alone definitions o.returned }

  -- the operations that have the name of this one
  abbrev pub op_name_of : List PlainOperation → PlainOperation → OpNameTerm
  op_name_of all first = record { name = units_of (operation_text first.name); fixed = is_static first.kind; sigs = map sig_of_operation (filter (are_overloads first) all) }

  -- operations by their names, in the order in which the names come first
  abbrev pub op_names_of : List PlainOperation → List OpNameTerm
  op_names_of operations = map (op_name_of operations) (firsts_after [] operations)

  abbrev pub attr_of : MemberAttribute → AttrTerm
  attr_of a = record { at = a.attribute.name.at; name = name_units a.attribute.name; ty = meaning_with definitions a.attributes a.attribute.ty; readonly = a.attribute.readonly; fixed = is_static_attribute a.attribute.kind }

  abbrev pub constant_of : PlainConstant → ConstantTerm
  constant_of c = record { at = c.name.at; name = name_units c.name; ty = meaning_alone definitions c.ty; value = value_meant c.value.value }

  -- what interfaces and namespaces have in common
  abbrev pub members_term : List PlainMember → MembersTerm
  members_term members = record {
    ops = op_names_of (operations_in members);
    attrs = map attr_of (attributes_in members);
    consts = map constant_of (constants_in members);
    order = slots_after [] members;
  }

  abbrev pub constructor_in : PlainMemberKind → Option SigTerm
  constructor_in (ConstructorMember c) = Some (record { at = c.at; args = map arg_of c.arguments; returned = UndefinedType })
  constructor_in kind = None

  abbrev pub constructors_of : List PlainMember → List SigTerm
  constructors_of members = filter_map (λ (m : PlainMember). constructor_in m.kind) members

  abbrev pub pair_of : PlainAnnotated → Option PlainAnnotated → Option PairTerm
  pair_of first None = None
  pair_of first (Some second) = Some (record { key = meaning_with definitions [] first; value = meaning_with definitions [] second })

  abbrev pub pair_in : PlainMemberKind → Option PairTerm
  pair_in (IterableMember i) = pair_of i.first i.second
  pair_in kind = None

  -- the first pair iterable
  abbrev pub pairs_of : List PlainMember → Option PairTerm
  pairs_of members = first_in (filter_map (λ (m : PlainMember). pair_in m.kind) members)

  abbrev pub member_of : PlainDictionaryMember → MemberTerm
  member_of m = record { at = m.name.at; name = name_units m.name; ty = meaning_with definitions m.attributes m.ty; needed = m.needed; value = default_of m.default }
