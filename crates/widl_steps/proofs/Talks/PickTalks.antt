-- Worked picks: the member type of a union, and the overload, that a value picks by its class.
use Rattle.std.specs.Prelude.{◌≡◌, ℕ, List, [], ◌∷◌, Option, None, Some, Bool, true, false, codes, refl}
use Rattle.widl_idl.specs.declared.argument.Optionality.TheVariants.{Required, Optional}
use Rattle.widl_idl.specs.declared.int_kind.IntKind.TheVariants.{Long}
use Rattle.widl_idl.specs.declared.int_kind.Mode.TheVariants.{Wrap}
use Rattle.widl_idl.specs.declared.interface.Stringify.TheVariants as stringifiers
use Rattle.widl_idl.specs.declared.text_kind.TextKind.TheVariants as texts
use Rattle.widl_idl.specs.DefinitionTerms.{DefsTerm, IfaceTerm}
use Rattle.widl_idl.specs.Terms.{TypeTerm, packed, AnyType, BooleanType, IntegerType, StringType, EnumerationType, InterfaceType, CallbackFunctionType, CallbackInterfaceType, DictionaryType, ObjectType, SequenceType, RecordType, NullableType, UnionType, UndefinedType}
use Rattle.widl_value.specs.declared.class.Class.{Class}
use Rattle.widl_value.specs.declared.class.Class.TheVariants as classes
use Rattle.widl_tables.specs.declared.pick.Pick.{Pick}
use Rattle.widl_tables.specs.declared.pick.Pick.TheVariants.{Entry, Probe, Refuse}
use Rattle.widl_tables.specs.Kept.{kept_tuples}
use Rattle.widl_tables.specs.Picks.{pick_of, pick_member_of}
use Rattle.widl_steps.proofs.Worked.{place, nothing_defined, argument, overload, with_overloads, f}

-- the interfaces I, J which inherits from I, K, and L which inherits from J
abbrev interface : List ℕ → Option ℕ → IfaceTerm
interface name parent = record { at = place; name = name; parent = parent; ctors = []; members = record { ops = []; attrs = []; consts = []; order = [] }; text = stringifiers.No; pairs = None }

abbrev interfaces : DefsTerm
interfaces = record nothing_defined { ifaces = interface (codes "I") None ∷ interface (codes "J") (Some 0) ∷ interface (codes "K") None ∷ interface (codes "L") (Some 1) ∷ [] }

abbrev long : TypeTerm
long = IntegerType Long Wrap

abbrev text : TypeTerm
text = StringType texts.Dom false

-- 1. Unions

abbrev Member : List TypeTerm → Class → Bool → Pick → Type 0
Member types class probed pick = pick_member_of interfaces (packed types) class probed ≡ pick

-- (long or sequence<DOMString>): an object without a method `@iterator` is taken for a number
abbrev number_or_sequence : List TypeTerm
number_or_sequence = long ∷ SequenceType text ∷ []

truth_is_number : Member number_or_sequence classes.Bool false (Entry 0)
truth_is_number = refl

text_is_number : Member number_or_sequence classes.Str false (Entry 0)
text_is_number = refl

object_is_probed : Member number_or_sequence classes.Plain false (Probe 1)
object_is_probed = refl

callable_is_probed : Member number_or_sequence classes.Callable false (Probe 1)
callable_is_probed = refl

object_is_number : Member number_or_sequence classes.Plain true (Entry 0)
object_is_number = refl

-- (DOMString or boolean or long): each its own, and any other value a text
abbrev primitives : List TypeTerm
primitives = text ∷ BooleanType ∷ long ∷ []

truth_is_boolean : Member primitives classes.Bool false (Entry 1)
truth_is_boolean = refl

number_is_number : Member primitives classes.Num false (Entry 2)
number_is_number = refl

null_is_text : Member primitives classes.Null false (Entry 0)
null_is_text = refl

-- (boolean or long): where there is no text, a number comes before a truth
symbol_is_number : Member (BooleanType ∷ long ∷ []) classes.Sym false (Entry 1)
symbol_is_number = refl

-- (DOMString or D): null and undefined are a dictionary
undefined_is_dictionary : Member (text ∷ DictionaryType 0 ∷ []) classes.Undefined false (Entry 1)
undefined_is_dictionary = refl

null_is_dictionary : Member (text ∷ DictionaryType 0 ∷ []) classes.Null false (Entry 1)
null_is_dictionary = refl

-- (DOMString or I or sequence<long>): a platform object of I, or of an interface that inherits from it
abbrev with_interface : List TypeTerm
with_interface = text ∷ InterfaceType 0 ∷ SequenceType long ∷ []

is_implemented : Member with_interface (classes.Platform 1) false (Entry 1)
is_implemented = refl

is_its_own : Member with_interface (classes.Platform 0) false (Entry 1)
is_its_own = refl

is_implemented_above : Member with_interface (classes.Platform 3) false (Entry 1)
is_implemented_above = refl

not_implemented : Member with_interface (classes.Platform 2) false (Probe 2)
not_implemented = refl

not_iterable : Member with_interface (classes.Platform 2) true (Entry 0)
not_iterable = refl

-- what is no interface of the list implements none
is_no_interface : Member (text ∷ InterfaceType 7 ∷ []) (classes.Platform 7) false (Entry 0)
is_no_interface = refl

-- (record or sequence<long>): an object is a record where it has no method `@iterator`
record_is_probed : Member (RecordType texts.Dom long ∷ SequenceType long ∷ []) classes.Plain false (Probe 1)
record_is_probed = refl

not_iterable_is_record : Member (RecordType texts.Dom long ∷ SequenceType long ∷ []) classes.Plain true (Entry 0)
not_iterable_is_record = refl

-- (sequence<long> or callback function): a function isn't asked for one
callable_is_not_probed : Member (SequenceType long ∷ CallbackFunctionType 0 ∷ []) classes.Callable false (Entry 1)
callable_is_not_probed = refl

-- (DOMString or record or callback function)
abbrev with_callback : List TypeTerm
with_callback = text ∷ RecordType texts.Dom long ∷ CallbackFunctionType 0 ∷ []

callable_is_callback : Member with_callback classes.Callable false (Entry 2)
callable_is_callback = refl

object_is_record : Member with_callback classes.Plain false (Entry 1)
object_is_record = refl

-- other objects
object_is_dictionary : Member (text ∷ DictionaryType 0 ∷ []) classes.Plain false (Entry 1)
object_is_dictionary = refl

callable_is_interface : Member (text ∷ CallbackInterfaceType 0 ∷ []) classes.Callable false (Entry 1)
callable_is_interface = refl

platform_is_object : Member (text ∷ ObjectType ∷ []) (classes.Platform 2) false (Entry 1)
platform_is_object = refl

callable_is_object : Member (text ∷ ObjectType ∷ []) classes.Callable false (Entry 1)
callable_is_object = refl

plain_is_object : Member (text ∷ ObjectType ∷ []) classes.Plain false (Entry 1)
plain_is_object = refl

null_is_no_object : Member (text ∷ ObjectType ∷ []) classes.Null false (Entry 0)
null_is_no_object = refl

-- (long or E): an enumeration is the string member
text_is_value : Member (long ∷ EnumerationType 0 ∷ []) classes.Str false (Entry 1)
text_is_value = refl

-- members of members, and nullable ones, are looked through
inner_member : Member (UnionType (packed (text ∷ NullableType long ∷ [])) ∷ BooleanType ∷ []) classes.Num false (Entry 1)
inner_member = refl

no_member : Member (SequenceType long ∷ []) classes.Num false Refuse
no_member = refl

-- 2. Overloads

abbrev Overload : TypeTerm → TypeTerm → Class → Bool → Pick → Type 0
Overload first second class probed pick =
    pick_of interfaces (kept_tuples (with_overloads (overload UndefinedType (argument first Required None ∷ []) ∷ overload UndefinedType (argument second Required None ∷ []) ∷ [])) f 1) 0 class probed ≡ pick

null_is_nullable : Overload text (NullableType long) classes.Null false (Entry 1)
null_is_nullable = refl

undefined_is_nullable : Overload text (NullableType long) classes.Undefined false (Entry 1)
undefined_is_nullable = refl

number_in_nullable : Overload text (NullableType long) classes.Num false (Entry 1)
number_in_nullable = refl

object_of_interface : Overload text (InterfaceType 0) (classes.Platform 1) false (Entry 1)
object_of_interface = refl

object_of_another : Overload text (InterfaceType 0) (classes.Platform 2) false (Entry 0)
object_of_another = refl

function_is_object : Overload text ObjectType classes.Callable false (Entry 1)
function_is_object = refl

sequence_in_union : Overload BooleanType (UnionType (packed (SequenceType text ∷ long ∷ []))) classes.Plain false (Probe 1)
sequence_in_union = refl

no_sequence_in_union : Overload BooleanType (UnionType (packed (SequenceType text ∷ long ∷ []))) classes.Plain true (Entry 1)
no_sequence_in_union = refl

dictionary_in_union : Overload BooleanType (UnionType (packed (DictionaryType 0 ∷ long ∷ []))) classes.Undefined false (Entry 1)
dictionary_in_union = refl

-- 3. Each test of an argument, in the order of the steps

-- 3.1 Undefined, where it may be left out; null isn't. This comes before a nullable type.
abbrev Left : TypeTerm → Class → Pick → Type 0
Left first class pick =
    pick_of interfaces (kept_tuples (with_overloads (overload UndefinedType (argument first Required None ∷ []) ∷ overload UndefinedType (argument long Optional None ∷ []) ∷ [])) f 1) 0 class false ≡ pick

undefined_is_optional : Left text classes.Undefined (Entry 1)
undefined_is_optional = refl

null_is_not_optional : Left text classes.Null (Entry 0)
null_is_not_optional = refl

optional_before_nullable : Left (NullableType text) classes.Undefined (Entry 1)
optional_before_nullable = refl

-- 3.2 Null or undefined: a nullable type, a dictionary, a union with one of these
null_is_a_dictionary : Overload text (DictionaryType 0) classes.Null false (Entry 1)
null_is_a_dictionary = refl

nullable_in_union : Overload BooleanType (UnionType (packed (text ∷ NullableType long ∷ []))) classes.Null false (Entry 1)
nullable_in_union = refl

null_is_nothing_else : Overload text long classes.Null false (Entry 0)
null_is_nothing_else = refl

-- 3.3 A platform object: an interface that it implements, or object; also where another overload takes a sequence
interface_in_nullable : Overload text (NullableType (InterfaceType 0)) (classes.Platform 1) false (Entry 1)
interface_in_nullable = refl

interface_before_sequence : Overload (SequenceType text) (InterfaceType 0) (classes.Platform 1) false (Entry 1)
interface_before_sequence = refl

platform_object_is_object : Overload text ObjectType (classes.Platform 1) false (Entry 1)
platform_object_is_object = refl

-- 3.4 A function: a callback function, or object; also where another overload takes a sequence
function_is_callback : Overload text (CallbackFunctionType 0) classes.Callable false (Entry 1)
function_is_callback = refl

callback_before_sequence : Overload (SequenceType text) (CallbackFunctionType 0) classes.Callable false (Entry 1)
callback_before_sequence = refl

plain_is_no_callback : Overload text (CallbackFunctionType 0) classes.Plain false (Entry 0)
plain_is_no_callback = refl

-- 3.5 An object with a method `@iterator`: a sequence. A text isn't asked for one.
object_has_method : Overload text (SequenceType text) classes.Plain false (Probe 1)
object_has_method = refl

platform_object_has_method : Overload text (SequenceType text) (classes.Platform 0) false (Probe 1)
platform_object_has_method = refl

function_has_method : Overload text (SequenceType text) classes.Callable false (Probe 1)
function_has_method = refl

text_is_no_sequence : Overload text (SequenceType text) classes.Str false (Entry 0)
text_is_no_sequence = refl

sequence_before_record : Overload (RecordType texts.Dom text) (SequenceType text) classes.Plain false (Probe 1)
sequence_before_record = refl

record_after_sequence : Overload (RecordType texts.Dom text) (SequenceType text) classes.Plain true (Entry 0)
record_after_sequence = refl

-- 3.6 Any object: a callback interface, a dictionary, a record, object
object_is_interface : Overload text (CallbackInterfaceType 0) classes.Plain false (Entry 1)
object_is_interface = refl

object_is_a_dictionary : Overload text (DictionaryType 0) classes.Callable false (Entry 1)
object_is_a_dictionary = refl

object_is_a_record : Overload text (RecordType texts.Dom long) (classes.Platform 0) false (Entry 1)
object_is_a_record = refl

object_is_itself : Overload text ObjectType classes.Plain false (Entry 1)
object_is_itself = refl

-- 3.7, 3.8 A truth and a number: their own type, before a text
truth_before_text : Overload text BooleanType classes.Bool false (Entry 1)
truth_before_text = refl

number_before_text : Overload text long classes.Num false (Entry 1)
number_before_text = refl

-- 3.9 to 3.12 Any value: a text, with enumerations; then a number; then a truth; then anything, which no valid list tells apart
text_before_truth : Overload BooleanType text classes.Num false (Entry 1)
text_before_truth = refl

value_before_number : Overload long (EnumerationType 0) classes.Bool false (Entry 1)
value_before_number = refl

number_before_truth : Overload BooleanType long classes.Str false (Entry 1)
number_before_truth = refl

truth_before_anything : Overload AnyType BooleanType classes.Sym false (Entry 1)
truth_before_anything = refl

anything_at_last : Overload (SequenceType text) AnyType classes.Num false (Entry 1)
anything_at_last = refl

-- Where several met a test, which no valid list has, the lowest would be kept
lowest_overload : Overload text text classes.Str false (Entry 0)
lowest_overload = refl
