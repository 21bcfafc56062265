-- Members: how they are evaluated, read, set, defined and deleted.
-- Source: ECMA-262, "Property Accessors", GetValue, PutValue, ToPropertyKey, OrdinaryGet, OrdinarySet, OrdinaryDefineOwnProperty, "The delete Operator". That objects are no keys, and members of other primitives than undefined and null aren't run, is this program's own.
use Rattle.std.specs.Prelude.{Bool, true, false, not, [], ◌∷◌, Option, None, Some}
use Rattle.std.specs.declared.result.Result.{Result}
use Rattle.std.specs.declared.result.Result.TheVariants as results
use Rattle.widl_dialog.specs.Dialog.{End, Say, Steps}
use Rattle.widl_text.specs.declared.key.Key.{Key}
use Rattle.widl_text.specs.declared.key.Key.TheVariants as keys
use Rattle.widl_value.specs.declared.flags.Flags.{Flags}
use Rattle.widl_value.specs.declared.object.ObjRef.{ObjRef}
use Rattle.widl_value.specs.declared.value.Value.{Value}
use Rattle.widl_value.specs.declared.value.Value.TheVariants as values
use Rattle.widl_scalar.specs.declared.primitives.ValueText.{ValueText}
use Rattle.widl_scalar.specs.declared.primitives.ValueText.TheVariants as texts
use Rattle.widl_scalar.specs.Primitives.{text_in}
use Rattle.widl_store.specs.declared.effects.DefineFault.{DefineFault}
use Rattle.widl_store.specs.declared.effects.DefineFault.TheVariants as defining
use Rattle.widl_store.specs.declared.effects.NotConfigurable as refusal
use Rattle.widl_store.specs.declared.effects.Put.{Put}
use Rattle.widl_store.specs.declared.effects.Put.TheVariants as puts
use Rattle.widl_store.specs.declared.effects.PutFault.{PutFault}
use Rattle.widl_store.specs.declared.effects.PutFault.TheVariants as putting
use Rattle.widl_store.specs.declared.property.Prop.{Prop}
use Rattle.widl_store.specs.declared.property.Prop.TheVariants as props
use Rattle.widl_script_tree.specs.Trees.{Text, ExpressionTree, ExpressionTrees, MemberTree, NamedT, ComputedT}
use Rattle.widl_trace.specs.declared.code.Code.TheVariants as code
use Rattle.widl_runs.specs.Ends.{Normal}
use Rattle.widl_runs.specs.Actions.{FindProperty, PutProperty, DefineProperty, DeleteProperty, Reply, property_in, put_result_in, define_result_in, delete_result_in}
use Rattle.widl_runs.specs.Jobs.{KeyPart, Named, Computed, MemberUse, ForRead, ForCall, ForSet, ForDefine, ForAccessor, ForDelete, ForArguments, Evaluate, EvaluateRow, ReadMember, SetMember, DefineMember, DefineAccessor, DeleteMember, CallValue, Doing, nothing, value, drops, fails, reaches, array_length_end, primitive_member_end}
use Rattle.widl_runs.specs.Calls.{callable}

-- 1. A member is evaluated

-- a function that is called, with `this`: its arguments come next
abbrev pub calls_with : Value → ExpressionTrees → Value → Doing
calls_with this args f = Steps (EvaluateRow (ForArguments f this) [] args) End

abbrev pub sets : Value → KeyPart → Value → Doing
sets of key v = Steps (SetMember of key v) End

abbrev pub defines : Value → KeyPart → Bool → Value → Doing
defines of key hidden v = Steps (DefineMember of key v hidden) End

abbrev pub defines_accessor : Value → KeyPart → Value → Value → Doing
defines_accessor of key getter setter = Steps (DefineAccessor of key getter (Some setter)) End

-- after the getter's expression comes the setter's, where there is one
abbrev pub with_getter : Value → KeyPart → Option ExpressionTree → Value → Doing
with_getter of key None getter = Steps (DefineAccessor of key getter None) End
with_getter of key (Some setter) getter = Steps (Evaluate setter) (value (defines_accessor of key getter))

-- the value before the member and its key are there: all other expressions of the line come next, and then the member's tests
abbrev pub uses : MemberUse → Value → KeyPart → Doing
uses ForRead of key = Steps (ReadMember of key) End
uses (ForCall args) of key = Steps (ReadMember of key) (value (calls_with of args))
uses (ForSet e) of key = Steps (Evaluate e) (value (sets of key))
uses (ForDefine e hidden) of key = Steps (Evaluate e) (value (defines of key hidden))
uses (ForAccessor getter setter) of key = Steps (Evaluate getter) (value (with_getter of key setter))
uses ForDelete of key = Steps (DeleteMember of key) End

abbrev pub with_name : MemberUse → Text → Value → Doing
with_name what name of = uses what of (Named name)

abbrev pub with_key : MemberUse → Value → Value → Doing
with_key what of key = uses what of (Computed key)

abbrev pub evaluates_key : MemberUse → ExpressionTree → Value → Doing
evaluates_key what key of = Steps (Evaluate key) (value (with_key what of))

-- The value before the member comes first, then the key's expression.
abbrev pub member : MemberUse → MemberTree → Doing
member what (NamedT of name) = Steps (Evaluate of) (value (with_name what name))
member what (ComputedT of key) = Steps (Evaluate of) (value (evaluates_key what key))

-- 2. Its tests: the value, then the key

-- what a text is as a key; where the value has no text, it is no key
abbrev pub text_key : ValueText → Option Key
text_key (texts.Text text) = Some (keys.Name text)
text_key texts.Symbol = None
text_key texts.Object = None

-- a String or a Symbol is itself, any other primitive value its text; an Object is no key
abbrev pub key_of : KeyPart → Option Key
key_of (Named name) = Some (keys.Name name)
key_of (Computed (values.Sym id)) = Some (keys.Sym id)
key_of (Computed v) = text_key (text_in v)

abbrev pub if_key : (Key → Doing) → Option Key → Doing
if_key k None = fails code.Key
if_key k (Some key) = k key

-- A member of undefined or null throws a TypeError, and that of another primitive value is an end of the profile.
-- Then an object in place of a key throws a TypeError.
abbrev pub tested : (ObjRef → Key → Doing) → Value → KeyPart → Doing
tested k values.Undefined key = fails code.Member
tested k values.Null key = fails code.Member
tested k (values.Obj of) key = if_key (k of) (key_of key)
tested k _ key = reaches primitive_member_end

-- 3. It is read

-- a value that is held, or what the getter gives, of which the object before the member is `this`; without a property or a getter undefined
abbrev pub read_value : ObjRef → Option Prop → Doing
read_value of None = nothing
read_value of (Some (props.Plain v flags)) = End (Normal v)
read_value of (Some (props.Accessor None setter flags)) = nothing
read_value of (Some (props.Accessor (Some getter) setter flags)) = Steps (CallValue (values.Obj getter) (values.Obj of) []) End

abbrev pub found : ObjRef → Reply → Doing
found of r = read_value of (property_in r)

abbrev pub reads : ObjRef → Key → Doing
reads of key = Say (FindProperty of key) (found of)

-- what stands under the key, in the object itself or in the nearest prototype that has it. A script's own reads write no line.
abbrev pub read_member : Value → KeyPart → Doing
read_member = tested reads

-- 4. It is set

-- done; a setter is called, of which the receiver is `this`; what is read only throws a TypeError; the length of an array is an end of the profile
abbrev pub put_done : ObjRef → Result Put PutFault → Doing
put_done of (results.Ok puts.Done) = nothing
put_done of (results.Ok (puts.Setter setter v)) = Steps (CallValue (values.Obj setter) (values.Obj of) (v ∷ [])) (value drops)
put_done of (results.Err (putting.ReadOnly flags)) = fails code.ReadOnly
put_done of (results.Err putting.NoSetter) = fails code.ReadOnly
put_done of (results.Err putting.Length) = reaches array_length_end
-- no definition of a put answers this
put_done of (results.Err putting.Memory) = nothing

abbrev pub has_put : ObjRef → Reply → Doing
has_put of r = put_done of (put_result_in r)

abbrev pub writes : Value → ObjRef → Key → Doing
writes v of key = Say (PutProperty of key v) (has_put of)

abbrev pub set_member : Value → KeyPart → Value → Doing
set_member of key v = tested (writes v) of key

-- 5. It is defined

-- what isn't configurable throws a TypeError; the length of an array is an end of the profile
abbrev pub define_done : Result (Unit {0}) DefineFault → Doing
define_done (results.Ok done) = nothing
define_done (results.Err (defining.NotConfigurable flags)) = fails code.NotConfigurable
define_done (results.Err defining.Length) = reaches array_length_end
-- no definition of a property answers this
define_done (results.Err defining.Memory) = nothing

abbrev pub has_defined : Reply → Doing
has_defined r = define_done (define_result_in r)

-- all flags, but a hidden property isn't enumerable
abbrev pub plain_flags : Bool → Flags
plain_flags hidden = record { writable = true; enumerable = not hidden; configurable = true }

abbrev pub defines_plain : Value → Bool → ObjRef → Key → Doing
defines_plain v hidden of key = Say (DefineProperty of key (props.Plain v (plain_flags hidden))) has_defined

abbrev pub define_member : Value → KeyPart → Value → Bool → Doing
define_member of key v hidden = tested (defines_plain v hidden) of key

-- 6. An accessor is defined

abbrev pub accessor_flags : Flags
accessor_flags = record { writable = false; enumerable = true; configurable = true }

abbrev pub defines_parts : ObjRef → Key → ObjRef → Option ObjRef → Doing
defines_parts of key getter setter = Say (DefineProperty of key (props.Accessor (Some getter) setter accessor_flags)) has_defined

abbrev pub with_setter : ObjRef → Key → ObjRef → ObjRef → Doing
with_setter of key getter setter = defines_parts of key getter (Some setter)

-- the parts are tested after the value and the key, the getter first
abbrev pub tests_setter : ObjRef → Key → Option Value → ObjRef → Doing
tests_setter of key None getter = defines_parts of key getter None
tests_setter of key (Some setter) getter = callable (with_setter of key getter) setter

abbrev pub tests_parts : Value → Option Value → ObjRef → Key → Doing
tests_parts getter setter of key = callable (tests_setter of key setter) getter

abbrev pub define_accessor : Value → KeyPart → Value → Option Value → Doing
define_accessor of key getter setter = tested (tests_parts getter setter) of key

-- 7. It is deleted

-- the own property is gone; what isn't configurable throws a TypeError
abbrev pub delete_done : Result (Unit {0}) refusal.NotConfigurable → Doing
delete_done (results.Ok done) = nothing
delete_done (results.Err fault) = fails code.NotConfigurable

abbrev pub has_deleted : Reply → Doing
has_deleted r = delete_done (delete_result_in r)

abbrev pub deletes : ObjRef → Key → Doing
deletes of key = Say (DeleteProperty of key) has_deleted

abbrev pub delete_member : Value → KeyPart → Doing
delete_member = tested deletes
