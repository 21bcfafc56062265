-- Worked conversations: operations and their steps.
use Rattle.std.specs.Prelude.{List, [], ◌∷◌, None, Some, true, false, codes, pos, refl}
use Rattle.widl_dialog.specs.Conversation.{Asks, Ends, Next}
use Rattle.widl_idl.specs.declared.argument.Optionality.TheVariants.{Required, Optional}
use Rattle.widl_idl.specs.declared.int_kind.IntKind.TheVariants.{Long}
use Rattle.widl_idl.specs.declared.int_kind.Mode.TheVariants.{Wrap}
use Rattle.widl_idl.specs.declared.literal.Literal.TheVariants as literals
use Rattle.widl_idl.specs.declared.text_kind.TextKind.TheVariants as texts
use Rattle.widl_idl.specs.DefinitionTerms.{DefsTerm}
use Rattle.widl_idl.specs.Terms.{TypeTerm, packed, AnyType, UndefinedType, BooleanType, IntegerType, StringType, EnumerationType, ObjectType, SequenceType, PromiseType, NullableType, UnionType}
use Rattle.widl_value.specs.declared.value.Value.{Value}
use Rattle.widl_value.specs.declared.value.Value.TheVariants as values
use Rattle.widl_value.specs.IdlTerms.{IdlTerm, MissingValue, StringValue}
use Rattle.widl_value.specs.Rounding.{near_of, step_of}
use Rattle.widl_store.specs.declared.inner.Builtin.TheVariants as builtins
use Rattle.widl_script_tree.specs.declared.steps.Source.TheVariants as sources
use Rattle.widl_script_tree.specs.declared.steps.StepLine.{StepLine}
use Rattle.widl_script_tree.specs.declared.steps.StepLine.TheVariants as steps
use Rattle.widl_script_tree.specs.declared.steps.Target.{Target}
use Rattle.widl_script_tree.specs.declared.steps.Target.TheVariants as targets
use Rattle.widl_script_tree.specs.Trees.{ScriptTree, no_statements, then_more, StepsT}
use Rattle.widl_trace.specs.declared.code.Code.TheVariants as code
use Rattle.widl_trace.specs.EventTerms.{OperationEvent}
use Rattle.widl_steps.specs.AskTerms.{AskTerm, AnswerTerm, NoteAsk, UnitAsk, NewAsk, NewArray, DoneAnswer, NormalAnswer}
use Rattle.widl_steps.specs.Laws.{Said, IsNext}
use Rattle.widl_steps.specs.Tasks.{TaskEnd, Plain, Throw, Rethrow, Profile}
use Rattle.widl_steps.proofs.Worked.{number, integer, plain, function, argument, overload, with_overloads, with_values, f}
use Rattle.widl_steps.specs.BuiltCalls.{calls_built_today}
use Rattle.widl_steps.specs.CallRules.{call_rule}
use Rattle.widl_steps.specs.CallTasks.{CallTask, Function}
use Rattle.widl_steps.specs.Operations.{lines_of}

abbrev long : TypeTerm
long = IntegerType Long Wrap

-- a script with a steps block of this line for `N.f#0`, and one without
abbrev with_line : StepLine → ScriptTree
with_line l = record { functions = []; top = then_more (StepsT (targets.Operation (codes "N") (codes "f") false 0) (l ∷ [])) no_statements }

abbrev no_steps : ScriptTree
no_steps = record { functions = []; top = no_statements }

-- the call of the operation's function, #19, with the namespace object for `this`
abbrev call_f : List Value → CallTask
call_f args = Function (function 19) (builtins.Callee f) (values.Obj (plain 18)) args false

abbrev Calls : DefsTerm → ScriptTree → List Value → Said → Next AskTerm TaskEnd → Type 0
Calls list script args said next = IsNext (call_rule calls_built_today list (lines_of list script)) (call_f args) said next

abbrev noted : List IdlTerm → AskTerm × AnswerTerm
noted ws = (NoteAsk (OperationEvent f (Some 0) ws), DoneAnswer)

abbrev unit : AskTerm × AnswerTerm
unit = (UnitAsk, DoneAnswer)

-- 1. `DOMString f(DOMString s)` with `return arg 0`: a unit for the line, and its result

abbrev text : TypeTerm
text = StringType texts.Dom false

abbrev echo : DefsTerm
echo = with_overloads (overload text (argument text Required None ∷ []) ∷ [])

abbrev return_first : ScriptTree
return_first = with_line (steps.Return (sources.Arg 0))

is_noted : Calls echo return_first (values.Null ∷ []) [] (Asks (NoteAsk (OperationEvent f (Some 0) (StringValue (codes "null") ∷ []))))
is_noted = (40, refl)

takes_unit : Calls echo return_first (values.Null ∷ []) (noted (StringValue (codes "null") ∷ []) ∷ []) (Asks UnitAsk)
takes_unit = (40, (refl, tt, refl))

returns_first : Calls echo return_first (values.Null ∷ []) (noted (StringValue (codes "null") ∷ []) ∷ unit ∷ []) (Ends (Plain (values.Str (codes "null"))))
returns_first = (40, (refl, tt, (refl, tt, refl)))

-- 2. Too few arguments, and a value that can't be converted: nothing is noted

no_arguments : Calls echo return_first [] [] (Ends (Throw code.NoOverload))
no_arguments = (40, refl)

symbol_argument : Calls echo return_first (values.Sym 3 ∷ []) [] (Ends (Throw code.Symbol))
symbol_argument = (40, refl)

-- a namespace's operation doesn't look at `this`
any_this : IsNext (call_rule calls_built_today echo (lines_of echo return_first)) (Function (function 19) (builtins.Callee f) values.Undefined (values.Null ∷ []) false) [] (Asks (NoteAsk (OperationEvent f (Some 0) (StringValue (codes "null") ∷ []))))
any_this = (40, refl)

-- 3. `throw 7`

throws : Calls echo (with_line (steps.Throw (number 7))) (values.Null ∷ []) (noted (StringValue (codes "null") ∷ []) ∷ unit ∷ []) (Ends (Rethrow (number 7)))
throws = (40, (refl, tt, (refl, tt, refl)))

-- the first line that ends is the last that is done
first_line_ends : Calls echo (record { functions = []; top = then_more (StepsT (targets.Operation (codes "N") (codes "f") false 0) (steps.Throw (number 7) ∷ steps.Return (sources.Arg 0) ∷ [])) no_statements }) (values.Null ∷ []) (noted (StringValue (codes "null") ∷ []) ∷ unit ∷ []) (Ends (Rethrow (number 7)))
first_line_ends = (40, (refl, tt, (refl, tt, refl)))

-- 4. `long f(optional long a)` with `return arg 0`, without an argument: what is missing has no value

abbrev optional : DefsTerm
optional = with_overloads (overload long (argument long Optional None ∷ []) ∷ [])

no_value : Calls optional return_first [] (noted (MissingValue ∷ []) ∷ unit ∷ []) (Ends (Throw code.NoValue))
no_value = (40, (refl, tt, (refl, tt, refl)))

some_value : Calls optional return_first (number 3 ∷ []) (noted (integer 3 ∷ []) ∷ unit ∷ []) (Ends (Plain (number 3)))
unfolding near_of step_of lib.Count.count_leading_zeros
some_value = (40, (refl, tt, (refl, tt, refl)))

-- 5. `return literal 5`

returns_literal : Calls optional (with_line (steps.Return (sources.Literal (literals.Int (pos 5))))) [] (noted (MissingValue ∷ []) ∷ unit ∷ []) (Ends (Plain (number 5)))
unfolding near_of step_of lib.Count.count_leading_zeros
returns_literal = (40, (refl, tt, (refl, tt, refl)))

-- `return arg 1` of two, and `return this`, which isn't built
returns_second : Calls (with_overloads (overload text (argument text Required None ∷ argument text Required None ∷ []) ∷ [])) (with_line (steps.Return (sources.Arg 1))) (values.Str (codes "a") ∷ values.Str (codes "b") ∷ []) (noted (StringValue (codes "a") ∷ StringValue (codes "b") ∷ []) ∷ unit ∷ []) (Ends (Plain (values.Str (codes "b"))))
returns_second = (40, (refl, tt, (refl, tt, refl)))

returns_this : Calls echo (with_line (steps.Return sources.This)) (values.Null ∷ []) (noted (StringValue (codes "null") ∷ []) ∷ unit ∷ []) (Ends (Profile 99))
returns_this = (40, (refl, tt, (refl, tt, refl)))

-- 6. Without steps the result is the default of its type, where it has one

default_long : Calls optional no_steps [] (noted (MissingValue ∷ []) ∷ []) (Ends (Plain (number 0)))
unfolding near_of step_of lib.Count.count_leading_zeros
default_long = (40, (refl, tt, refl))

abbrev giving : TypeTerm → DefsTerm
giving t = with_overloads (overload t [] ∷ [])

default_undefined : Calls (giving UndefinedType) no_steps [] (noted [] ∷ []) (Ends (Plain values.Undefined))
default_undefined = (40, (refl, tt, refl))

default_any : Calls (giving AnyType) no_steps [] (noted [] ∷ []) (Ends (Plain values.Undefined))
default_any = (40, (refl, tt, refl))

default_boolean : Calls (giving BooleanType) no_steps [] (noted [] ∷ []) (Ends (Plain (values.Bool false)))
default_boolean = (40, (refl, tt, refl))

default_text : Calls (giving text) no_steps [] (noted [] ∷ []) (Ends (Plain (values.Str [])))
default_text = (40, (refl, tt, refl))

default_nullable : Calls (giving (NullableType ObjectType)) no_steps [] (noted [] ∷ []) (Ends (Plain values.Null))
default_nullable = (40, (refl, tt, refl))

default_enumeration : Calls (record (giving (EnumerationType 0)) { choices = (with_values (codes "on" ∷ codes "off" ∷ [])).choices }) no_steps [] (noted [] ∷ []) (Ends (Plain (values.Str (codes "on"))))
default_enumeration = (40, (refl, tt, refl))

default_sequence : Calls (giving (SequenceType long)) no_steps [] (noted [] ∷ []) (Asks (NewAsk (NewArray [])))
default_sequence = (40, (refl, tt, refl))

the_new_array : Calls (giving (SequenceType long)) no_steps [] (noted [] ∷ (NewAsk (NewArray []), NormalAnswer (values.Obj (plain 5))) ∷ []) (Ends (Plain (values.Obj (plain 5))))
the_new_array = (40, (refl, tt, (refl, refl, refl)))

-- null is no default of a union that includes a nullable type
no_default_of_union : Calls (giving (UnionType (packed (text ∷ NullableType long ∷ [])))) no_steps [] (noted [] ∷ []) (Ends (Throw code.NoDefault))
no_default_of_union = (40, (refl, tt, refl))

no_default : Calls (giving ObjectType) no_steps [] (noted [] ∷ []) (Ends (Throw code.NoDefault))
no_default = (40, (refl, tt, refl))

-- 7. The block is that of the owner's name, the operation's name, its kind and the overload

-- a script with a steps block `throw null` for a target, and one for `N.f#0` after it that throws 7
abbrev throws_for : Target → ScriptTree
throws_for target = record { functions = []; top = then_more (StepsT target (steps.Throw values.Null ∷ [])) (then_more (StepsT (targets.Operation (codes "N") (codes "f") false 0) (steps.Throw (number 7) ∷ [])) no_statements) }

abbrev IsPassedOver : Target → Type 0
IsPassedOver target = Calls (giving AnyType) (throws_for target) [] (noted [] ∷ unit ∷ []) (Ends (Rethrow (number 7)))

other_overload : IsPassedOver (targets.Operation (codes "N") (codes "f") false 1)
other_overload = (40, (refl, tt, (refl, tt, refl)))

other_owner : IsPassedOver (targets.Operation (codes "M") (codes "f") false 0)
other_owner = (40, (refl, tt, (refl, tt, refl)))

other_name : IsPassedOver (targets.Operation (codes "N") (codes "g") false 0)
other_name = (40, (refl, tt, (refl, tt, refl)))

static_one : IsPassedOver (targets.Operation (codes "N") (codes "f") true 0)
static_one = (40, (refl, tt, (refl, tt, refl)))

getter : IsPassedOver (targets.Getter (codes "N") (codes "f"))
getter = (40, (refl, tt, (refl, tt, refl)))

no_block : Calls (giving AnyType) (record { functions = []; top = then_more (StepsT (targets.Operation (codes "N") (codes "f") false 1) (steps.Throw values.Null ∷ [])) no_statements }) [] (noted [] ∷ []) (Ends (Plain values.Undefined))
no_block = (40, (refl, tt, refl))

-- 8. `undefined f(); boolean f(DOMString s);`: the event, the block and the result's type are those of the overload that was chosen

abbrev two_results : DefsTerm
two_results = with_overloads (overload UndefinedType [] ∷ overload BooleanType (argument text Required None ∷ []) ∷ [])

abbrev second_noted : AskTerm × AnswerTerm
second_noted = (NoteAsk (OperationEvent f (Some 1) (StringValue (codes "a") ∷ [])), DoneAnswer)

second_result : Calls two_results no_steps (values.Str (codes "a") ∷ []) (second_noted ∷ []) (Ends (Plain (values.Bool false)))
second_result = (40, (refl, tt, refl))

second_block : Calls two_results (throws_for (targets.Operation (codes "N") (codes "f") false 1)) (values.Str (codes "a") ∷ []) (second_noted ∷ unit ∷ []) (Ends (Rethrow values.Null))
second_block = (40, (refl, tt, (refl, tt, refl)))

-- 9. An operation that gives a promise isn't built, whichever overload gives one

no_promise : Calls (with_overloads (overload UndefinedType [] ∷ overload (PromiseType AnyType) (argument text Required None ∷ []) ∷ [])) no_steps [] [] (Ends (Profile 99))
no_promise = (40, refl)
