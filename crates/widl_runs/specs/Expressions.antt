-- Expressions: how each is evaluated, from left to right.
-- Source: ECMA-262, "Expressions", each production's Evaluation; `symbol()`, `object(..)`, `array(..)`, `call(..)` and `new(..)` are this program's own forms.
use Rattle.std.specs.Prelude.{List, [], ◌∷◌, ◌++◌, None, Some}
use Rattle.widl_dialog.specs.Dialog.{End, Say, Steps}
use Rattle.widl_value.specs.declared.value.Value.{Value}
use Rattle.widl_value.specs.declared.value.Value.TheVariants as values
use Rattle.widl_store.specs.Plans.{Plan}
use Rattle.widl_script_tree.specs.Trees.{ExpressionTree, UndefinedT, NullT, ThisT, NewSymbolT, NewObjectT, BoolT, NumberT, TextT, NameT, SymbolT, ObjectOfT, NewArrayT, MemberT, IndexT, CallT, NewT, CallWithT, ExpressionTrees, none, more, NamedT, ComputedT}
use Rattle.widl_trace.specs.declared.code.Code.TheVariants as code
use Rattle.widl_steps.specs.AskTerms.{NewArray}
use Rattle.widl_runs.specs.Ends.{Normal}
use Rattle.widl_runs.specs.Actions.{Pay, ReadThis, ReadName, TakeSymbol, AddObject, Reply, object_in, ObjectPrototype, prototype, ordinary, plan_of}
use Rattle.widl_runs.specs.Jobs.{RowUse, ForArguments, ForNew, ForItems, ForRead, ForCall, Evaluate, EvaluateRow, CallValue, ConstructValue, Doing, value, gives, fails}
use Rattle.widl_runs.specs.Members.{member, calls_with}

-- 1. New symbols and objects: one unit each, before it

abbrev pub gives_object : Reply → Doing
gives_object r = End (Normal (values.Obj (object_in r)))

abbrev pub adds : Plan → Doing
adds plan = Say (AddObject plan) gives_object

abbrev pub takes_symbol : Doing
takes_symbol = Say TakeSymbol gives

-- the value is the prototype: an Object or null, and any other throws a TypeError
abbrev pub object_of : Value → Doing
object_of values.Null = Say Pay (λ r. adds (ordinary None))
object_of (values.Obj proto) = Say Pay (λ r. adds (ordinary (Some proto)))
object_of _ = fails code.NotObject

-- 2. Rows: each expression in turn, and then what the values are for. The items of an array take no unit.

abbrev pub row_done : RowUse → List Value → Doing
row_done (ForArguments f this) vs = Steps (CallValue f this vs) End
row_done (ForNew f) vs = Steps (ConstructValue f vs) End
row_done ForItems vs = Say Pay (λ r. adds (plan_of (NewArray vs)))

abbrev pub next_in_row : RowUse → List Value → ExpressionTrees → Value → Doing
next_in_row what vs es v = Steps (EvaluateRow what (vs ++ v ∷ []) es) End

abbrev pub evaluate_row : RowUse → List Value → ExpressionTrees → Doing
evaluate_row what vs none = row_done what vs
evaluate_row what vs (more e es) = Steps (Evaluate e) (value (next_in_row what vs es))

-- 3. Calls: the function, then its arguments; only then is the function tested

-- where the function's expression is a member, the value that has it becomes `this`; any other function is called with undefined
abbrev pub call_tree : ExpressionTree → ExpressionTrees → Doing
call_tree (MemberT of name) args = member (ForCall args) (NamedT of name)
call_tree (IndexT of key) args = member (ForCall args) (ComputedT of key)
call_tree f args = Steps (Evaluate f) (value (calls_with values.Undefined args))

-- `call(F, T, E, ..)`: the function, `this`, the arguments
abbrev pub with_this : Value → ExpressionTrees → Value → Doing
with_this f args this = calls_with this args f

abbrev pub evaluates_this : ExpressionTree → ExpressionTrees → Value → Doing
evaluates_this this args f = Steps (Evaluate this) (value (with_this f args))

-- `new(F, E, ..)`: the constructor, then the arguments
abbrev pub constructs_with : ExpressionTrees → Value → Doing
constructs_with args f = Steps (EvaluateRow (ForNew f) [] args) End

-- 4. All expressions

abbrev pub evaluate : ExpressionTree → Doing
-- `undefined`, `null`, `true`, `false`, a number, a text, a symbol such as `@iterator`: it is its own value.
evaluate UndefinedT = End (Normal values.Undefined)
evaluate NullT = End (Normal values.Null)
evaluate (BoolT b) = End (Normal (values.Bool b))
evaluate (NumberT n) = End (Normal (values.Num n))
evaluate (TextT text) = End (Normal (values.Str text))
evaluate (SymbolT id) = End (Normal (values.Sym id))
-- A name: a local of the function that is called; if the function has no such local, what is bound globally; if nothing is, the
-- object of an interface or a namespace with this name; and undefined if there is none.
evaluate (NameT name) = Say (ReadName name) gives
-- `this`: that of the call, and undefined outside calls.
evaluate ThisT = Say ReadThis gives
-- `symbol()`: a unit, then the next symbol.
evaluate NewSymbolT = Say Pay (λ r. takes_symbol)
-- `object()`: a unit, then a new object whose prototype is Object.prototype.
evaluate NewObjectT = Say Pay (λ r. adds (ordinary (Some (prototype ObjectPrototype))))
-- `object(E)`: the prototype is evaluated and tested, then as before.
evaluate (ObjectOfT proto) = Steps (Evaluate proto) (value object_of)
-- `array(E, ..)`: the items, then a unit, then the array.
evaluate (NewArrayT items) = Steps (EvaluateRow ForItems [] items) End
-- `E.NAME` and `E[E]`: the value before the member and the key are evaluated, and then the member is read.
evaluate (MemberT of name) = member ForRead (NamedT of name)
evaluate (IndexT of key) = member ForRead (ComputedT of key)
-- `E(E, ..)`: the function, then the arguments, then the call.
evaluate (CallT f args) = call_tree f args
-- `call(E, E, E, ..)`: the function, then `this`, then the arguments, then the call.
evaluate (CallWithT f this args) = Steps (Evaluate f) (value (evaluates_this this args))
-- `new(E, E, ..)`: the constructor, then the arguments, then the construction.
evaluate (NewT f args) = Steps (Evaluate f) (value (constructs_with args))
