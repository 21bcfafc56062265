-- Statements: what each does. A statement takes one unit before it, but `steps`, which does nothing.
-- Source: ECMA-262, "Statements and Declarations", each production's Evaluation; the forms and the units are this program's own.
use Rattle.std.specs.Prelude.{ℕ, nat_eq, bytes_eq, Bool, true, false, if◌then◌else◌, ℤ, pos, negsuc, length}
use Rattle.widl_dialog.specs.Dialog.{End, Say, Steps}
use Rattle.widl_value.specs.declared.number.Number.{Number}
use Rattle.widl_value.specs.declared.number.Number.TheVariants as numbers
use Rattle.widl_value.specs.declared.value.Value.{Value}
use Rattle.widl_value.specs.declared.value.Value.TheVariants as values
use Rattle.widl_script_tree.specs.Trees.{Text, ExpressionTree, StatementTree, LetT, DoT, ReturnT, ThrowT, ShowT, SetT, DefineT, DefineAccessorT, DeleteT, TryT, IfT, FunctionT, StepsT, StatementTrees, no_statements, then_more}
use Rattle.widl_trace.specs.EventTerms.{ShowEvent}
use Rattle.widl_runs.specs.Ends.{JobEnd, Returned, Thrown}
use Rattle.widl_runs.specs.Actions.{Pay, Write, BindName, AddObject, Reply, script_function, object_in}
use Rattle.widl_runs.specs.Jobs.{RunStatements, RunStatement, Evaluate, ForSet, ForDefine, ForAccessor, ForDelete, Doing, nothing, value, drops}
use Rattle.widl_runs.specs.Members.{member}

-- 1. Names are bound

abbrev pub done : Reply → Doing
done r = nothing

-- a local of the function that is called, where it has the name, and else a global
abbrev pub binds : Text → Value → Doing
binds name v = Say (BindName name v) done

-- 2. The same value: of one kind and equal; NaN is NaN, an object is itself (ECMA-262, SameValue)

abbrev pub same_whole : ℤ → ℤ → Bool
same_whole (pos a) (pos b) = nat_eq a b
same_whole (negsuc a) (negsuc b) = nat_eq a b
same_whole _ _ = false

abbrev pub same_number : Number → Number → Bool
same_number numbers.NaN numbers.NaN = true
same_number numbers.PosInf numbers.PosInf = true
same_number numbers.NegInf numbers.NegInf = true
same_number (numbers.Whole a) (numbers.Whole b) = same_whole a b
same_number _ _ = false

abbrev pub same_bool : Bool → Bool → Bool
same_bool true b = b
same_bool false true = false
same_bool false false = true

abbrev pub same_value : Value → Value → Bool
same_value values.Undefined values.Undefined = true
same_value values.Null values.Null = true
same_value (values.Bool a) (values.Bool b) = same_bool a b
same_value (values.Num a) (values.Num b) = same_number a b
same_value (values.Str a) (values.Str b) = bytes_eq a b
same_value (values.Sym a) (values.Sym b) = nat_eq a b
same_value (values.Obj a) (values.Obj b) = nat_eq a.id b.id
same_value _ _ = false

-- 3. Statements with statements in them

-- what was thrown is bound to the name, and the handler's statements are done; any other completion passes, and no stop comes here
abbrev pub begins_handler : StatementTrees → Reply → Doing
begins_handler handler r = Steps (RunStatements handler) End

abbrev pub caught : Text → StatementTrees → JobEnd → Doing
caught name handler (Thrown v) = Say (BindName name v) (begins_handler handler)
caught name handler end = End end

abbrev pub chooses : Value → StatementTrees → StatementTrees → Value → Doing
chooses left met unmet right = if same_value left right then Steps (RunStatements met) End else Steps (RunStatements unmet) End

abbrev pub compares : ExpressionTree → StatementTrees → StatementTrees → Value → Doing
compares right met unmet left = Steps (Evaluate right) (value (chooses left met unmet))

-- 4. All statements

abbrev pub returns : Value → Doing
returns v = End (Returned v)

abbrev pub throws : Value → Doing
throws v = End (Thrown v)

abbrev pub shows : Value → Doing
shows v = Say (Write (ShowEvent v)) done

abbrev pub binds_object : Text → Reply → Doing
binds_object name r = binds name (values.Obj (object_in r))

abbrev pub new_function : ℕ → Text → ℕ → Doing
new_function number name count = Say (AddObject (script_function number name count)) (binds_object name)

-- what a statement does after its unit
abbrev pub performs : StatementTree → Doing
-- `let NAME = E`: the value is bound to the name.
performs (LetT name e) = Steps (Evaluate e) (value (binds name))
-- `do E`: the value isn't used.
performs (DoT e) = Steps (Evaluate e) (value drops)
-- `set M = E`, `define M = E`, `define M get E set E`, `delete M`: the value before the member, the key, then all other
-- expressions of the line; then the tests, and the change.
performs (SetT m e) = member (ForSet e) m
performs (DefineT m e hidden) = member (ForDefine e hidden) m
performs (DefineAccessorT m getter setter) = member (ForAccessor getter setter) m
performs (DeleteT m) = member ForDelete m
-- `return E`: the function returns the value. `throw E`: the value is thrown.
performs (ReturnT e) = Steps (Evaluate e) (value returns)
performs (ThrowT e) = Steps (Evaluate e) (value throws)
-- `show E`: the value's line is written.
performs (ShowT e) = Steps (Evaluate e) (value shows)
-- `try .. catch NAME ..`: the first statements, and the others where these throw.
performs (TryT body name handler) = Steps (RunStatements body) (caught name handler)
-- `if E is E ..`: the left value, the right value; the first statements where they are the same, and else the others.
performs (IfT left right met unmet) = Steps (Evaluate left) (value (compares right met unmet))
-- `function NAME(..) ..`: a unit, then a new function, which is bound to its name. Nothing is bound before the statement is done.
performs (FunctionT number name params body) = Say Pay (λ r. new_function number name (length params))
-- `steps TARGET ..`: nothing; its lines are done where the operation is called.
performs (StepsT target lines) = nothing

abbrev pub run_statement : StatementTree → Doing
run_statement (StepsT target lines) = nothing
run_statement s = Say Pay (λ r. performs s)

-- 5. Statements in order, up to one that doesn't end normally

abbrev pub next_statements : StatementTrees → Value → Doing
next_statements ss v = Steps (RunStatements ss) End

abbrev pub run_statements : StatementTrees → Doing
run_statements no_statements = nothing
run_statements (then_more s ss) = Steps (RunStatement s) (value (next_statements ss))
