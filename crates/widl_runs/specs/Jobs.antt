-- Jobs: the algorithms of which a run is made, each with its arguments; and the few tails that many of them share.
-- Source: ECMA-262, "Runtime Semantics" of statements and expressions, and the abstract operations that they use.
use Rattle.std.specs.Prelude.{ℕ, Bool, List, Option}
use Rattle.widl_dialog.specs.Dialog.{Dialog, End, Say, Steps}
use Rattle.widl_idl.specs.DefinitionTerms.{DefsTerm}
use Rattle.widl_value.specs.declared.value.Value.{Value}
use Rattle.widl_value.specs.declared.value.Value.TheVariants as values
use Rattle.widl_script_tree.specs.Trees.{Text, ExpressionTree, ExpressionTrees, StatementTree, StatementTrees, ScriptTree}
use Rattle.widl_trace.specs.declared.code.Code.{Code}
use Rattle.widl_steps.specs.AskTerms.{AskTerm}
use Rattle.widl_steps.specs.CallTasks.{CallTask}
use Rattle.widl_runs.specs.Ends.{JobEnd, Normal, Returned, Thrown, Talked, Seen}
use Rattle.widl_runs.specs.Actions.{Action, Reach, Reply, value_in}

-- a script, and the list of definitions that it runs over
pub record Program : Type 0 where
  pub list : DefsTerm
  pub script : ScriptTree

-- the key of a member before it is tested: a name after a point, or a value between brackets
pub data KeyPart : Type 0 where
  Named : Text → KeyPart
  Computed : Value → KeyPart

-- what a member is evaluated for, with the expressions of its line that come after it
pub data MemberUse : Type 0 where
  ForRead : MemberUse
  ForCall : ExpressionTrees → MemberUse
  ForSet : ExpressionTree → MemberUse
  -- whether the property is hidden
  ForDefine : ExpressionTree → Bool → MemberUse
  ForAccessor : ExpressionTree → Option ExpressionTree → MemberUse
  ForDelete : MemberUse

-- what the values of a row of expressions are for
pub data RowUse : Type 0 where
  -- the arguments of a call of the first value, with the second as `this`
  ForArguments : Value → Value → RowUse
  -- the arguments of a construction by the value
  ForNew : Value → RowUse
  -- the items of an array
  ForItems : RowUse

pub data Job : Type 0 where
  RunStatements : StatementTrees → Job
  RunStatement : StatementTree → Job
  Evaluate : ExpressionTree → Job
  -- the values of a row so far, and the expressions that are left
  EvaluateRow : RowUse → List Value → ExpressionTrees → Job
  -- what is done with a member: the value before it, its key
  ReadMember : Value → KeyPart → Job
  SetMember : Value → KeyPart → Value → Job
  DefineMember : Value → KeyPart → Value → Bool → Job
  DefineAccessor : Value → KeyPart → Value → Option Value → Job
  DeleteMember : Value → KeyPart → Job
  -- a function, `this`, the arguments
  CallValue : Value → Value → List Value → Job
  ConstructValue : Value → List Value → Job
  -- a task of a conversation, and an ask of one
  Talk : CallTask → Job
  Asked : AskTerm → Job
  Fail : Code → Job

-- the steps of a job
abbrev pub Doing : Type 0
Doing = Dialog Job Action Reply JobEnd

-- nothing more is done, and there is no value
abbrev pub nothing : Doing
nothing = End (Normal values.Undefined)

-- goes on with a value, and ends as the job did where that ended otherwise (ECMA-262, ReturnIfAbrupt)
abbrev pub value : (Value → Doing) → JobEnd → Doing
value k (Normal v) = k v
value k (Returned v) = End (Returned v)
value k (Thrown v) = End (Thrown v)
value k (Talked end) = End (Talked end)
value k (Seen answer) = End (Seen answer)

-- the value isn't used
abbrev pub drops : Value → Doing
drops v = nothing

-- the value of an action's reply
abbrev pub gives : Reply → Doing
gives r = End (Normal (value_in r))

-- throws a new TypeError
abbrev pub fails : Code → Doing
fails code = Steps (Fail code) End

-- the ends of the profile that a script's own steps can reach, by their numbers (this program's own): the length of an array is set or
-- defined; a member is asked of a primitive value; an interface object constructs, which isn't defined yet
abbrev pub array_length_end : ℕ
array_length_end = 2

abbrev pub primitive_member_end : ℕ
primitive_member_end = 4

abbrev pub not_yet_end : ℕ
not_yet_end = 99

-- the run stops at an end of the profile
abbrev pub reaches : ℕ → Doing
reaches end = Say (Reach end) (λ r. nothing)
