-- The trees of a script: what its text says. Names and keys are texts; the one number is that of a function, by which the store knows it.
use Rattle.std.specs.Prelude.{ℕ, List, Bool, Option}
use Rattle.widl_value.specs.declared.number.Number.{Number}
use Rattle.widl_script_tree.specs.declared.steps.Target.{Target}
use Rattle.widl_script_tree.specs.declared.steps.StepLine.{StepLine}

abbrev pub Text : Type 0
Text = List ℕ

mutual
  -- an expression: a primary, or one followed by a member or a call
  pub data ExpressionTree : Type 0 where
    UndefinedT NullT ThisT NewSymbolT NewObjectT : ExpressionTree
    BoolT : Bool → ExpressionTree
    NumberT : Number → ExpressionTree
    TextT NameT : Text → ExpressionTree
    SymbolT : ℕ → ExpressionTree
    ObjectOfT : ExpressionTree → ExpressionTree
    NewArrayT : ExpressionTrees → ExpressionTree
    MemberT : ExpressionTree → Text → ExpressionTree
    IndexT : ExpressionTree → ExpressionTree → ExpressionTree
    CallT NewT : ExpressionTree → ExpressionTrees → ExpressionTree
    CallWithT : ExpressionTree → ExpressionTree → ExpressionTrees → ExpressionTree

  pub data ExpressionTrees : Type 0 where
    none : ExpressionTrees
    more : ExpressionTree → ExpressionTrees → ExpressionTrees

-- an expression that ends in a member: its value, and the key
pub data MemberTree : Type 0 where
  NamedT : ExpressionTree → Text → MemberTree
  ComputedT : ExpressionTree → ExpressionTree → MemberTree

abbrev pub whole_member : MemberTree → ExpressionTree
whole_member (NamedT of name) = MemberT of name
whole_member (ComputedT of key) = IndexT of key

mutual
  -- an `if` without `else` has no statements there
  pub data StatementTree : Type 0 where
    LetT : Text → ExpressionTree → StatementTree
    DoT ReturnT ThrowT ShowT : ExpressionTree → StatementTree
    SetT : MemberTree → ExpressionTree → StatementTree
    DefineT : MemberTree → ExpressionTree → Bool → StatementTree
    DefineAccessorT : MemberTree → ExpressionTree → Option ExpressionTree → StatementTree
    DeleteT : MemberTree → StatementTree
    TryT : StatementTrees → Text → StatementTrees → StatementTree
    IfT : ExpressionTree → ExpressionTree → StatementTrees → StatementTrees → StatementTree
    -- the number, the name, the parameters, the body
    FunctionT : ℕ → Text → List Text → StatementTrees → StatementTree
    StepsT : Target → List StepLine → StatementTree

  pub data StatementTrees : Type 0 where
    no_statements : StatementTrees
    then_more : StatementTree → StatementTrees → StatementTrees

-- a function, with the names that are local in it
pub record FunctionTree : Type 0 where
  pub name : Text
  pub params : List Text
  pub names : List Text
  pub body : StatementTrees

-- the statement that a function stands in
abbrev pub function_statement : ℕ → FunctionTree → StatementTree
function_statement number f = FunctionT number f.name f.params f.body

-- a script: its functions by their numbers, and its statements
pub record ScriptTree : Type 0 where
  pub functions : List FunctionTree
  pub top : StatementTrees
