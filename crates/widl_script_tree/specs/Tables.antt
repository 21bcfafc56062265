-- The tables of a script, and the trees that they stand for.
use Rattle.std.specs.Prelude.{ℕ, zero, suc, ◌+◌, Bool, true, false, ◌&&◌, nat_eq, List, [], ◌∷◌, ◌++◌, Option, Some, None, slice_get, slice_index_or, map, option_map}
use Rattle.std.specs.List.{list_any}
use Rattle.std.specs.Map.{lookup}
use Rattle.std.specs.Option.{option_eq}
use Rattle.widl_idl.specs.declared.callee.Callee.{Callee}
use Rattle.widl_idl.specs.declared.callee.Owner.{Owner}
use Rattle.widl_idl.specs.declared.callee.Owner.TheVariants as owner
use Rattle.widl_idl.specs.declared.callee.Part.{Part}
use Rattle.widl_idl.specs.declared.callee.Part.TheVariants as part
use Rattle.widl_script_tree.specs.declared.row.Row.{Row}
use Rattle.widl_script_tree.specs.declared.expression.Expression.{Expression}
use Rattle.widl_script_tree.specs.declared.expression.Expression.TheVariants as node
use Rattle.widl_script_tree.specs.declared.expression.MemberKey.{MemberKey}
use Rattle.widl_script_tree.specs.declared.expression.MemberKey.TheVariants as key
use Rattle.widl_script_tree.specs.declared.expression.MemberOf.{MemberOf}
use Rattle.widl_script_tree.specs.declared.statement.Statement.{Statement}
use Rattle.widl_script_tree.specs.declared.statement.Statement.TheVariants as line
use Rattle.widl_script_tree.specs.declared.function.Function.{Function}
use Rattle.widl_script_tree.specs.declared.steps.StepsBlock.{StepsBlock}
use Rattle.widl_script_tree.specs.declared.steps.StepLine.{StepLine}
use Rattle.widl_script_tree.specs.Rows.{most_nodes, no_row}
use Rattle.widl_script_tree.specs.Folded.{tree_in}
use Rattle.widl_script_tree.specs.Trees.{Text, ExpressionTree, UndefinedT, NullT, ThisT, NewSymbolT, NewObjectT, BoolT, NumberT, TextT, NameT, SymbolT, ObjectOfT, NewArrayT, MemberT, IndexT, CallT, NewT, CallWithT, ExpressionTrees, none, more, MemberTree, NamedT, ComputedT, whole_member, StatementTree, LetT, DoT, ReturnT, ThrowT, ShowT, SetT, DefineT, DefineAccessorT, DeleteT, TryT, IfT, FunctionT, StepsT, StatementTrees, no_statements, then_more, FunctionTree, function_statement, ScriptTree}

-- what a steps block is for: a callee, and for an operation or a constructor its overload
abbrev pub CalleeOverload : Type 0
CalleeOverload = Callee × Option ℕ

pub record Tables : Type 0 where
  pub expressions : List Expression
  pub statements : List Statement
  pub functions : List Function
  pub blocks : List StepsBlock
  pub names : List Text
  -- the interface or the namespace of a name, by the name's number
  pub owners : List (ℕ × Owner)
  -- the number of the block for a callee and an overload
  pub targets : List (CalleeOverload × ℕ)
  -- the statements outside functions
  pub top : Row

-- 1. What is read

-- past the end of the names each number has a text of its own, which no script has: its one unit is above 16 bits
abbrev pub name_or : ℕ → Option Text → Text
name_or number None = (65536 + number) ∷ []
name_or number (Some text) = text

-- a name by its number
abbrev pub name_at : Tables → ℕ → Text
name_at t number = name_or number (slice_get t.names number)

-- the same as the key of a member, which is empty past the end
abbrev pub key_at : Tables → ℕ → Text
key_at t number = slice_index_or t.names number []

abbrev pub no_statement : Statement
no_statement = line.Do most_nodes

abbrev pub no_function : Function
no_function = record { name = 0; params = []; names = []; body = no_row }

-- the nodes at a place, a function by its number; past the end the defaults
abbrev pub expression_at : Tables → ℕ → Expression
expression_at t place = slice_index_or t.expressions place node.Undefined

abbrev pub statement_at : Tables → ℕ → Statement
statement_at t place = slice_index_or t.statements place no_statement

abbrev pub function_at : Tables → ℕ → Function
function_at t number = slice_index_or t.functions number no_function

-- 2. Trees

-- the trees of a row
abbrev pub expressions_in : (ℕ → ExpressionTree) → ℕ → ℕ → ExpressionTrees
expressions_in tree first zero = none
expressions_in tree first (suc count) = more (tree first) (expressions_in tree (first + 1) count)

abbrev pub statements_in : (ℕ → StatementTree) → ℕ → ℕ → StatementTrees
statements_in tree first zero = no_statements
statements_in tree first (suc count) = then_more (tree first) (statements_in tree (first + 1) count)

abbrev pub object_tree : (ℕ → ExpressionTree) → Option ℕ → ExpressionTree
object_tree tree None = NewObjectT
object_tree tree (Some proto) = ObjectOfT (tree proto)

abbrev pub key_tree : Tables → (ℕ → ExpressionTree) → ExpressionTree → MemberKey → MemberTree
key_tree t tree of (key.Named number) = NamedT of (key_at t number)
key_tree t tree of (key.Computed place) = ComputedT of (tree place)

abbrev pub member_tree : Tables → (ℕ → ExpressionTree) → MemberOf → MemberTree
member_tree t tree m = key_tree t tree (tree m.of) m.key

-- what a node says, over any reading of the places that it names
abbrev pub opened : Tables → (ℕ → ExpressionTree) → Expression → ExpressionTree
opened t tree node.Undefined = UndefinedT
opened t tree node.Null = NullT
opened t tree (node.Bool b) = BoolT b
opened t tree (node.Number n) = NumberT n
opened t tree (node.Text units) = TextT units
opened t tree (node.Symbol k) = SymbolT k
opened t tree (node.Name number) = NameT (name_at t number)
opened t tree node.This = ThisT
opened t tree node.NewSymbol = NewSymbolT
opened t tree (node.NewObject proto) = object_tree tree proto
opened t tree (node.NewArray row) = NewArrayT (expressions_in tree row.first row.count)
opened t tree (node.Member m) = whole_member (member_tree t tree m)
opened t tree (node.Call callee args) = CallT (tree callee) (expressions_in tree args.first args.count)
opened t tree (node.CallWith callee this args) = CallWithT (tree callee) (tree this) (expressions_in tree args.first args.count)
opened t tree (node.New callee args) = NewT (tree callee) (expressions_in tree args.first args.count)
opened t tree (node.Item place) = tree place

-- the expression at a place
unfoldable pub expression_tree : Tables → ℕ → ExpressionTree
expression_tree t = tree_in (opened t) UndefinedT t.expressions

abbrev pub expressions_tree : Tables → Row → ExpressionTrees
expressions_tree t row = expressions_in (expression_tree t) row.first row.count

abbrev pub member_at : Tables → MemberOf → MemberTree
member_at t m = member_tree t (expression_tree t) m

-- a function, over any reading of the places of statements
abbrev pub function_over : Tables → (ℕ → StatementTree) → Function → FunctionTree
function_over t tree f = record { name = name_at t f.name; params = map (name_at t) f.params; names = map (name_at t) f.names; body = statements_in tree f.body.first f.body.count }

abbrev pub steps_statement : Option StepsBlock → StatementTree
steps_statement None = DoT UndefinedT
steps_statement (Some block) = StepsT block.target block.lines

-- what a statement's node says, over any reading of the places of statements
abbrev pub opened_statement : Tables → (ℕ → StatementTree) → Statement → StatementTree
opened_statement t tree (line.Let name value) = LetT (name_at t name) (expression_tree t value)
opened_statement t tree (line.Do value) = DoT (expression_tree t value)
opened_statement t tree (line.Set member value) = SetT (member_at t member) (expression_tree t value)
opened_statement t tree (line.Define member value hidden) = DefineT (member_at t member) (expression_tree t value) hidden
opened_statement t tree (line.DefineAccessor member getter setter) = DefineAccessorT (member_at t member) (expression_tree t getter) (option_map (expression_tree t) setter)
opened_statement t tree (line.Delete member) = DeleteT (member_at t member)
opened_statement t tree (line.Return value) = ReturnT (expression_tree t value)
opened_statement t tree (line.Throw value) = ThrowT (expression_tree t value)
opened_statement t tree (line.Show value) = ShowT (expression_tree t value)
opened_statement t tree (line.Try body name handler) = TryT (statements_in tree body.first body.count) (name_at t name) (statements_in tree handler.first handler.count)
opened_statement t tree (line.If left right met unmet) = IfT (expression_tree t left) (expression_tree t right) (statements_in tree met.first met.count) (statements_in tree unmet.first unmet.count)
opened_statement t tree (line.Function number) = function_statement number (function_over t tree (function_at t number))
opened_statement t tree (line.Steps number) = steps_statement (slice_get t.blocks number)
opened_statement t tree (line.Item place) = tree place

-- the statement at a place
unfoldable pub statement_tree : Tables → ℕ → StatementTree
statement_tree t = tree_in (opened_statement t) (DoT UndefinedT) t.statements

abbrev pub statements_tree : Tables → Row → StatementTrees
statements_tree t row = statements_in (statement_tree t) row.first row.count

abbrev pub function_tree : Tables → Function → FunctionTree
function_tree t f = function_over t (statement_tree t) f

-- the whole script
unfoldable pub script_tree : Tables → ScriptTree
script_tree t = record { functions = map (function_tree t) t.functions; top = statements_tree t t.top }

-- 3. What else is looked up

-- the interface or the namespace that has the name
abbrev pub owner_at : Tables → ℕ → Option Owner
owner_at t number = lookup (nat_eq number) t.owners

-- whether the name is local in the function
abbrev pub is_local_in : Tables → ℕ → ℕ → Bool
is_local_in t number name = list_any (nat_eq name) (function_at t number).names

abbrev pub same_owner : Owner → Owner → Bool
same_owner (owner.Iface a) (owner.Iface b) = nat_eq a b
same_owner (owner.Iface a) (owner.Space b) = false
same_owner (owner.Space a) (owner.Iface b) = false
same_owner (owner.Space a) (owner.Space b) = nat_eq a b

abbrev pub same_part : Part → Part → Bool
same_part (part.Op a) (part.Op b) = nat_eq a b
same_part part.Constructor part.Constructor = true
same_part (part.Get a) (part.Get b) = nat_eq a b
same_part (part.Set a) (part.Set b) = nat_eq a b
same_part part.Text part.Text = true
same_part _ _ = false

abbrev pub same_callee : Callee → Callee → Bool
same_callee a b = same_owner a.owner b.owner && same_part a.part b.part

abbrev pub same_overload : CalleeOverload → CalleeOverload → Bool
same_overload a b = same_callee a.0 b.0 && option_eq nat_eq a.1 b.1

abbrev pub lines_of : Tables → Option ℕ → Option (List StepLine)
lines_of t None = None
lines_of t (Some number) = option_map (λ block. block.lines) (slice_get t.blocks number)

-- the lines of the block for a callee and an overload
abbrev pub steps_at : Tables → Callee → Option ℕ → Option (List StepLine)
steps_at t callee overload = lines_of t (lookup (same_overload (callee, overload)) t.targets)
