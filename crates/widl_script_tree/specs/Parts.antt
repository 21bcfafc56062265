-- Where the parts of a node stand, so that each node has a tree.
use Rattle.std.specs.Prelude.{◌≡◌, ℕ, ◌+◌, ◌<◌, ◌≤◌, List, length, All, Option, Some, None}
use Rattle.widl_script_tree.specs.declared.row.Row.{Row}
use Rattle.widl_script_tree.specs.declared.expression.Expression.{Expression}
use Rattle.widl_script_tree.specs.declared.expression.Expression.TheVariants as node
use Rattle.widl_script_tree.specs.declared.expression.MemberKey.{MemberKey}
use Rattle.widl_script_tree.specs.declared.expression.MemberKey.TheVariants as key
use Rattle.widl_script_tree.specs.declared.expression.MemberOf.{MemberOf}
use Rattle.widl_script_tree.specs.declared.statement.Statement.{Statement}
use Rattle.widl_script_tree.specs.declared.statement.Statement.TheVariants as line
use Rattle.widl_script_tree.specs.declared.function.Function.{Function}
use Rattle.widl_script_tree.specs.Rows.{most_nodes}
use Rattle.widl_script_tree.specs.Tables.{Tables, name_at, expression_at, statement_at, function_at}

abbrev pub IsName : Tables → ℕ → Type 0
IsName t number = number < length t.names

-- the places of a row are below this one
abbrev pub IsLowerRow : ℕ → Row → Type 0
IsLowerRow place row = row.first + row.count ≤ place

abbrev pub IsLowerOption : ℕ → Option ℕ → Type 0
IsLowerOption place None = Unit {0}
IsLowerOption place (Some part) = part < place

abbrev pub IsLowerKey : Tables → ℕ → MemberKey → Type 0
IsLowerKey t place (key.Named number) = IsName t number
IsLowerKey t place (key.Computed part) = part < place

abbrev pub IsLowerMember : Tables → ℕ → MemberOf → Type 0
IsLowerMember t place m = (m.of < place) × IsLowerKey t place m.key

-- the parts of an expression are at places below this one, and its names are names
abbrev pub IsLower : Tables → ℕ → Expression → Type 0
IsLower t place (node.Name number) = IsName t number
IsLower t place (node.NewObject proto) = IsLowerOption place proto
IsLower t place (node.NewArray row) = IsLowerRow place row
IsLower t place (node.Member m) = IsLowerMember t place m
IsLower t place (node.Call callee args) = (callee < place) × IsLowerRow place args
IsLower t place (node.CallWith callee this args) = (callee < place) × (this < place) × IsLowerRow place args
IsLower t place (node.New callee args) = (callee < place) × IsLowerRow place args
IsLower t place (node.Item part) = part < place
IsLower t place _ = Unit {0}

abbrev pub IsExpression : Tables → ℕ → Type 0
IsExpression t place = place < length t.expressions

abbrev pub IsMember : Tables → MemberOf → Type 0
IsMember t m = IsLowerMember t (length t.expressions) m

-- a statement's expressions and names are there, and the statements in it are at places below this one
abbrev pub IsLowerStatement : Tables → ℕ → Statement → Type 0
IsLowerStatement t place (line.Let name value) = IsName t name × IsExpression t value
IsLowerStatement t place (line.Do value) = IsExpression t value
IsLowerStatement t place (line.Set member value) = IsMember t member × IsExpression t value
IsLowerStatement t place (line.Define member value hidden) = IsMember t member × IsExpression t value
IsLowerStatement t place (line.DefineAccessor member getter setter) = IsMember t member × IsExpression t getter × IsLowerOption (length t.expressions) setter
IsLowerStatement t place (line.Delete member) = IsMember t member
IsLowerStatement t place (line.Return value) = IsExpression t value
IsLowerStatement t place (line.Throw value) = IsExpression t value
IsLowerStatement t place (line.Show value) = IsExpression t value
IsLowerStatement t place (line.Try body name handler) = IsLowerRow place body × IsName t name × IsLowerRow place handler
IsLowerStatement t place (line.If left right met unmet) = IsExpression t left × IsExpression t right × IsLowerRow place met × IsLowerRow place unmet
IsLowerStatement t place (line.Function number) = number < length t.functions
IsLowerStatement t place (line.Steps number) = number < length t.blocks
IsLowerStatement t place (line.Item part) = part < place

-- an item names a place below this one
abbrev pub IsLowerItem : ℕ → Statement → Type 0
IsLowerItem place (line.Item part) = part < place
IsLowerItem place _ = Unit {0}

-- the body of a function that stands at this place is below it
abbrev pub IsBodyLower : Tables → ℕ → Statement → Type 0
IsBodyLower t place (line.Function number) = IsLowerRow place (function_at t number).body
IsBodyLower t place _ = Unit {0}

-- a function's names are names, and its body is there
pub record IsFunction (t : Tables) (f : Function) : Type 0 where
  pub name : IsName t f.name
  pub params : All (IsName t) f.params
  pub names : All (IsName t) f.names
  pub body : IsLowerRow (length t.statements) f.body

-- what holds of every script's tables
pub record IsWhole (t : Tables) : Type 0 where
  pub lower : (place : ℕ) → place < length t.expressions → IsLower t place (expression_at t place)
  pub lower_statements : (place : ℕ) → place < length t.statements → IsLowerStatement t place (statement_at t place)
  pub lower_bodies : (place : ℕ) → place < length t.statements → IsBodyLower t place (statement_at t place)
  pub functions : All (IsFunction t) t.functions
  pub top : IsLowerRow (length t.statements) t.top
  -- no two numbers are of one name
  pub names_differ : (i j : ℕ) → name_at t i ≡ name_at t j → i ≡ j
  pub within : length t.expressions ≤ most_nodes
  pub statements_within : length t.statements ≤ most_nodes
  pub functions_within : length t.functions ≤ most_nodes
  pub blocks_within : length t.blocks ≤ most_nodes
  pub names_within : length t.names ≤ most_nodes
