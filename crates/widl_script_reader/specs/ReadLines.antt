-- For proofs alone. What a line of a script says.
use Rattle.std.specs.Prelude.{◌≡◌, ℕ, Bool, true, false, List, [], ◌++◌, map, length, All, Option, option_map}
use Rattle.widl_lines.specs.declared.grammar.Rule.TheVariants as rule
use Rattle.widl_lines.specs.declared.grammar.Terminal.{Terminal}
use Rattle.widl_lines.specs.declared.grammar.Terminal.TheVariants as terminal
use Rattle.widl_lines.specs.Words.{Lexeme}
use Rattle.widl_script_tree.specs.declared.expression.MemberKey.TheVariants as key
use Rattle.widl_script_tree.specs.declared.expression.MemberOf.{MemberOf}
use Rattle.widl_script_tree.specs.declared.statement.Statement.{Statement}
use Rattle.widl_script_tree.specs.declared.statement.Statement.TheVariants as statement
use Rattle.widl_script_tree.specs.Trees.{Text}
use Rattle.widl_script_tree.specs.Tables.{Tables, name_at, expression_tree, statement_tree, opened_statement}
use Rattle.widl_script_tree.specs.Parts.{IsName, IsExpression, IsLowerOption, IsLowerStatement}
use Rattle.widl_script_tree.specs.Growth.{Grown}
use Rattle.widl_script_reader.specs.declared.forms.Head.{Head}
use Rattle.widl_script_reader.specs.declared.forms.Head.TheVariants as head
use Rattle.widl_script_words.specs.Signs.{Sign, ◌⧺◌, word, name}
use Rattle.widl_script_words.specs.SpelledExpressions.{signs}
use Rattle.widl_script_words.specs.SpelledStatements.{statement_signs, setter_signs, name_list}
use Rattle.widl_script_words.specs.Reading.{Symbols, Reads, part, token}

-- what a line begins with
abbrev pub is_head : Terminal → Bool
is_head terminal.Let = true
is_head terminal.Do = true
is_head terminal.Set = true
is_head terminal.Define = true
is_head terminal.Delete = true
is_head terminal.Return = true
is_head terminal.Throw = true
is_head terminal.Show = true
is_head _ = false

abbrev pub head_terminal : Head → Terminal
head_terminal head.Let = terminal.Let
head_terminal head.Do = terminal.Do
head_terminal head.Set = terminal.Set
head_terminal head.Define = terminal.Define
head_terminal head.Delete = terminal.Delete
head_terminal head.Return = terminal.Return
head_terminal head.Throw = terminal.Throw
head_terminal head.Show = terminal.Show

-- only for contracts of code: a member where there is none
abbrev pub any_member : MemberOf
any_member = record { of = 0; key = key.Computed 0 }

-- a statement that stands in one line
abbrev pub is_alone : Statement → Bool
is_alone (statement.Try body name handler) = false
is_alone (statement.If left right met unmet) = false
is_alone (statement.Function number) = false
is_alone (statement.Steps number) = false
is_alone (statement.Item place) = false
is_alone _ = true

-- the statement, in whatever the tables grow to, is the line that was read
pub record HoldsLine (t : Tables) (s : Statement) (from to : List Lexeme) : Type 0 where
  pub alone : is_alone s ≡ true
  pub lower : (place : ℕ) → IsLowerStatement t place s
  pub reads : (u : Tables) → Grown t u → Reads (part rule.Line) [] (statement_signs (opened_statement u (statement_tree u) s)) from to

-- a value, in whatever the tables grow to, is what was read after `=`
pub record HoldsAssigned (t : Tables) (value : ℕ) (from to : List Lexeme) : Type 0 where
  pub is_expression : IsExpression t value
  pub reads : (u : Tables) → Grown t u → Reads (token terminal.Equals ++ part rule.Expression) [] (word terminal.Equals ⧺ signs (expression_tree u value)) from to

-- a getter and perhaps a setter, in whatever the tables grow to, are what was read
pub record HoldsAccessor (t : Tables) (getter : ℕ) (setter : Option ℕ) (from to : List Lexeme) : Type 0 where
  pub is_expression : IsExpression t getter
  pub is_option : IsLowerOption (length t.expressions) setter
  pub reads : (u : Tables) → Grown t u → Reads (part rule.DefineRest) [] (word terminal.Get ⧺ signs (expression_tree u getter) ⧺ setter_signs (option_map (expression_tree u) setter)) from to

-- the two expressions of an `if`, in whatever the tables grow to, are what was read after it
pub record HoldsIf (t : Tables) (left right : ℕ) (from to : List Lexeme) : Type 0 where
  pub is_left : IsExpression t left
  pub is_right : IsExpression t right
  pub reads : (u : Tables) → Grown t u → Reads (part rule.Expression ++ token terminal.Is ++ part rule.Expression) [] (signs (expression_tree u left) ⧺ word terminal.Is ⧺ signs (expression_tree u right)) from to

-- the names of a list that was read, by their numbers, are put after those that were there
pub record NameLists (before after : Symbols) (spelled : List Text → List Sign) (t : Tables) (old new : List ℕ) (from to : List Lexeme) : Type 0 where
  pub numbers : List ℕ
  pub is : new ≡ old ++ numbers
  pub within : All (IsName t) numbers
  pub reads : (u : Tables) → Grown t u → Reads before after (spelled (map (name_at u) numbers)) from to

-- a function's name and parameters, in whatever the tables grow to, are what was read after `function`
pub record HoldsFunction (t : Tables) (number : ℕ) (params : List ℕ) (from to : List Lexeme) : Type 0 where
  pub is_name : IsName t number
  pub are_names : All (IsName t) params
  pub reads : (u : Tables) → Grown t u → Reads (part rule.Name ++ part rule.Parameters) [] (name (name_at u number) ⧺ word terminal.OpenParen ⧺ name_list (map (name_at u) params) ⧺ word terminal.CloseParen) from to
