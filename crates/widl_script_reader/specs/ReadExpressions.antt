-- For proofs alone. What code has put into tables, and what it has read of an expression.
use Rattle.std.specs.Prelude.{◌≡◌, ◌<◌, ◌≤◌, ◌+◌, ℕ, Bool, true, false, List, [], ◌∷◌, ◌++◌, length, drop, slice_index_or, All, ◌⊎◌}
use Rattle.widl_predictive.specs.Derivation.{Symbol, Terminal as Token, Nonterminal}
use Rattle.widl_lines.specs.declared.grammar.Rule.{Rule}
use Rattle.widl_lines.specs.declared.grammar.Rule.TheVariants as rule
use Rattle.widl_lines.specs.declared.grammar.Terminal.{Terminal}
use Rattle.widl_lines.specs.declared.grammar.Terminal.TheVariants as terminal
use Rattle.widl_lines.specs.Grammar.{grammar}
use Rattle.widl_lines.specs.Words.{Lexeme}
use Rattle.widl_script_tree.specs.declared.expression.Expression.{Expression}
use Rattle.widl_script_tree.specs.declared.expression.Expression.TheVariants as node
use Rattle.widl_script_tree.specs.declared.expression.MemberOf.{MemberOf}
use Rattle.widl_script_tree.specs.declared.row.Row.{Row}
use Rattle.widl_script_tree.specs.Trees.{Text, ExpressionTree, ExpressionTrees, none, more}
use Rattle.widl_script_tree.specs.Tables.{Tables, name_at, key_at, expression_at, expression_tree, expressions_tree, member_at, opened}
use Rattle.widl_script_tree.specs.Parts.{IsLower, IsMember}
use Rattle.widl_script_tree.specs.Growth.{Grown}
use Rattle.widl_script_reader.specs.declared.forms.Form.{Form}
use Rattle.widl_script_reader.specs.declared.forms.Form.TheVariants as form
use Rattle.widl_script_reader.specs.declared.forms.Link.{Link}
use Rattle.widl_script_reader.specs.declared.forms.Link.TheVariants as link
use Rattle.widl_script_words.specs.Signs.{Sign, ◌⧺◌, word}
use Rattle.widl_script_words.specs.SpelledExpressions.{signs, member_signs}
use Rattle.widl_script_words.specs.Reading.{Symbols, Reads, IfAhead, part}

-- 1. What is put

-- no two numbers are of one name
abbrev pub Distinct : List Text → Type 0
Distinct names = (i j : ℕ) → i < length names → j < length names → slice_index_or names i [] ≡ slice_index_or names j [] → i ≡ j

-- expressions and names were put, and nothing else
pub record Widens (old new : Tables) : Type 0 where
  pub grown : Grown old new
  pub differ : Distinct old.names → Distinct new.names
  pub statements : new.statements ≡ old.statements
  pub functions : new.functions ≡ old.functions
  pub blocks : new.blocks ≡ old.blocks

-- an expression was put at the place
pub record IsPut (e : Expression) (place : ℕ) (old new : Tables) : Type 0 where
  pub widens : Widens old new
  pub place_is : place ≡ length old.expressions
  pub longer : length old.expressions < length new.expressions
  pub held : expression_at new place ≡ e

-- the text is a name of the number
pub record IsNamed (text : Text) (number : ℕ) (old new : Tables) : Type 0 where
  pub widens : Widens old new
  pub same : length new.expressions ≡ length old.expressions
  pub within : number < length new.names
  pub name : name_at new number ≡ text
  pub key : key_at new number ≡ text

-- the trees at these places
abbrev pub trees_at : Tables → List ℕ → ExpressionTrees
trees_at t [] = none
trees_at t (place ∷ places) = more (expression_tree t place) (trees_at t places)

abbrev pub AllWithin : Tables → List ℕ → Type 0
AllWithin t places = All (λ place. place < length t.expressions) places

-- a row has the trees at these places, in whatever the tables grow to
pub record IsRow (t : Tables) (row : Row) (places : List ℕ) : Type 0 where
  pub lower : row.first + row.count ≤ length t.expressions
  pub trees : (u : Tables) → Grown t u → expressions_tree u row ≡ trees_at u places

-- 2. What was read

-- the tree at the place, in whatever the tables grow to, is what was read
pub record Holds (before after : Symbols) (t : Tables) (place : ℕ) (from to : List Lexeme) : Type 0 where
  pub within : place < length t.expressions
  pub reads : (u : Tables) → Grown t u → Reads before after (signs (expression_tree u place)) from to

-- the words of the tree at a place are those of the tree at another one, and then what was read
pub record Continues (link : Symbols) (t : Tables) (of place : ℕ) (from to : List Lexeme) : Type 0 where
  pub within : place < length t.expressions
  pub more : (u : Tables) → Grown t u → (x : List Sign) × (signs (expression_tree u place) ≡ signs (expression_tree u of) ⧺ x) × Reads link [] x from to

-- the member, in whatever the tables grow to, is what was read
pub record HoldsMember (t : Tables) (m : MemberOf) (from to : List Lexeme) : Type 0 where
  pub is_member : IsMember t m
  pub reads : (u : Tables) → Grown t u → Reads (part rule.Member) [] (member_signs (member_at u m)) from to

-- the places of a list that was read are put after those that were there
pub record Lists (before after : Symbols) (spelled : ExpressionTrees → List Sign) (t : Tables) (old new : List ℕ) (from to : List Lexeme) : Type 0 where
  pub places : List ℕ
  pub is : new ≡ old ++ places
  pub within : AllWithin t places
  pub reads : (u : Tables) → Grown t u → Reads before after (spelled (trees_at u places)) from to

-- the items of a row, and what closes them
pub record HoldsRow (before : Symbols) (spelled : ExpressionTrees → List Sign) (t : Tables) (row : Row) (from to : List Lexeme) : Type 0 where
  pub lower : row.first + row.count ≤ length t.expressions
  pub reads : (u : Tables) → Grown t u → Reads before [] (spelled (expressions_tree u row) ⧺ word terminal.CloseParen) from to

-- the word ahead was taken as a name, by its number
pub record IsNameAhead (old new : Tables) (number : ℕ) (from to : List Lexeme) : Type 0 where
  pub same : length new.expressions ≡ length old.expressions
  pub within : number < length new.names
  pub name : IfAhead from (λ w. name_at new number ≡ w.text)
  pub key : IfAhead from (λ w. key_at new number ≡ w.text)
  pub rest : to ≡ drop 1 from

-- 3. What a word begins

-- a primary of one word that says all
abbrev pub is_leaf : Terminal → Bool
is_leaf terminal.Undefined = true
is_leaf terminal.Null = true
is_leaf terminal.True = true
is_leaf terminal.False = true
is_leaf terminal.This = true
is_leaf terminal.Nan = true
is_leaf terminal.Infinity = true
is_leaf terminal.MinusInfinity = true
is_leaf terminal.IteratorSymbol = true
is_leaf terminal.ToPrimitiveSymbol = true
is_leaf terminal.ToStringTagSymbol = true
is_leaf _ = false

pub record IsLeaf (t : Terminal) (e : Expression) : Type 0 where
  pub known : is_leaf t ≡ true
  pub lower : (u : Tables) (n : ℕ) → IsLower u n e
  pub spelled : (u : Tables) (tree : ℕ → ExpressionTree) → signs (opened u tree e) ≡ word t

-- a primary of several words, or of one with a value, other than a name
abbrev pub is_formed : Terminal → Bool
is_formed terminal.Natural = true
is_formed terminal.Negative = true
is_formed terminal.Text = true
is_formed terminal.Symbol = true
is_formed terminal.Object = true
is_formed terminal.Array = true
is_formed terminal.Call = true
is_formed terminal.New = true
is_formed _ = false

abbrev pub Begins : Form → Terminal → Type 0
Begins form.Integer a = (a ≡ terminal.Natural) ⊎ (a ≡ terminal.Negative)
Begins form.Text a = a ≡ terminal.Text
Begins form.Symbol a = a ≡ terminal.Symbol
Begins form.Object a = a ≡ terminal.Object
Begins form.Array a = a ≡ terminal.Array
Begins form.CallWith a = a ≡ terminal.Call
Begins form.New a = a ≡ terminal.New

-- an expression goes on with this
abbrev pub is_link : Terminal → Bool
is_link terminal.Dot = true
is_link terminal.OpenBracket = true
is_link terminal.OpenParen = true
is_link _ = false

abbrev pub link_terminal : Link → Terminal
link_terminal link.Dot = terminal.Dot
link_terminal link.Bracket = terminal.OpenBracket
link_terminal link.Paren = terminal.OpenParen

-- what the grammar has for it
abbrev pub link_part : Link → Symbols
link_part link.Dot = Token terminal.Dot ∷ Nonterminal rule.AnyName ∷ []
link_part link.Bracket = part rule.Index
link_part link.Paren = part rule.Arguments

-- what may stand after an expression that is to end in a member: more, until a member ends it
abbrev pub member_tail : Bool → Rule
member_tail true = rule.MemberRest
member_tail false = rule.MemberTail

abbrev pub ends_member : Link → Bool
ends_member link.Dot = true
ends_member link.Bracket = true
ends_member link.Paren = false

abbrev pub is_member : Expression → Bool
is_member (node.Member m) = true
is_member _ = false
