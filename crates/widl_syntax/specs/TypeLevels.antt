-- For proofs alone. How deep a type nests that is read at a level.
use Rattle.std.specs.Prelude.{ℕ, ◌+◌, ◌≤◌, List, ◌++◌, map}
use Rattle.widl_lex.specs.Tokens.{Lexeme}
use Rattle.widl_predictive.specs.declared.grammar.Symbol.{Symbol}
use Rattle.widl_predictive.specs.Grammar.{row_at}
use Rattle.widl_grammar.specs.declared.rule.Rule.{Rule}
use Rattle.widl_grammar.specs.declared.terminal.Terminal.{Terminal}
use Rattle.widl_grammar.specs.Rows.{grammar}
use Rattle.widl_grammar.specs.Source.{terminal_of}
use Rattle.widl_syntax.specs.Deriving.{Stack, Levels}

abbrev pub Row : Type 0
Row = List (Symbol Terminal Rule)

-- where the row is read at a level of types, a type with so many levels fits from that level on
pub record Nests (row : Row) (levels : ℕ) (from : List Lexeme) : Type 0 where
  pub nests : (l : ℕ) (others : Stack) → Levels (row_at grammar l row ++ others) (map terminal_of from) → l ≤ 16 → l + levels ≤ 17

-- the same of a row that begins a type, which is read at no other level
pub record BeginsNested (row : Row) (levels : ℕ) (from : List Lexeme) : Type 0 where
  pub nests : (l : ℕ) (others : Stack) → Levels (row_at grammar l row ++ others) (map terminal_of from) → l + levels ≤ 17
