-- For proofs alone. What code has read of a line's words by a part of the grammar.
use Rattle.std.specs.Prelude.{List, [], ◌∷◌, ◌++◌, map}
use Rattle.widl_predictive.specs.Derivation.{Symbol, Terminal as Token, Nonterminal}
use Rattle.widl_predictive.specs.Runs as runs
use Rattle.widl_lines.specs.declared.grammar.Rule.{Rule}
use Rattle.widl_lines.specs.declared.grammar.Terminal.{Terminal}
use Rattle.widl_lines.specs.declared.grammar.Terminal.TheVariants as terminal
use Rattle.widl_lines.specs.Grammar.{grammar}
use Rattle.widl_lines.specs.Tables.{sets}
use Rattle.widl_lines.specs.Words.{Lexeme}
use Rattle.widl_script_words.specs.Signs.{Sign, Spells}

abbrev pub Symbols : Type 0
Symbols = List (Symbol Terminal Rule)

abbrev pub token : Terminal → Symbols
token t = Token t ∷ []

abbrev pub part : Rule → Symbols
part r = Nonterminal r ∷ []

abbrev pub terminal_of : Lexeme → Terminal
terminal_of w = w.terminal

-- the words are what the symbols derive, by the rows that the word ahead picks
abbrev pub Runs : Symbols → List Lexeme → Type 0
Runs symbols words = runs.Runs grammar sets symbols (map terminal_of words)

-- where the words are what the symbols derive before any others, the signs stand for the words up to `to`, and what `after` derives is still to come
pub record Reads (before after : Symbols) (x : List Sign) (from to : List Lexeme) : Type 0 where
  pub reads : (others : Symbols) → Runs (before ++ others) from → Spells x from to × Runs (after ++ others) to

-- no words that the part derives are there
abbrev pub Never : Symbols → List Lexeme → Type 0
Never symbols from = (others : Symbols) → Runs (symbols ++ others) from → ⊥

-- the terminal ahead; at the end the one that no line has
abbrev pub terminal_ahead : List Lexeme → Terminal
terminal_ahead [] = terminal.Unknown
terminal_ahead (w ∷ words) = w.terminal

-- the fact holds of the word ahead, if there is one
abbrev pub IfAhead : List Lexeme → (Lexeme → Type 0) → Type 0
IfAhead [] P = Unit {0}
IfAhead (w ∷ words) P = P w
