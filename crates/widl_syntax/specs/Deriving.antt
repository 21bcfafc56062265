-- What the grammar derives of a file's tokens.
use Rattle.std.specs.Prelude.{◌≡◌, List, [], ◌∷◌, map}
use Rattle.widl_lex.specs.Tokens.{Lexeme}
use Rattle.widl_predictive.specs.Derivation.{Symbol, Terminal as Token, Nonterminal}
use Rattle.widl_predictive.specs.Grammar.{Leveled}
use Rattle.widl_predictive.specs.Runs as runs
use Rattle.widl_predictive.specs.Runs.{stripped}
use Rattle.widl_grammar.specs.declared.rule.Rule.{Rule}
use Rattle.widl_grammar.specs.declared.terminal.Terminal.{Terminal}
use Rattle.widl_grammar.specs.Rows.{grammar}
use Rattle.widl_grammar.specs.Tables.{sets}
use Rattle.widl_grammar.specs.Source.{terminal_of}
use Rattle.widl_syntax.specs.Leveled as leveled

abbrev pub Symbols : Type 0
Symbols = List (Symbol Terminal Rule)

abbrev pub token : Terminal → Symbols
token t = Token t ∷ []

abbrev pub part : Rule → Symbols
part rule = Nonterminal rule ∷ []

-- the tokens are what the symbols derive, by the rows that the token ahead picks, at whatever levels
abbrev pub AnyRuns : Symbols → List Lexeme → Type 0
AnyRuns symbols tokens = runs.Runs grammar sets symbols (map terminal_of tokens)

-- symbols with their levels
abbrev pub Stack : Type 0
Stack = List (Symbol Terminal (Leveled Rule))

-- the terminals are what the symbols derive at their levels, with no type of level 17
abbrev pub Levels : Stack → List Terminal → Type 0
Levels = leveled.Levels grammar sets

-- the terminals are what the symbols derive at some levels, with no type of level 17
abbrev pub RunsOf : Symbols → List Terminal → Type 0
RunsOf symbols w = (stack : Stack) × (stripped stack ≡ symbols) × Levels stack w

-- the tokens are
abbrev pub Runs : Symbols → List Lexeme → Type 0
Runs symbols tokens = RunsOf symbols (map terminal_of tokens)
