-- The terminals and places of a file's tokens, and its fault.
use Rattle.std.specs.Prelude.{◌≡◌, ℕ, Option, Some, None, List, map, slice_get, unwrap_or}
use Rattle.widl_text.specs.declared.place.Place.{Place}
use Rattle.widl_lex.specs.declared.token.TokenKind.{TokenKind}
use Rattle.widl_lex.specs.declared.token.TokenKind.TheVariants.{Quoted, Integer, Decimal, Identifier, Text, Other}
use Rattle.widl_lex.specs.Tokens.{Lexeme, TokenList}
use Rattle.widl_predictive.specs.declared.fault.Fault.TheVariants as machine
use Rattle.widl_predictive.specs.Grammar.{IsFault}
use Rattle.widl_grammar.specs.declared.fault.SyntaxFault.{SyntaxFault}
use Rattle.widl_grammar.specs.declared.fault.SyntaxFault.TheVariants.{Syntax, TooDeep, Memory}
use Rattle.widl_grammar.specs.declared.rule.Rule.TheVariants.{Definitions}
use Rattle.widl_grammar.specs.declared.terminal.Terminal.{Terminal}
use Rattle.widl_grammar.specs.declared.terminal.Terminal.TheVariants as word
use Rattle.widl_grammar.specs.Rows.{grammar}
use Rattle.widl_grammar.specs.Words.{quoted}

-- the terminal of a text of a kind
abbrev pub terminal_by : TokenKind → List ℕ → Terminal
terminal_by Quoted text = unwrap_or (quoted text) word.Other
terminal_by Integer text = word.Integer
terminal_by Decimal text = word.Decimal
terminal_by Identifier text = word.Identifier
terminal_by Text text = word.String
terminal_by Other text = word.Other

abbrev pub terminal_of : Lexeme → Terminal
terminal_of lexeme = terminal_by lexeme.kind lexeme.text

abbrev pub terminals_of : TokenList → List Terminal
terminals_of tokens = map terminal_of tokens.lexemes

-- the place of a token, or else the end
abbrev pub place_by : Option Lexeme → Place → Place
place_by None end = end
place_by (Some lexeme) end = lexeme.at

-- the place of the token of that number, or the file's length
abbrev pub place_of : TokenList → ℕ → Place
place_of tokens k = place_by (slice_get tokens.lexemes k) (record { file = tokens.file; at = tokens.end })

-- the fault of a file: that of its terminals, at the place of its token
abbrev pub IsFaultOf : TokenList → SyntaxFault → Type 0
IsFaultOf tokens (Syntax place) = (k : ℕ) × IsFault grammar Definitions (terminals_of tokens) (machine.Syntax k) × (place ≡ place_of tokens k)
IsFaultOf tokens (TooDeep place) = (k : ℕ) × IsFault grammar Definitions (terminals_of tokens) (machine.TooDeep k) × (place ≡ place_of tokens k)
IsFaultOf tokens Memory = ⊥
