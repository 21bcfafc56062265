-- What a part of the grammar reads of a file's tokens.
use Rattle.std.specs.Prelude.{true, ◌≡◌, ◌≢◌, drop, List, [], ◌∷◌, ◌++◌}
use Rattle.widl_text.specs.declared.place.Place.{Place}
use Rattle.widl_idl.specs.declared.tree.names.Name.{Name}
use Rattle.widl_lex.specs.Tokens.{Lexeme}
use Rattle.widl_grammar.specs.declared.rule.Rule.{Rule}
use Rattle.widl_grammar.specs.declared.terminal.Terminal.{Terminal}
use Rattle.widl_grammar.specs.declared.terminal.Terminal.TheVariants.{Other}
use Rattle.widl_grammar.specs.Source.{terminal_of}
pub use Rattle.widl_syntax.specs.Deriving.{Symbols, token, part, Runs, RunsOf}
use Rattle.widl_syntax.specs.UnparsedNames.{name_bytes, is_escape_apart}
use Rattle.widl_syntax.specs.Signs.{Sign, UnparsesTo, all_signs}

-- where the tokens are what the symbols derive before any others, the signs stand for those of the symbols, and `to` is what the others derive
pub record Reads (symbols : Symbols) (signs : List Sign) (from to : List Lexeme) : Type 0 where
  pub reads : (others : Symbols) → Runs (symbols ++ others) from → UnparsesTo signs from to × Runs others to

-- the items of the rule's list are put after those that were there
pub record Appends {X : Type 0} (rule : Rule) (one : X → List Sign) (old new : List X) (from to : List Lexeme) : Type 0 where
  pub more : List X
  pub is : new ≡ old ++ more
  pub reads : Reads (part rule) (all_signs one more) from to

-- the terminal ahead; at the end the one that no sentence has
abbrev pub terminal_ahead : List Lexeme → Terminal
terminal_ahead [] = Other
terminal_ahead (l ∷ more) = terminal_of l

-- the fact holds of the token ahead, if there is one
abbrev pub IfAhead : List Lexeme → (Lexeme → Type 0) → Type 0
IfAhead [] P = Unit {0}
IfAhead (l ∷ more) P = P l

-- the token ahead was taken, and stood at the place
pub record IsTaken (place : Place) (from to : List Lexeme) : Type 0 where
  pub rest : to ≡ drop 1 from
  pub place_is : IfAhead from (λ l. place ≡ l.at)

-- the terminal was ahead, and its token was taken; or another was, and nothing was taken
pub record IsTakenAs (t : Terminal) (place : Place) (from to : List Lexeme) : Type 0 where
  pub ahead : terminal_ahead from ≡ t
  pub taken : IsTaken place from to

pub record IsPassedBy (t : Terminal) (from to : List Lexeme) : Type 0 where
  pub other : terminal_ahead from ≢ t
  pub same : to ≡ from

-- the token ahead was taken as a name
pub record IsName (name : Name) (from to : List Lexeme) : Type 0 where
  pub taken : IsTaken name.at from to
  pub bytes : IfAhead from (λ l. name_bytes name ≡ l.text)
  pub escape : IfAhead from (λ l. is_escape_apart name.escaped name.text ≡ true)
