-- Which parts of a line lie inside a bracket: each lies one level further in than the bracket, and nothing else does.
use Rattle.std.specs.Prelude.{◌≡◌, ◌&&◌, not, nat_eq, is_some, if◌then◌else◌, Bool, true, false, Option, Some, None, List, [], ◌∷◌, Contains}
use Rattle.widl_predictive.specs.declared.grammar.Symbol.{Symbol}
use Rattle.widl_predictive.specs.declared.grammar.Symbol.TheVariants.{Token, Part, Inner}
use Rattle.widl_lines.specs.declared.grammar.Rule.{Rule}
use Rattle.widl_lines.specs.declared.grammar.Terminal.{Terminal}
use Rattle.widl_lines.specs.declared.grammar.Terminal.TheVariants.{OpenParen, CloseParen, OpenBracket, CloseBracket}
use Rattle.widl_lines.specs.TerminalNumbers.{terminal_code}
use Rattle.widl_lines.specs.Grammar.{rows_of, begins_bracket}

abbrev pub Row : Type 0
Row = List (Symbol Terminal Rule)

-- the sign that closes what the word opens: `(` and `[` open a bracket
abbrev pub closing : Terminal → Option Terminal
closing OpenParen = Some CloseParen
closing OpenBracket = Some CloseBracket
closing _ = None

abbrev pub is_sign : Terminal → Terminal → Bool
is_sign a b = nat_eq (terminal_code a) (terminal_code b)

-- no bracket opens in what stands outside of brackets, and no part of it is one level further in
abbrev pub is_outside : Row → Bool
is_outside [] = true
is_outside (Token t ∷ more) = not (is_some (closing t)) && is_outside more
is_outside (Part part ∷ more) = is_outside more
is_outside (Inner part ∷ more) = false

-- up to the sign that closes the bracket every part is one level further in, and no other bracket opens
abbrev pub is_inside : Terminal → Row → Bool
is_inside close [] = false
is_inside close (Token t ∷ more) = if is_sign t close then is_outside more else (not (is_some (closing t)) && is_inside close more)
is_inside close (Part part ∷ more) = false
is_inside close (Inner part ∷ more) = is_inside close more

-- a row that begins with a bracket
abbrev pub is_bracket : Row → Bool
is_bracket [] = false
is_bracket (Token t ∷ more) = is_behind (closing t) more
  where
    is_behind : Option Terminal → Row → Bool
    is_behind None row = false
    is_behind (Some close) row = is_inside close row
is_bracket (Part part ∷ more) = false
is_bracket (Inner part ∷ more) = false

-- every row of a rule that begins a level begins with a bracket, and no other row has one
abbrev pub is_leveled : Rule → Row → Bool
is_leveled rule row = if begins_bracket rule then is_bracket row else is_outside row

abbrev pub AreMarked : Type 0
AreMarked = (rule : Rule) (row : Row) → Contains (rows_of rule) row → is_leveled rule row ≡ true
