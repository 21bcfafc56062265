-- What a tree says of the tokens that it stands for.
use Rattle.std.specs.Prelude.{◌≡◌, ℕ, Bool, true, List, [], ◌∷◌, ◌++◌, length, map, take}
use Rattle.widl_text.specs.declared.place.Place.{Place}
use Rattle.widl_lex.specs.Tokens.{Lexeme}
use Rattle.widl_predictive.specs.Grammar.{Sentence}
use Rattle.widl_grammar.specs.declared.rule.Rule.{Rule}
use Rattle.widl_grammar.specs.declared.terminal.Terminal.{Terminal}
use Rattle.widl_grammar.specs.Rows.{grammar}
use Rattle.widl_grammar.specs.Source.{terminal_of}

-- a token by its place and its bytes
pub record Text : Type 0 where
  pub at : Place
  pub bytes : List ℕ

-- a sign of tokens: the next token stands at the place (which is no token of its own); a token of the terminal; one of the terminal with these bytes; one of a terminal that passes the test with these bytes; tokens with these texts, which the rows of the rule derive; nothing that any tokens are
pub data Sign : Type 0 where
  AtPlace : Place → Sign
  OfTerminal : Terminal → Sign
  OfBytes : Terminal → List ℕ → Sign
  OfText : (Terminal → Bool) → List ℕ → Sign
  OfPart : Rule → List Text → Sign
  Nowhere : Sign

-- the texts are the tokens between two of a file
abbrev pub AreTexts : List Text → List Lexeme → List Lexeme → Type 0
AreTexts [] from to = from ≡ to
AreTexts (t ∷ more) from to = (l : Lexeme) × (rest : List Lexeme) × (from ≡ l ∷ rest) × (l.at ≡ t.at) × (l.text ≡ t.bytes) × AreTexts more rest to

-- the sign stands for the tokens between two of a file
abbrev pub Stands : Sign → List Lexeme → List Lexeme → Type 0
Stands (AtPlace place) from to = (l : Lexeme) × (rest : List Lexeme) × (from ≡ l ∷ rest) × (l.at ≡ place) × (to ≡ from)
Stands (OfTerminal t) from to = (l : Lexeme) × (from ≡ l ∷ to) × (terminal_of l ≡ t)
Stands (OfBytes t bytes) from to = (l : Lexeme) × (from ≡ l ∷ to) × (terminal_of l ≡ t) × (l.text ≡ bytes)
Stands (OfText test bytes) from to = (l : Lexeme) × (from ≡ l ∷ to) × (test (terminal_of l) ≡ true) × (l.text ≡ bytes)
Stands (OfPart rule texts) from to = AreTexts texts from to × Sentence grammar rule (take (length texts) (map terminal_of from))
Stands Nowhere from to = ⊥

-- the signs in order stand for the tokens between two of a file
abbrev pub UnparsesTo : List Sign → List Lexeme → List Lexeme → Type 0
UnparsesTo [] from to = from ≡ to
UnparsesTo (sign ∷ more) from to = (next : List Lexeme) × Stands sign from next × UnparsesTo more next to

infixr 60 ◌⧺◌
-- signs one after the other
abbrev pub ◌⧺◌ : List Sign → List Sign → List Sign
a ⧺ b = a ++ b

-- one sign
abbrev pub word : Terminal → List Sign
word t = OfTerminal t ∷ []

abbrev pub at : Place → List Sign
at place = AtPlace place ∷ []

-- the signs of each item, one after the other
abbrev pub all_signs : {X : Type 0} → (X → List Sign) → List X → List Sign
all_signs one [] = []
all_signs one (x ∷ more) = one x ⧺ all_signs one more

-- an item after a separator
abbrev pub after : {X : Type 0} → Terminal → (X → List Sign) → X → List Sign
after separator one x = word separator ⧺ one x

-- items with a separator between each two
abbrev pub separated : {X : Type 0} → Terminal → (X → List Sign) → List X → List Sign
separated separator one [] = []
separated separator one (x ∷ more) = one x ⧺ all_signs (after separator one) more
