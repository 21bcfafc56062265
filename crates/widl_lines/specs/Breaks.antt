-- The first rule that a line breaks, among open blocks.
use Rattle.std.specs.Prelude.{◌≡◌, ℕ, ◌<◌, ◌≤◌, ◌⊎◌, List, [], ◌∷◌, length, map, get_or, Bool, true, false, Option, Some, None}
use Rattle.widl_text.specs.Limits.{most_nested_blocks}
use Rattle.widl_first.specs.Keys.{IsFirst}
use Rattle.widl_predictive.specs.Grammar.{SyntaxPlace, DeepPlace, IsAccepted}
use Rattle.widl_lines.specs.declared.grammar.Terminal.{Terminal}
use Rattle.widl_lines.specs.declared.grammar.Rule.{Rule}
use Rattle.widl_lines.specs.declared.line_break.LineRule.{LineRule}
use Rattle.widl_lines.specs.declared.line_break.LineRule.TheVariants.{NoForm, TooDeep, TooLarge, NoBlock}
use Rattle.widl_lines.specs.declared.line_break.LineBreak.{LineBreak}
use Rattle.widl_lines.specs.declared.blocks.Block.{Block}
use Rattle.widl_lines.specs.Grammar.{grammar}
use Rattle.widl_lines.specs.Terminals.{is_large}
use Rattle.widl_lines.specs.Words.{Lexeme}
use Rattle.widl_lines.specs.Blocks.{innermost, change_by, is_opening, start_of}

-- the numbers of the rules, which are their order at one word
abbrev pub number : LineRule → ℕ
number NoForm = 2
number TooDeep = 3
number TooLarge = 4
number NoBlock = 6

abbrev pub terminals_of : List Lexeme → List Terminal
terminals_of words = map (λ word. word.terminal) words

-- which words are integers or texts that are too large
abbrev pub large_of : List Lexeme → List Bool
large_of words = map (λ word. is_large word.form word.text) words

-- the line's first word opens a block where as many are open as may be
abbrev pub OpensTooDeep : List Block → List Lexeme → ℕ → Type 0
OpensTooDeep blocks words k = (k ≡ 0) × (is_opening (change_by words blocks) ≡ true) × (most_nested_blocks ≤ length blocks)

-- the word at the number, from 0, breaks the rule in a line of these words, where these blocks are open
-- S2: the first word up to and including which no line begins, or the end of a line that ends too early
-- S3: the word opens the first bracket of the 33rd level, or the line the 33rd block
-- S4: the word is too large
-- S6: the line needs a block that isn't there
abbrev pub BreaksAt : List Block → List Lexeme → LineRule → ℕ → Type 0
BreaksAt blocks words NoForm k = SyntaxPlace grammar (start_of (innermost blocks)) (terminals_of words) k
BreaksAt blocks words TooDeep k = DeepPlace grammar (start_of (innermost blocks)) (terminals_of words) k ⊎ OpensTooDeep blocks words k
BreaksAt blocks words TooLarge k = get_or (large_of words) k false ≡ true
BreaksAt blocks words NoBlock k = (k ≡ 0) × (change_by words blocks ≡ None)

abbrev pub Breaks : List Block → List Lexeme → LineBreak → Type 0
Breaks blocks words b = BreaksAt blocks words b.rule b.word

-- by word, then rule
abbrev pub break_key : LineBreak → List ℕ
break_key b = b.word ∷ number b.rule ∷ []

-- what a line breaks first; a line that breaks nothing is a line of the grammar
abbrev pub LineBreaks : List Block → List Lexeme → Option LineBreak → Type 0
LineBreaks blocks words None = IsFirst break_key (Breaks blocks words) None × IsAccepted grammar (start_of (innermost blocks)) (terminals_of words)
LineBreaks blocks words (Some b) = IsFirst break_key (Breaks blocks words) (Some b)

abbrev pub WordsAt : Rule → List Lexeme → LineRule → ℕ → Type 0
WordsAt start words NoForm k = SyntaxPlace grammar start (terminals_of words) k
WordsAt start words TooDeep k = DeepPlace grammar start (terminals_of words) k
WordsAt start words TooLarge k = get_or (large_of words) k false ≡ true
WordsAt start words NoBlock k = ⊥

abbrev pub BlocksAt : List Block → List Lexeme → LineRule → ℕ → Type 0
BlocksAt blocks words NoForm k = ⊥
BlocksAt blocks words TooDeep k = OpensTooDeep blocks words k
BlocksAt blocks words TooLarge k = ⊥
BlocksAt blocks words NoBlock k = (k ≡ 0) × (change_by words blocks ≡ None)

-- only for contracts of code: what a line breaks by its words, and what by its first word among blocks
abbrev pub ByWords : Rule → List Lexeme → LineBreak → Type 0
ByWords start words b = WordsAt start words b.rule b.word

abbrev pub ByBlocks : List Block → List Lexeme → LineBreak → Type 0
ByBlocks blocks words b = BlocksAt blocks words b.rule b.word

abbrev pub NoneLarge : List Lexeme → ℕ → Type 0
NoneLarge words k = (j : ℕ) → j < k → get_or (large_of words) j false ≡ true → ⊥

abbrev pub WordBreaks : Rule → List Lexeme → Option LineBreak → Type 0
WordBreaks start words None = IsFirst break_key (ByWords start words) None × IsAccepted grammar start (terminals_of words)
WordBreaks start words (Some b) = IsFirst break_key (ByWords start words) (Some b)
