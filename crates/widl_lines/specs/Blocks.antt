-- The open blocks of a script, and what a line's first word does to them.
use Rattle.std.specs.Prelude.{List, [], ◌∷◌, Bool, true, false, Option, Some, None}
use Rattle.widl_lines.specs.declared.grammar.Terminal.{Terminal}
use Rattle.widl_lines.specs.declared.grammar.Terminal.TheVariants as terminal
use Rattle.widl_lines.specs.declared.grammar.Rule.{Rule}
use Rattle.widl_lines.specs.declared.grammar.Rule.TheVariants.{Line, StepLine}
use Rattle.widl_lines.specs.declared.blocks.Block.{Block}
use Rattle.widl_lines.specs.declared.blocks.Block.TheVariants.{Function, Steps, Try, Catch, If, Else}
use Rattle.widl_lines.specs.declared.blocks.Change.{Change}
use Rattle.widl_lines.specs.declared.blocks.Change.TheVariants.{Stay, Open, Turn, Close}
use Rattle.widl_lines.specs.Words.{Lexeme}

-- what a line that begins with the word does, where this block is innermost; none where the word's block isn't there
abbrev pub change_of : Terminal → Option Block → Option Change
change_of terminal.Function inside = Some (Open Function)
change_of terminal.Steps inside = Some (Open Steps)
change_of terminal.Try inside = Some (Open Try)
change_of terminal.If inside = Some (Open If)
change_of terminal.Catch (Some Try) = Some (Turn Catch)
change_of terminal.Catch _ = None
change_of terminal.Else (Some If) = Some (Turn Else)
change_of terminal.Else _ = None
change_of terminal.End None = None
change_of terminal.End (Some Try) = None
change_of terminal.End _ = Some Close
change_of _ inside = Some Stay

abbrev pub innermost : List Block → Option Block
innermost [] = None
innermost (block ∷ outer) = Some block

abbrev pub outer : List Block → List Block
outer [] = []
outer (block ∷ blocks) = blocks

-- the open blocks after the change, the innermost first
abbrev pub changed : Change → List Block → List Block
changed Stay blocks = blocks
changed (Open block) blocks = block ∷ blocks
changed (Turn block) blocks = block ∷ outer blocks
changed Close blocks = outer blocks

-- the open blocks after a line that begins with the word
abbrev pub after_change : Option Change → List Block → List Block
after_change None blocks = blocks
after_change (Some change) blocks = changed change blocks

abbrev pub is_opening : Option Change → Bool
is_opening (Some (Open block)) = true
is_opening _ = false

-- the rule of the grammar by which a line is read
abbrev pub start_of : Option Block → Rule
start_of (Some Steps) = StepLine
start_of _ = Line

-- the first word of a line that has words; any other line changes nothing, as one that begins with `do`
abbrev pub first_word : List Lexeme → Terminal
first_word [] = terminal.Do
first_word (word ∷ words) = word.terminal

-- what a line of these words does among the open blocks
abbrev pub change_by : List Lexeme → List Block → Option Change
change_by words blocks = change_of (first_word words) (innermost blocks)

-- the blocks that are open after a line of these words
abbrev pub blocks_after : List Lexeme → List Block → List Block
blocks_after words blocks = after_change (change_by words blocks) blocks
