-- Where functions, steps blocks and `return` may stand.
-- Source: this program's own.
use Rattle.std.specs.Prelude.{Bool, true, false, not, ◌&&◌, List, [], ◌∷◌, flat_map, take, is_some, if◌then◌else◌}
use Rattle.widl_lines.specs.declared.grammar.Terminal.{Terminal}
use Rattle.widl_lines.specs.declared.grammar.Terminal.TheVariants as terminal
use Rattle.widl_lines.specs.declared.script_place.ScriptPlace.{ScriptPlace}
use Rattle.widl_lines.specs.Blocks.{first_word}
use Rattle.widl_lines.specs.TextBreaks.{Line}
use Rattle.widl_script_rules.specs.Standings.{Standing, function_around, is_in_steps, places_of}

abbrev pub is_in_block : List Line → Bool
is_in_block [] = false
is_in_block (opening ∷ outer) = true

-- a line that begins with the word may not stand in these blocks: a function and a steps block stand in none, and `return`, where it is no step, in a function alone
abbrev pub is_misplaced : Terminal → List Line → Bool
is_misplaced terminal.Function around = is_in_block around
is_misplaced terminal.Steps around = is_in_block around
is_misplaced terminal.Return around = not (is_in_steps around) && not (is_some (function_around around))
is_misplaced first around = false

-- the first word of a line that is misplaced
abbrev pub misplaced_in : Standing → List ScriptPlace
misplaced_in s = if is_misplaced (first_word s.line.words) s.around then places_of 7 s.line (take 1 s.line.words) else []

-- rule 7: `function` or `steps` in a block, `return` outside functions: at the line's first word
abbrev pub misplaced_words : List Standing → List ScriptPlace
misplaced_words script = flat_map misplaced_in script
