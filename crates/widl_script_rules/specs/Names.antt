-- Which names a script may use.
-- Source: this program's own.
use Rattle.std.specs.Prelude.{ℕ, nat_eq, Bool, true, false, not, ◌||◌, List, [], ◌∷◌, ◌++◌, filter, flat_map, drop, bytes_eq, Option, Some, None, if◌then◌else◌}
use Rattle.std.specs.List.{list_any}
use Rattle.std.specs.Option.{option_eq}
use Rattle.widl_idl.specs.DefinitionTerms.{DefsTerm, IfaceTerm, SpaceTerm}
use Rattle.widl_lines.specs.declared.grammar.Terminal.{Terminal}
use Rattle.widl_lines.specs.declared.grammar.Terminal.TheVariants as terminal
use Rattle.widl_lines.specs.declared.script_place.ScriptPlace.{ScriptPlace}
use Rattle.widl_lines.specs.Words.{Lexeme}
use Rattle.widl_lines.specs.Blocks.{first_word}
use Rattle.widl_lines.specs.TextBreaks.{Line}
use Rattle.widl_script_words.specs.Words.{is_name}
use Rattle.widl_script_rules.specs.Standings.{Standing, function_around, is_in_steps, opens_function, places_of, second_word}

-- 1. What lines bind

abbrev pub bound_behind : Terminal → List Lexeme → List Lexeme
bound_behind terminal.Let words = second_word words
bound_behind terminal.Catch words = second_word words
bound_behind first words = []

-- the name that `let` or `catch` binds
abbrev pub bound_in : Line → List Lexeme
bound_in line = bound_behind (first_word line.words) line.words

-- the name of the function that the line opens
abbrev pub function_name : Line → List Lexeme
function_name line = if opens_function line then second_word line.words else []

-- and its parameters: the names behind its own
abbrev pub parameters_in : Line → List Lexeme
parameters_in line = if opens_function line then filter (λ (w : Lexeme). is_name w.terminal) (drop 2 line.words) else []

-- two lines of a script are one where they have one number
abbrev pub same_line : Line → Line → Bool
same_line a b = nat_eq a.number b.number

-- the line stands in this function, or outside functions where none is asked for
abbrev pub stands_in : Option Line → Standing → Bool
stands_in function s = option_eq same_line function (function_around s.around)

-- what `let` and `catch` bind at any depth of the function's body, but not in a function in it; where no function is asked for, outside functions
abbrev pub bound_where : List Standing → Option Line → List Lexeme
bound_where script function = flat_map (λ (s : Standing). if stands_in function s then bound_in s.line else []) script

-- the names of the functions that stand in no other one, also those in other blocks
abbrev pub functions_outside : List Standing → List Lexeme
functions_outside script = flat_map (λ (s : Standing). if stands_in None s then function_name s.line else []) script

-- 2. What is known

abbrev pub has_name : List Lexeme → List ℕ → Bool
has_name words text = list_any (λ (w : Lexeme). bytes_eq text w.text) words

-- the names that are local in a function; outside functions none
abbrev pub locals_of : List Standing → Option Line → List Lexeme
locals_of script None = []
locals_of script (Some function) = parameters_in function ++ bound_where script (Some function)

-- the names that are bound outside functions
abbrev pub globals_of : List Standing → List Lexeme
globals_of script = bound_where script None ++ functions_outside script

-- the name of an interface or a namespace
abbrev pub is_owner_name : DefsTerm → List ℕ → Bool
is_owner_name list text = list_any (λ (i : IfaceTerm). bytes_eq text i.name) list.ifaces || list_any (λ (n : SpaceTerm). bytes_eq text n.name) list.spaces

abbrev pub is_known : DefsTerm → List Standing → Option Line → List ℕ → Bool
is_known list script function text = has_name (locals_of script function) text || has_name (globals_of script) text || is_owner_name list text

-- 3. What lines use

abbrev pub is_dot : Terminal → Bool
is_dot terminal.Dot = true
is_dot word = false

-- the names of expressions: those that neither stand behind a dot, where each word of letters is a key, nor are the word to be passed over
abbrev pub names_in : Bool → List Lexeme → List Lexeme
names_in passed [] = []
names_in true (w ∷ words) = names_in (is_dot w.terminal) words
names_in false (w ∷ words) = (if is_name w.terminal then w ∷ [] else []) ++ names_in (is_dot w.terminal) words

-- behind a line's first word. The word behind `let` and `catch` is bound, not used; the lines that open functions and steps blocks use no names
abbrev pub used_behind : Terminal → List Lexeme → List Lexeme
used_behind terminal.Let words = names_in true words
used_behind terminal.Catch words = names_in true words
used_behind terminal.Function words = []
used_behind terminal.Steps words = []
used_behind first words = names_in false words

-- the names that a line uses; a step line uses none
abbrev pub used_in : Standing → List Lexeme
used_in s = if is_in_steps s.around then [] else used_behind (first_word s.line.words) (drop 1 s.line.words)

-- the names of a line that are unknown where it stands
abbrev pub unknown_in : DefsTerm → List Standing → Standing → List Lexeme
unknown_in list script s = filter (λ (w : Lexeme). not (is_known list script (function_around s.around) w.text)) (used_in s)

-- rule 5: a name is unknown: at it
abbrev pub unknown_names : DefsTerm → List Standing → List ScriptPlace
unknown_names list script = flat_map (λ (s : Standing). places_of 5 s.line (unknown_in list script s)) script
