-- Parameters whose name is an earlier one's of the same function.
-- Source: this program's own.
use Rattle.std.specs.Prelude.{List, [], ◌∷◌, ◌++◌, flat_map, if◌then◌else◌}
use Rattle.widl_lines.specs.declared.script_place.ScriptPlace.{ScriptPlace}
use Rattle.widl_lines.specs.Words.{Lexeme}
use Rattle.widl_script_rules.specs.Standings.{Standing, places_of}
use Rattle.widl_script_rules.specs.Names.{has_name, parameters_in}

-- the words of which one of these, or an earlier one, has the text
abbrev pub repeated_words : List Lexeme → List Lexeme → List Lexeme
repeated_words before [] = []
repeated_words before (w ∷ words) = (if has_name before w.text then w ∷ [] else []) ++ repeated_words (before ++ w ∷ []) words

abbrev pub repeated_parameters_in : Standing → List ScriptPlace
repeated_parameters_in s = places_of 8 s.line (repeated_words [] (parameters_in s.line))

-- rule 8, of parameters: at the later one
abbrev pub repeated_parameters : List Standing → List ScriptPlace
repeated_parameters script = flat_map repeated_parameters_in script
