-- Functions whose name is another one's.
-- Source: this program's own.
use Rattle.std.specs.Prelude.{◌||◌, List, [], ◌∷◌, ◌++◌, filter}
use Rattle.widl_idl.specs.DefinitionTerms.{DefsTerm}
use Rattle.widl_lines.specs.declared.script_place.ScriptPlace.{ScriptPlace}
use Rattle.widl_lines.specs.Words.{Lexeme}
use Rattle.widl_script_rules.specs.Standings.{Standing, places_of}
use Rattle.widl_script_rules.specs.Names.{function_name, has_name, is_owner_name}

-- where functions of these names stand before the lines
abbrev pub repeated_after : DefsTerm → List Lexeme → List Standing → List ScriptPlace
repeated_after list names [] = []
repeated_after list names (s ∷ script) =
    places_of 8 s.line (filter (λ (w : Lexeme). has_name names w.text || is_owner_name list w.text) (function_name s.line)) ++ repeated_after list (names ++ function_name s.line) script

-- rule 8, of functions: one has the name of a function on an earlier line, or of an interface or a namespace: at the name
abbrev pub repeated_functions : DefsTerm → List Standing → List ScriptPlace
repeated_functions list script = repeated_after list [] script
