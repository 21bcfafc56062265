-- For proofs alone. The names that the program has gathered.
use Rattle.std.specs.Prelude.{◌≡◌, ℕ, Bool, ◌&&◌, List, [], filter, not, Option, Some, None, if◌then◌else◌}
use Rattle.widl_idl.specs.DefinitionTerms.{DefsTerm}
use Rattle.widl_lines.specs.declared.script_place.ScriptPlace.{ScriptPlace}
use Rattle.widl_lines.specs.Words.{Lexeme}
use Rattle.widl_lines.specs.TextBreaks.{Line}
use Rattle.widl_script_rules.specs.declared.known_names.KnownNames.{KnownNames}
use Rattle.widl_script_rules.specs.declared.unknown_names.Scope.{Scope}
use Rattle.widl_script_rules.specs.Standings.{function_around, place_of, standings}
use Rattle.widl_script_rules.specs.Names.{globals_of, has_name, is_known, is_owner_name, names_in}
use Rattle.widl_script_rules.specs.Surroundings.{has_key, plain_lines, HasLocals, HasParameters, IsFunction}

-- the sets have the names that are local, those that are bound outside functions, and those of the list
pub record Knows (list : DefsTerm) (lines : List Line) (k : KnownNames) : Type 0 where
  pub parameters : HasParameters lines k.parameters.keys
  pub locals : HasLocals lines k.locals.keys
  pub globals : (text : List ℕ) → has_key k.globals.keys text ≡ has_name (globals_of (standings lines)) text
  pub owners : (text : List ℕ) → has_key k.owners.keys text ≡ is_owner_name list text

-- those of the words that are unknown where these blocks are around
abbrev pub unknown_words : DefsTerm → List Line → List Line → List Lexeme → List Lexeme
unknown_words list lines around words = filter (λ (w : Lexeme). not (is_known list (standings lines) (function_around around) w.text)) words

-- the blocks around the line, and what is known
pub record InScope (list : DefsTerm) (s : Scope) (around : List Line) : Type 0 where
  pub known : Knows list (plain_lines s.lines.now) s.known.now
  pub function : IsFunction (plain_lines s.lines.now) s.function around

-- the place of a word that is asked for and isn't known
abbrev pub place_unless : Line → Bool → Bool → Lexeme → Option ScriptPlace
place_unless line asked known word = if asked && not known then Some (place_of 5 line word) else None

-- the names that words use, of which the first may be passed over, or none
abbrev pub used_where : Option Bool → List Lexeme → List Lexeme
used_where None words = []
used_where (Some passed) words = names_in passed words
