use Rattle.std.proofs.Common.{◌≡◌, List, map, take}
use Rattle.widl_idl.specs.DefinitionTerms.{DefsTerm}
use Rattle.widl_lines.specs.TextBreaks.{Line}
use Rattle.widl_lines.specs.WordTerms.{lexeme_of}
use Rattle.widl_script_rules.specs.KnownNames.{unknown_words, InScope}
use Rattle.widl_script_rules.specs.Names.{names_in}
use Rattle.widl_script_rules.specs.Standings.{places_of}
use Rattle.widl_script_rules.specs.Surroundings.{plain_line, plain_lines}
use Rattle.widl_script_rules.proofs.FirstPlaces.{Firsts}
use Rattle.widl_script_rules.proofs.UnknownWords.{passed_after}
use Rattle.widl_script_rules.proofs.unknown_names.Scope.first_unknown.Given as goal

abbrev pub invariant-words : goal.invariant-words
invariant-words l =
    (l.is_passed ≡ passed_after l.passed (take l.word-index (map lexeme_of l.words))) ×
    ((list : DefsTerm) (around : List Line) → InScope list l.self around →
    Firsts (places_of 5 (plain_line l.self.line.now) (unknown_words list (plain_lines l.self.lines.now) around (names_in l.passed (take l.word-index (map lexeme_of l.words))))) l.first)
