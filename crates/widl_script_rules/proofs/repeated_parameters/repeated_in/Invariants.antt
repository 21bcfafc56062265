use Rattle.std.proofs.Common.{◌≡◌, List, ℕ, [], map, take}
use Rattle.widl_lines.specs.WordTerms.{lexeme_of}
use Rattle.widl_script_rules.specs.Names.{has_name}
use Rattle.widl_script_rules.specs.RepeatedParameters.{repeated_words}
use Rattle.widl_script_rules.specs.Standings.{places_of}
use Rattle.widl_script_rules.specs.Surroundings.{has_key, plain_line}
use Rattle.widl_script_rules.proofs.FirstPlaces.{Firsts}
use Rattle.widl_script_rules.proofs.RepeatedWords.{named}
use Rattle.widl_script_rules.proofs.repeated_parameters.repeated_in.Given as goal

abbrev pub invariant-words : goal.invariant-words
invariant-words l =
    ((text : List ℕ) → has_key l.names.keys text ≡ has_name (named (take l.word-index (map lexeme_of l.words))) text) ×
    Firsts (places_of 8 (plain_line l.line) (repeated_words [] (named (take l.word-index (map lexeme_of l.words))))) l.first
