use Rattle.std.proofs.Common.{◌≡◌, ◌&&◌, ◌||◌, List, ℕ, map, nat_eq, take}
use Rattle.widl_lines.specs.WordTerms.{lexeme_of}
use Rattle.widl_script_rules.specs.Names.{has_name}
use Rattle.widl_script_rules.specs.Surroundings.{has_pair}
use Rattle.widl_script_rules.proofs.RepeatedWords.{named}
use Rattle.widl_script_rules.proofs.known_names.add_parameters.Given as goal

abbrev pub invariant-words : goal.invariant-words
invariant-words l = (number : ℕ) (text : List ℕ) → has_pair l.names.keys number text ≡
    (has_pair l.fn.names.keys number text || (nat_eq number l.place && has_name (named (take l.word-index (map lexeme_of l.words))) text))
