use Rattle.std.proofs.Common.{◌≡◌, [], List, ℕ, take}
use Rattle.widl_idl.specs.DefinitionTerms.{defs_term}
use Rattle.widl_script_rules.specs.Names.{has_name, is_owner_name}
use Rattle.widl_script_rules.specs.RepeatedFunctions.{repeated_after}
use Rattle.widl_script_rules.specs.Standings.{standings}
use Rattle.widl_script_rules.specs.Surroundings.{has_key, plain_lines}
use Rattle.widl_script_rules.proofs.FirstPlaces.{Firsts}
use Rattle.widl_script_rules.proofs.RepeatedNames.{names_before}
use Rattle.widl_script_rules.proofs.repeated_functions.first_repeated_function.Given as goal

abbrev pub invariant-lines : goal.invariant-lines
invariant-lines l =
    ((text : List ℕ) → has_key l.taken.functions.keys text ≡ has_name (names_before (plain_lines l.lines) l.place) text) ×
    ((text : List ℕ) → has_key l.taken.owners.keys text ≡ is_owner_name (defs_term l.list) text) ×
    Firsts (repeated_after (defs_term l.list) [] (take l.place (standings (plain_lines l.lines)))) l.first
