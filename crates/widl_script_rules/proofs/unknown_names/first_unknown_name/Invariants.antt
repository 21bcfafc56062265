use Rattle.std.proofs.Common.{flat_map, take}
use Rattle.widl_idl.specs.DefinitionTerms.{defs_term}
use Rattle.widl_script_rules.specs.Names.{unknown_in}
use Rattle.widl_script_rules.specs.Standings.{Standing, places_of, standings}
use Rattle.widl_script_rules.specs.Surroundings.{plain_lines}
use Rattle.widl_script_rules.proofs.FirstPlaces.{Firsts}
use Rattle.widl_script_rules.proofs.unknown_names.first_unknown_name.Given as goal

abbrev pub invariant-lines : goal.invariant-lines
invariant-lines l = Firsts (flat_map (λ (s : Standing). places_of 5 s.line (unknown_in (defs_term l.list) (standings (plain_lines l.lines)) s)) (take l.place (standings (plain_lines l.lines)))) l.first
