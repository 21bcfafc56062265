use Rattle.std.proofs.Common.{take, flat_map}
use Rattle.widl_script_rules.specs.Placing.{misplaced_in}
use Rattle.widl_script_rules.specs.Standings.{standings}
use Rattle.widl_script_rules.specs.Surroundings.{plain_lines}
use Rattle.widl_script_rules.proofs.FirstPlaces.{Firsts}
use Rattle.widl_script_rules.proofs.placing.first_misplaced_word.Given as goal

abbrev pub invariant-lines : goal.invariant-lines
invariant-lines l = Firsts (flat_map misplaced_in (take l.place (standings (plain_lines l.lines)))) l.first
