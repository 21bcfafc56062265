use Rattle.std.proofs.Common.{◌≡◌, List, ℕ, Some, take}
use Rattle.widl_lines.specs.TextBreaks.{Line}
use Rattle.widl_script_rules.specs.Names.{bound_where, has_name}
use Rattle.widl_script_rules.specs.Standings.{standings}
use Rattle.widl_script_rules.specs.Surroundings.{has_pair, plain_lines}
use Rattle.widl_script_rules.proofs.known_names.locals_of.Given as goal

abbrev pub invariant-lines : goal.invariant-lines
invariant-lines l = (function : Line) (text : List ℕ) → has_pair l.names.keys function.number text ≡ has_name (bound_where (take l.place (standings (plain_lines l.lines))) (Some function)) text
