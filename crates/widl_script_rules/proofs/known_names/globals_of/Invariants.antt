use Rattle.std.proofs.Common.{◌≡◌, flat_map, List, ℕ, take}
use Rattle.widl_script_rules.specs.Names.{has_name}
use Rattle.widl_script_rules.specs.Standings.{standings}
use Rattle.widl_script_rules.specs.Surroundings.{bound_by_global, has_key, plain_lines}
use Rattle.widl_script_rules.proofs.known_names.globals_of.Given as goal

abbrev pub invariant-lines : goal.invariant-lines
invariant-lines l = (text : List ℕ) → has_key l.names.keys text ≡ has_name (flat_map bound_by_global (take l.place (standings (plain_lines l.lines)))) text
