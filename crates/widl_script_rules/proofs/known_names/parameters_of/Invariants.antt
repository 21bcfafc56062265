use Rattle.std.proofs.Common.{◌≡◌, ◌&&◌, List, ℕ, nat_lt, slice_get, Some}
use Rattle.widl_lines.specs.TextBreaks.{Line}
use Rattle.widl_script_rules.specs.Names.{has_name, parameters_in}
use Rattle.widl_script_rules.specs.Surroundings.{has_pair, plain_lines}
use Rattle.widl_script_rules.proofs.known_names.parameters_of.Given as goal

abbrev pub invariant-lines : goal.invariant-lines
invariant-lines l = (place : ℕ) (opening : Line) (text : List ℕ) → slice_get (plain_lines l.lines) place ≡ Some opening →
    has_pair l.names.keys place text ≡ (nat_lt place l.place && has_name (parameters_in opening) text)
