use Rattle.std.proofs.Common.{◌≡◌, length}
use Rattle.widl_script_rules.specs.Surroundings.{around_at, plain_lines, AreAround, IsAround}
use Rattle.widl_script_rules.proofs.standings.surroundings.Given as goal

abbrev pub invariant-lines : goal.invariant-lines
invariant-lines l = (length l.all.items ≡ l.place) × AreAround (plain_lines l.lines) l.all.items × IsAround (plain_lines l.lines) l.place l.around (around_at (plain_lines l.lines) l.place)
