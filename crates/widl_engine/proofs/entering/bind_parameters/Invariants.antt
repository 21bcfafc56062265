use Rattle.std.proofs.Common.{◌≡◌, ◌≤◌, length, map, drop}
use Rattle.widl_script_tree.specs.Tables.{name_at}
use Rattle.widl_runs.specs.Worlds.{bound_parameters}
use Rattle.widl_engine.specs.Place.{named}
use Rattle.widl_engine.proofs.entering.bind_parameters.Given as goal

-- what is left to bind still leads to the same
abbrev pub invariant-each : goal.invariant-each
invariant-each l =
    (length l.args ≡ length l.fn.args)
    × (l.place ≤ l.count)
    × (bound_parameters (named (name_at l.script) l.locals) (map (name_at l.script) (drop l.place l.params)) (drop l.place l.args) ≡ bound_parameters (named (name_at l.script) l.fn.locals) (map (name_at l.script) l.params) l.fn.args)
