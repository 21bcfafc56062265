use Rattle.widl_first.specs.Keys.{IsFirst}
use Rattle.widl_idl.specs.DefinitionTerms.{DefsTerm}
use Rattle.widl_script_rules.specs.LeastBreak.{place_key}
use Rattle.widl_script_rules.specs.Lookups.{AreOpenings}
use Rattle.widl_script_rules.specs.StepWalks.{InLine}
use Rattle.widl_script_rules.specs.Surroundings.{around_at, plain_lines}
use Rattle.widl_script_rules.specs.ListLookups.{AreListTables}
use Rattle.widl_script_rules.proofs.LineWalks.{Below}
use Rattle.widl_script_rules.proofs.step_walk.first_step_break.Given as goal

abbrev pub invariant-lines : goal.invariant-lines
invariant-lines l = (list : DefsTerm) → AreListTables list l.tables → AreOpenings list (plain_lines l.lines) l.openings →
    IsFirst place_key (Below (plain_lines l.lines) (λ k line p. InLine list (around_at (plain_lines l.lines) k) line p) l.place) l.first
