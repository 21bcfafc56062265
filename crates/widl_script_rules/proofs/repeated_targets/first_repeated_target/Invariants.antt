use Rattle.widl_first.specs.Keys.{IsFirst}
use Rattle.widl_idl.specs.DefinitionTerms.{DefsTerm}
use Rattle.widl_script_rules.specs.LeastBreak.{place_key}
use Rattle.widl_script_rules.specs.Lookups.{AreOpenings}
use Rattle.widl_script_rules.specs.Surroundings.{plain_lines}
use Rattle.widl_script_rules.proofs.LineWalks.{Below}
use Rattle.widl_script_rules.proofs.RepeatedTargets.{ArePassed, RepeatsAt}
use Rattle.widl_script_rules.proofs.repeated_targets.first_repeated_target.Given as goal

abbrev pub invariant-lines : goal.invariant-lines
invariant-lines l =
    (list : DefsTerm) → AreOpenings list (plain_lines l.lines) l.openings → ArePassed list (plain_lines l.lines) l.passed.keys l.place × IsFirst place_key (Below (plain_lines l.lines) (RepeatsAt list (plain_lines l.lines)) l.place) l.first
