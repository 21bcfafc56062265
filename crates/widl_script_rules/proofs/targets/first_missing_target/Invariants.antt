use Rattle.widl_first.specs.Keys.{IsFirst}
use Rattle.widl_idl.specs.DefinitionTerms.{DefsTerm}
use Rattle.widl_script_rules.specs.LeastBreak.{place_key}
use Rattle.widl_script_rules.specs.Lookups.{AreOpenings, LacksIn}
use Rattle.widl_script_rules.specs.Surroundings.{plain_lines}
use Rattle.widl_script_rules.proofs.LineWalks.{Below}
use Rattle.widl_script_rules.proofs.targets.first_missing_target.Given as goal

abbrev pub invariant-lines : goal.invariant-lines
invariant-lines l = (list : DefsTerm) → AreOpenings list (plain_lines l.lines) l.openings → IsFirst place_key (Below (plain_lines l.lines) (λ k line p. LacksIn list line p) l.place) l.first
