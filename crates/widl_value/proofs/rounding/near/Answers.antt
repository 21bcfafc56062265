use Rattle.std.proofs.Common.{arith, sym}
use Rattle.std.proofs.lemmas.Nat.{div-add-mod', mod_below}
use Rattle.widl_value.proofs.NearUnique.{near_unique}
use Rattle.widl_value.proofs.NearWords.{near_of_near}
use Rattle.widl_value.proofs.ShortNumbers.{near_up, near_down, step_positive}
use Rattle.widl_value.proofs.rounding.near.Goals as goal

pub returns-then-rounds_up-clause-near : goal.returns-then-rounds_up-clause-near
returns-then-rounds_up-clause-near c = near_up _ _ _ _ c.step_of-step.ensures (sym (div-add-mod' _ _)) (mod_below _ _ (step_positive _ _ c.step_of-step.ensures)) (c.rounds_up.ensures.up c.if-rounds_up.true)

pub returns-else-rounds_up-clause-near : goal.returns-else-rounds_up-clause-near
returns-else-rounds_up-clause-near c = near_down _ _ _ _ c.step_of-step.ensures (sym (div-add-mod' _ _)) (mod_below _ _ (step_positive _ _ c.step_of-step.ensures)) (c.rounds_up.ensures.down c.if-rounds_up.false)

pub returns-then-rounds_up-clause-value : goal.returns-then-rounds_up-clause-value
returns-then-rounds_up-clause-value c = near_unique _ _ _ (returns-then-rounds_up-clause-near c) (near_of_near _ (omega arith))

pub returns-else-rounds_up-clause-value : goal.returns-else-rounds_up-clause-value
returns-else-rounds_up-clause-value c = near_unique _ _ _ (returns-else-rounds_up-clause-near c) (near_of_near _ (omega arith))
