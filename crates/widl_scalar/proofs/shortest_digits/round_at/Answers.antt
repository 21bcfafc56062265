use Rattle.std.proofs.Common.{sym}
use Rattle.std.proofs.lemmas.Nat.{div-add-mod', mod_below}
use Rattle.widl_scalar.proofs.DecimalMultiples.{high_taken, low_taken, none_taken}
use Rattle.widl_scalar.proofs.shortest_digits.round_at.Goals as goal

pub returns-then-rounds_up-clause-found : goal.returns-then-rounds_up-clause-found
returns-then-rounds_up-clause-found c = high_taken _ _ _ _ c.requires.short c.requires.limit (sym (div-add-mod' _ _)) (mod_below _ _ c.requires.positive) (c.rounds_to-high.ensures.yes c.if-high.true) (λ _. c.rounds_up.ensures.up c.if-rounds_up.true)

pub returns-else-rounds_up-clause-found : goal.returns-else-rounds_up-clause-found
returns-else-rounds_up-clause-found c = low_taken _ _ _ _ c.requires.short c.requires.limit (sym (div-add-mod' _ _)) (mod_below _ _ c.requires.positive) (c.rounds_to-low.ensures.yes c.if-low.true) (λ _. c.rounds_up.ensures.down c.if-rounds_up.false)

pub returns-else-low-clause-found : goal.returns-else-low-clause-found
returns-else-low-clause-found c = high_taken _ _ _ _ c.requires.short c.requires.limit (sym (div-add-mod' _ _)) (mod_below _ _ c.requires.positive) (c.rounds_to-high.ensures.yes c.if-high.true) (λ near. absurd (c.rounds_to-low.ensures.no c.if-low.false near))

pub returns-then-low-2-clause-found : goal.returns-then-low-2-clause-found
returns-then-low-2-clause-found c = low_taken _ _ _ _ c.requires.short c.requires.limit (sym (div-add-mod' _ _)) (mod_below _ _ c.requires.positive) (c.rounds_to-low.ensures.yes c.if-low-2.true) (λ near. absurd (c.rounds_to-high.ensures.no c.if-high.false near))

pub returns-else-low-2-clause-none : goal.returns-else-low-2-clause-none
returns-else-low-2-clause-none c _ = none_taken _ _ _ _ c.requires.short c.requires.limit (sym (div-add-mod' _ _)) (mod_below _ _ c.requires.positive) (c.rounds_to-low.ensures.no c.if-low-2.false) (c.rounds_to-high.ensures.no c.if-high.false)
