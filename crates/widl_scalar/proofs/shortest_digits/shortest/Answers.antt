use Rattle.std.proofs.Common.{sym, ◌∙◌}
use Rattle.widl_scalar.proofs.DecimalMultiples.{digit_first, digit_next, digit_smaller}
use Rattle.widl_scalar.proofs.ShortestWords.{reached_end, reached_first, reached_next}
use Rattle.widl_scalar.proofs.shortest_digits.shortest.Goals as goal

pub loop-w-init : goal.loop-w-init
unfolding digit_first
loop-w-init c = (digit_first _ c.requires.some, reached_first _ c.requires.some c.requires.limit)

pub ten_step-requires-clause-ten : goal.ten_step-requires-clause-ten
ten_step-requires-clause-ten c = c.loop-w.invariant.0.ten

pub returns-in-Some-clause-value : goal.returns-in-Some-clause-value
returns-in-Some-clause-value c = reached_end _ _ _ _ c.requires.limit c.requires.short c.loop-w.invariant.1 (c.ten_step.ensures.tens _ c.loop-w.invariant.0.is) (sym c.round_at.ensures.value ∙ c.in-Some.is)

pub loop-w-smaller : goal.loop-w-smaller
loop-w-smaller c = digit_smaller _ _ c.loop-w.invariant.0 (digit_next _ _ c.requires.short c.requires.limit c.loop-w.invariant.0 (c.round_at.ensures.none c.in_default.is _ (c.ten_step.ensures.tens _ c.loop-w.invariant.0.is)))

pub loop-w-preserved : goal.loop-w-preserved
unfolding digit_next
loop-w-preserved c =
    let tens = c.ten_step.ensures.tens _ c.loop-w.invariant.0.is in (
      digit_next _ _ c.requires.short c.requires.limit c.loop-w.invariant.0 (c.round_at.ensures.none c.in_default.is _ tens),
      reached_next _ _ _ c.requires.limit c.requires.short c.loop-w.invariant.1 tens (sym c.round_at.ensures.value ∙ c.in_default.is),
    )
