use Rattle.std.proofs.Common.{arith, refl, ◌∙◌}
use Rattle.widl_idl.specs.Sameness.{same_terms}
use Rattle.widl_script_rules.proofs.SameTypes.{at_end, stripped}
use Rattle.widl_script_rules.proofs.same_types.+same.Goals as goal

pub all_same-returns : goal.all_same-returns
all_same-returns t c =
    at_end c.as_slice-types.result.now c.as_slice-others.result.now c.loop-place.place _ (omega (arith, c.loop-place-test.false)) (omega (arith, c.loop-place.auto.place-end)) refl
    ∙ c.loop-place.invariant ∙ (λ i. same_terms (stripped (c.as_slice-types.ensures i)) (stripped (c.as_slice-others.ensures i)))
