use Rattle.std.proofs.Common.{ap, arith, inr, ◌∙◌, sym, ◌<◌, ◌≡◌, length, nat_eq, suc, ◌+◌, ◌-◌}
use Rattle.widl_overload.specs.sets.Sets.{is_free}
use Rattle.widl_store.proofs.RealmSteps.{needed_more, counted_more, past_end}
use Rattle.widl_store.proofs.functions.needed.Goals as goal
use Rattle.widl_store.proofs.functions.needed.Goals.{then-count-gt0-via-then-count-gt0, then-count-gt0-via-else-count-gt0+then-not-is_free}

pub loop-place-preserved-in-loop-place : goal.loop-place-preserved-in-loop-place
loop-place-preserved-in-loop-place c =
    let next : c.loop-place.place ≡ suc (c.loop-place.place - 1) = omega (arith, c.loop-place-test.true) in
    let small : c.loop-place.place - 1 < length c.args.args.now = omega (arith, c.loop-place.invariant.0, c.loop-place-test.true) in
    elim c.then-count-gt0.branch [
      | then-count-gt0-via-then-count-gt0 w ↦ (omega (arith, c.loop-place.invariant.0), counted_more c.args.args.now c.loop-place.place (c.loop-place.place - 1) c.loop-place.count next small c.loop-place.invariant.1 w.if-count-gt0.true)
      | then-count-gt0-via-else-count-gt0+then-not-is_free w ↦ (omega (arith, c.loop-place.invariant.0), needed_more c.args.args.now w.index-args-place.result c.loop-place.place (c.loop-place.place - 1) c.loop-place.count next small w.index-args-place.is c.loop-place.invariant.1 (inr (ap (is_free w.index-args-place.result.opt) (sym (past_end c.args.args.now (c.loop-place.place - 1) small)) ∙ ap (λ a. is_free a.opt (nat_eq (c.loop-place.place - 1 + 1) (length c.args.args.now))) w.index-args-place.is ∙ sym w.is_free.ensures ∙ w.if-not-is_free.true)))
    ]
