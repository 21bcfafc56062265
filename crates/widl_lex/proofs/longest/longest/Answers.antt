use Rattle.std.proofs.Common.{◌+◌, ◌-◌, arith, subst, sym}
use Rattle.widl_lex.proofs.Computed.{all_bytes}
use Rattle.widl_lex.proofs.Table.{Best, run_more, best_run, best_done, dead_no}
use Rattle.widl_lex.proofs.longest.longest.Goals as goal

pub returns-then-state-eq-DEAD : goal.returns-then-state-eq-DEAD
returns-then-state-eq-DEAD c =
    let all = all_bytes c.args.text.now (λ i. omega (arith, c.type_inv.text i)) in
    let at = run_more c.args.text.now all c.loop-place.place c.loop-place.state c.next_state-state.result c.loop-place-test.true c.loop-place.invariant.state c.next_state-state.ensures.next in
    best_done c.args.text.now all c.loop-place.best c.loop-place.place (omega arith) (dead_no c.args.text.now all c.loop-place.place c.next_state-state.result at c.if-state-eq-DEAD.true) c.loop-place.invariant.best

pub loop-place-preserved : goal.loop-place-preserved
loop-place-preserved c =
    let all = all_bytes c.args.text.now (λ i. omega (arith, c.type_inv.text i)) in
    let at = run_more c.args.text.now all c.loop-place.place c.loop-place.state c.next_state-state.result c.loop-place-test.true c.loop-place.invariant.state c.next_state-state.ensures.next in
    let end = best_run c.args.text.now all c.loop-place.best (c.run_end-place.result - (c.loop-place.place + 1)) c.loop-place.place c.run_end-place.result c.next_state-state.result (omega (arith, c.run_end-place.ensures.within.0)) c.run_end-place.ensures.within.1 at c.run_end-place.ensures.kept c.loop-place.invariant.best in
    record {
      small = c.next_state-state.ensures.small;
      within = c.run_end-place.ensures.within.1;
      state = end.0;
      best = subst (λ x. Best x c.run_end-place.result c.args.text.now) (sym c.better-best.ensures) end.1;
    }
