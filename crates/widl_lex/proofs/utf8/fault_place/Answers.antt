use Rattle.std.proofs.Common.{arith}
use Rattle.widl_lex.proofs.Computed.{all_bytes}
use Rattle.widl_lex.proofs.Characters.{utf8_run_more, fault_within, fault_at_end, no_fault}
use Rattle.widl_lex.proofs.utf8.fault_place.Goals as goal

pub returns-then-state-eq-UTF8_DEAD : goal.returns-then-state-eq-UTF8_DEAD
returns-then-state-eq-UTF8_DEAD c =
    let all = all_bytes c.args.bytes.now (λ i. omega (arith, c.type_inv.bytes i)) in
    let at = utf8_run_more c.args.bytes.now all c.loop-place.place c.loop-place.state c.next_state-state.result c.loop-place-test.true c.loop-place.invariant.state c.next_state-state.ensures.next in
    fault_within c.args.bytes.now all c.loop-place.place c.loop-place.state c.next_state-state.result c.loop-place-test.true c.loop-place.invariant.state c.loop-place.invariant.alive at c.if-state-eq-UTF8_DEAD.true

pub loop-place-preserved : goal.loop-place-preserved
loop-place-preserved c =
    let all = all_bytes c.args.bytes.now (λ i. omega (arith, c.type_inv.bytes i)) in
    record {
      small = c.next_state-state.ensures.small;
      state = utf8_run_more c.args.bytes.now all c.loop-place.place c.loop-place.state c.next_state-state.result c.loop-place-test.true c.loop-place.invariant.state c.next_state-state.ensures.next;
      alive = c.if-state-eq-UTF8_DEAD.false;
    }

pub returns : goal.returns
returns c =
    let all = all_bytes c.args.bytes.now (λ i. omega (arith, c.type_inv.bytes i)) in
    fault_at_end c.args.bytes.now all c.loop-place.place c.loop-place.state (omega arith) c.loop-place.invariant.state c.loop-place.invariant.alive
    (λ zero. c.requires (no_fault c.args.bytes.now all c.loop-place.place c.loop-place.state (omega arith) c.loop-place.invariant.state zero))
