use Rattle.std.proofs.Common.{◌≡◌, Some, refl, sym, ◌∙◌, subst, ap, arith, length}
use Rattle.widl_predictive.specs.Grammar.{SyntaxPlace}
use Rattle.widl_predictive.specs.declared.machine.Top.TheVariants.{Wanted}
use Rattle.widl_predictive.specs.Machine.{stack_of, NoDeepBelow}
use Rattle.widl_predictive.proofs.Steps.{stack_first, something}
use Rattle.widl_predictive.proofs.Places.{Kept, kept_start, unwanted_fault, left_fault, next_kept, deep_fault, sentence_of, ahead_at-some, end_is}
use Rattle.widl_predictive.proofs.Unfolding.{none_kept}
use Rattle.widl_predictive.proofs.machine.run_machine.Goals as goal

pub loop-place-init : goal.loop-place-init
loop-place-init g c = record {
  stack = subst (Kept g.R.Rule.grammar g.R.Rule.sets g.met.R.Rule.predictive c.args.start c.args.tokens.now 0) (sym (stack_first c.new-stack.result.items _ _ c.new-stack.ensures.items c.in_ok-push.ensures.items)) (kept_start g.R.Rule.grammar g.R.Rule.sets g.met.R.Rule.predictive c.args.start c.requires c.args.tokens.now);
  known = none_kept g.R.Rule.grammar g.R.Rule.sets _ c.in_ok-known.ensures;
}

pub returns-then-not-is_wanted-clause-fault : goal.returns-then-not-is_wanted-clause-fault
returns-then-not-is_wanted-clause-fault g c = let r = c.in_ok-unfolded.ensures.unfolded in
    unwanted_fault g.R.Rule.grammar g.R.Rule.sets g.met.R.Rule.predictive c.args.start c.args.tokens.now c.loop-place.place (stack_of c.loop-place.stack.items) (stack_of c.unfold_known.new.stack.items) c.in_ok-unfolded.unfolded.top _ _ c.loop-place.invariant.stack r.0 (ap Some c.index-tokens-place.is ∙ sym (ahead_at-some g.R.Rule.grammar g.R.Rule.sets g.met.R.Rule.predictive c.args.start _ _ _ c.loop-place-test.true)) (omega (arith, c.loop-place-test.true)) c.index-tokens-place.result r.1 refl c.if-not-is_wanted.ensures

pub returns-then-unfolded-clause-fault : goal.returns-then-unfolded-clause-fault
returns-then-unfolded-clause-fault g c = let r = c.in_ok-unfolded.ensures.unfolded in
    deep_fault g.R.Rule.grammar g.R.Rule.sets g.met.R.Rule.predictive c.args.start c.args.tokens.now c.loop-place.place (stack_of c.loop-place.stack.items) (stack_of c.unfold_known.new.stack.items) c.in_ok-unfolded.unfolded.top _ _ c.loop-place.invariant.stack r.0 (ap Some c.index-tokens-place.is ∙ sym (ahead_at-some g.R.Rule.grammar g.R.Rule.sets g.met.R.Rule.predictive c.args.start _ _ _ c.loop-place-test.true)) (omega (arith, c.loop-place-test.true)) c.index-tokens-place.result c.loop-place-test.true (ap Some c.index-tokens-place.is) (c.if-not-is_wanted.ensures ∙ ap Wanted c.index-tokens-place.is) c.if-unfolded.true

pub loop-place-preserved : goal.loop-place-preserved
loop-place-preserved g c = let r = c.in_ok-unfolded.ensures.unfolded in
    record {
      stack = next_kept g.R.Rule.grammar g.R.Rule.sets g.met.R.Rule.predictive c.args.start c.args.tokens.now c.loop-place.place (stack_of c.loop-place.stack.items) (stack_of c.unfold_known.new.stack.items) c.in_ok-unfolded.unfolded.top _ _ c.loop-place.invariant.stack r.0 (ap Some c.index-tokens-place.is ∙ sym (ahead_at-some g.R.Rule.grammar g.R.Rule.sets g.met.R.Rule.predictive c.args.start _ _ _ c.loop-place-test.true)) (omega (arith, c.loop-place-test.true)) c.index-tokens-place.result c.loop-place-test.true (ap Some c.index-tokens-place.is) (c.if-not-is_wanted.ensures ∙ ap Wanted c.index-tokens-place.is) c.if-unfolded.false;
      known = c.in_ok-unfolded.ensures.kept;
    }

pub returns-in-Nothing-clause-ok : goal.returns-in-Nothing-clause-ok
returns-in-Nothing-clause-ok g c = let r = c.in_ok-unfolded-2.ensures in
    let e : c.loop-place.place ≡ length c.args.tokens.now = omega (arith, c.loop-place.auto.place-end) in
    sentence_of g.R.Rule.grammar g.R.Rule.sets g.met.R.Rule.predictive c.args.start c.args.tokens.now c.loop-place.place (stack_of c.loop-place.stack.items) (stack_of c.unfold.new.stack.items) c.in_ok-unfolded-2.unfolded.top _ _ c.loop-place.invariant.stack r.0 (end_is g.R.Rule.grammar g.R.Rule.sets g.met.R.Rule.predictive c.args.start _ _ e) (omega (arith, e)) e refl c.in-Nothing.is

pub returns-clause-fault : goal.returns-clause-fault
returns-clause-fault g c = let r = c.in_ok-unfolded-2.ensures in
    let e : c.loop-place.place ≡ length c.args.tokens.now = omega (arith, c.loop-place.auto.place-end) in
    subst (λ k. SyntaxPlace g.R.Rule.grammar c.args.start c.args.tokens.now k × NoDeepBelow g.R.Rule.grammar c.args.start c.args.tokens.now k) e (left_fault g.R.Rule.grammar g.R.Rule.sets g.met.R.Rule.predictive c.args.start c.args.tokens.now c.loop-place.place (stack_of c.loop-place.stack.items) (stack_of c.unfold.new.stack.items) c.in_ok-unfolded-2.unfolded.top _ _ c.loop-place.invariant.stack r.0 (end_is g.R.Rule.grammar g.R.Rule.sets g.met.R.Rule.predictive c.args.start _ _ e) (omega (arith, e)) r.1 refl (something c.in_ok-unfolded-2.unfolded.top c.in-Wanted.is))
