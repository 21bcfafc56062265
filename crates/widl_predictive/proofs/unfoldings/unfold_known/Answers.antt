use Rattle.std.proofs.Common.{sym, ◌∙◌, subst, ap, false, refl, ◌++◌}
use Rattle.std.specs.Prelude.{◌||◌}
use Rattle.widl_predictive.specs.Machine.{same, topped, Unfolds, stack_of}
use Rattle.widl_predictive.proofs.Steps.{ends_no_rule, or-none, or-assoc}
use Rattle.widl_predictive.proofs.Unfolding.{emptied, fewer, replaced}
use Rattle.widl_predictive.proofs.unfoldings.unfold_known.Goals as goal

pub loop-top-init : goal.loop-top-init
loop-top-init g c = record {
  kept = c.requires;
  rest = λ s b u. subst (λ x. Unfolds g.R.Rule.grammar g.R.Rule.sets c.args.ahead x s b) c.take_top-top.ensures u;
}

pub loop-top-smaller : goal.loop-top-smaller
loop-top-smaller g c = fewer c.loop-top.top c.take_top-top-in-Nothing.result c.in-Open.rule c.in-Open.level (stack_of c.loop-top.stack.items) (stack_of c.take_top-top-in-Nothing.new.stack.items) c.in-Open.is c.take_top-top-in-Nothing.ensures

pub loop-top-preserved : goal.loop-top-preserved
loop-top-preserved g c = record {
  kept = c.loop-top.invariant.kept;
  rest = λ s b u. subst (Unfolds g.R.Rule.grammar g.R.Rule.sets c.args.ahead (stack_of c.args.stack.now.items) s) (sym (or-assoc c.loop-top.deep c.in-Some.unfolding.now.deep b) ∙ ap (λ x. x || b) (sym c.either-deep.ensures))
      (c.loop-top.invariant.rest s (c.in-Some.unfolding.now.deep || b) (emptied g.R.Rule.grammar g.R.Rule.sets c.args.ahead c.in-Open.rule c.in-Open.level c.in-Some.unfolding.now c.in-Some.ensures c.loop-top.top (stack_of c.loop-top.stack.items) c.in-Open.is c.in-Nothing.is c.take_top-top-in-Nothing.result (stack_of c.take_top-top-in-Nothing.new.stack.items) c.take_top-top-in-Nothing.ensures s b u));
}

pub returns-in_default-top : goal.returns-in_default-top
returns-in_default-top g c = record {
  kept = c.loop-top.invariant.kept;
  unfolded = (
    subst (Unfolds g.R.Rule.grammar g.R.Rule.sets c.args.ahead (stack_of c.args.stack.now.items) (topped c.in-Some.unfolding.now.top (stack_of c.extend_from_slice.new.self.items))) (sym (or-assoc c.loop-top.deep c.in-Some.unfolding.now.deep false) ∙ or-none (c.loop-top.deep || c.in-Some.unfolding.now.deep) ∙ sym c.either-deep.ensures)
        (c.loop-top.invariant.rest _ (c.in-Some.unfolding.now.deep || false) (replaced g.R.Rule.grammar g.R.Rule.sets c.args.ahead c.in-Open.rule c.in-Open.level c.in-Some.unfolding.now c.in-Some.ensures c.loop-top.top (stack_of c.loop-top.stack.items) c.in-Open.is c.in_default-top.not-Nothing c.loop-top.stack.items c.extend_from_slice.new.self.items refl (c.in_ok-extend_from_slice-in-Some.ensures.items ∙ ap (λ x. c.loop-top.stack.items ++ x) c.as_slice.ensures.value))),
    c.in-Some.ensures.1,
  );
}

pub returns : goal.returns
returns g c = record {
  kept = c.loop-top.invariant.kept;
  unfolded = (
    subst (Unfolds g.R.Rule.grammar g.R.Rule.sets c.args.ahead (stack_of c.args.stack.now.items) (topped c.loop-top.top (stack_of c.loop-top.stack.items))) (or-none c.loop-top.deep) (c.loop-top.invariant.rest _ false same),
    ends_no_rule g.R.Rule.grammar g.R.Rule.sets c.args.ahead c.loop-top.top c.in_default.not-Open,
  );
}
