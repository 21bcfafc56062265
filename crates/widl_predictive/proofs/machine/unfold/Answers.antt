use Rattle.std.proofs.Common.{sym, ◌∙◌, subst, ap, false}
use Rattle.std.specs.Prelude.{◌||◌}
use Rattle.widl_predictive.specs.Grammar.{is_deep}
use Rattle.widl_predictive.specs.declared.machine.Top.TheVariants.{Open}
use Rattle.widl_predictive.specs.Machine.{same, topped, Unfolds, stack_of}
use Rattle.widl_predictive.proofs.Steps.{ends_no_rule, or-none, or-assoc, opened, opened_smaller}
use Rattle.widl_predictive.proofs.machine.unfold.Goals as goal

pub loop-top-init : goal.loop-top-init
loop-top-init g c = λ s b u. subst (λ x. Unfolds g.R.Rule.grammar g.R.Rule.sets c.args.ahead x s b) c.take_top-top.ensures u

pub loop-top-smaller : goal.loop-top-smaller
loop-top-smaller g c = opened_smaller g.R.Rule.grammar g.R.Rule.sets g.met.R.Rule.predictive c.in-Open.rule c.in-Open.level c.in-Some.row.now c.args.ahead c.loop-top.top c.in_ok-top-in-Some.top (stack_of c.loop-top.stack.items) (stack_of c.enter_row.new.stack.items) c.in-Open.is c.in-Some.ensures c.in_ok-top-in-Some.ensures

pub loop-top-preserved : goal.loop-top-preserved
loop-top-preserved g c = λ s b u. subst (Unfolds g.R.Rule.grammar g.R.Rule.sets c.args.ahead (stack_of c.args.stack.now.items) s) (sym (or-assoc c.loop-top.deep (is_deep g.R.Rule.grammar (c.in-Open.rule, c.in-Open.level)) b) ∙ ap (λ x. x || b) (sym (c.either-deep.ensures ∙ ap (λ x. c.loop-top.deep || x) c.is_deep.ensures)))
    (c.loop-top.invariant s (is_deep g.R.Rule.grammar (c.in-Open.rule, c.in-Open.level) || b) (opened g.R.Rule.grammar g.R.Rule.sets g.met.R.Rule.predictive c.in-Open.rule c.in-Open.level c.in-Some.row.now c.args.ahead c.loop-top.top c.in_ok-top-in-Some.top (stack_of c.loop-top.stack.items) (stack_of c.enter_row.new.stack.items) c.in-Open.is c.in-Some.ensures c.in_ok-top-in-Some.ensures s b u))

pub returns-in-None : goal.returns-in-None
returns-in-None g c = (
  subst (Unfolds g.R.Rule.grammar g.R.Rule.sets c.args.ahead (stack_of c.args.stack.now.items) (topped (Open c.in-Open.rule c.in-Open.level) (stack_of c.loop-top.stack.items))) (or-none c.loop-top.deep) (c.loop-top.invariant _ false (subst (λ x. Unfolds g.R.Rule.grammar g.R.Rule.sets c.args.ahead (topped x (stack_of c.loop-top.stack.items)) (topped (Open c.in-Open.rule c.in-Open.level) (stack_of c.loop-top.stack.items)) false) (sym c.in-Open.is) same)),
  c.in-None.ensures,
)

pub returns : goal.returns
returns g c = (
  subst (Unfolds g.R.Rule.grammar g.R.Rule.sets c.args.ahead (stack_of c.args.stack.now.items) (topped c.loop-top.top (stack_of c.loop-top.stack.items))) (or-none c.loop-top.deep) (c.loop-top.invariant _ false same),
  ends_no_rule g.R.Rule.grammar g.R.Rule.sets c.args.ahead c.loop-top.top c.in_default.not-Open,
)
