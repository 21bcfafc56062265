use Rattle.widl_engine.proofs.FewBindings.{none_bound, walk_on}
use Rattle.widl_engine.proofs.bindings.place_of.Goals as goal

pub each-preserved : goal.each-preserved
each-preserved c = walk_on c.args.name c.args.bound.now c.each.place c.index-bound-place.result (c.each-test.true) c.each.invariant c.index-bound-place.is c.if-bound-place.false

pub returns-clause-none : goal.returns-clause-none
returns-clause-none c = none_bound c.args.name c.args.bound.now c.each.place c.each.invariant c.each-test.false
