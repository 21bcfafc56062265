use Rattle.std.proofs.Common.{◌-◌, arith, ap, not, ◌&&◌}
use Rattle.widl_idl.specs.PlainTrees.{plain_definitions}
use Rattle.widl_inheritance.proofs.Lacking.{absent_next, absent_none, lacks_end, lacks_next, lacks_none}
use Rattle.widl_inheritance.proofs.empty_defaults.lacking_in.Goals as goal

pub loop-index-init : goal.loop-index-init
loop-index-init c = record { absent = absent_none c.args.arguments.now; earliest = λ list told. lacks_none list (plain_definitions c.args.resolver.now) c.args.arguments.now }

pub loop-index-preserved : goal.loop-index-preserved
loop-index-preserved c = record {
  absent = absent_next c.args.arguments.now (c.loop-index.index - 1) c.loop-index.index c.index-arguments-index.result c.loop-index.absent _ (omega arith) (omega arith) c.index-arguments-index.is c.loop-index.invariant.absent (ap (λ b. c.loop-index.absent && not b) c.is_required.ensures);
  earliest = λ list told.
      lacks_next list (plain_definitions c.args.resolver.now) c.args.arguments.now (c.loop-index.index - 1) c.loop-index.index c.index-arguments-index.result c.loop-index.absent c.loop-index.best c.in_ok-found.found _ (omega arith) (omega arith) c.index-arguments-index.is c.loop-index.invariant.absent
      (c.loop-index.invariant.earliest list told) (c.in_ok-found.ensures list told) c.earlier_violation-best.ensures;
}

pub returns : goal.returns
returns c = λ list told. lacks_end list (plain_definitions c.args.resolver.now) c.args.arguments.now c.loop-index.index c.loop-index.best (omega arith) (c.loop-index.invariant.earliest list told)
