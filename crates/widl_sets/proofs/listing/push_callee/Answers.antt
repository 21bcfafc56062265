use Rattle.widl_overload.specs.sets.Sets.{tuples_in}
use Rattle.widl_overload.proofs.Numbered.{overloads_numbered}
use Rattle.widl_sets.proofs.Tuples.{each_in_set}
use Rattle.widl_sets.proofs.listing.push_callee.Goals as goal

pub push_set-requires : goal.push_set-requires
push_set-requires c = each_in_set c.args.defs.now c.args.callee.now (tuples_in c.in_ok-set.set) c.requires.numbered c.in_ok-set.ensures

pub effective_set-requires-clause-numbered : goal.effective_set-requires-clause-numbered
effective_set-requires-clause-numbered c = overloads_numbered c.args.defs.now c.args.callee.now c.requires.numbered
