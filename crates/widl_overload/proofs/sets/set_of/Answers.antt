use Rattle.std.proofs.Common.{arith, map}
use Rattle.widl_idl.specs.DefinitionTerms.{sig_term}
use Rattle.widl_overload.specs.sets.Sets.{tuples_in}
use Rattle.widl_overload.proofs.Lengths.{length_step}
use Rattle.widl_overload.proofs.sets.set_of.Goals as goal

pub loop-m-preserved : goal.loop-m-preserved
loop-m-preserved c = length_step (map sig_term c.args.sigs.now) c.loop-m.m c.greatest_length-most.result (tuples_in c.loop-m.set) (tuples_in c.add_length.new.set) _ (omega arith) c.in_ok-add_length.ensures c.loop-m.invariant
