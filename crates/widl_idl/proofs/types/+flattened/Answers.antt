use Rattle.std.proofs.Common.{arith}
use Rattle.widl_idl.specs.Terms.{type_terms}
use Rattle.widl_idl.proofs.Members.{flattened_more}
use Rattle.widl_idl.proofs.types.+flattened.Goals as goal

pub IdlTypes::flatten_into-loop-t-preserved : goal.IdlTypes::flatten_into-loop-t-preserved
IdlTypes::flatten_into-loop-t-preserved t c = flattened_more c.as_slice-t-items.result.now c.loop-t.t-index c.t-item.result (type_terms c.args.members.now) (type_terms c.loop-t.members) (type_terms c.flatten_into.new.members) (omega arith) c.t-item.is c.in_ok-flatten_into.ensures c.loop-t.invariant
