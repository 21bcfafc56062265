use Rattle.std.proofs.Common.{arith}
use Rattle.widl_idl.specs.Terms.{type_term}
use Rattle.widl_overload.specs.rules.Dictionaries.{dictionaries_in}
use Rattle.widl_inheritance.proofs.HoldingNodes.{union_inside}
use Rattle.widl_names.proofs.Listed.{listed_all}
use Rattle.widl_inheritance.proofs.holding.+inside.Goals as goal

pub add_inside_all-returns : goal.add_inside_all-returns
add_inside_all-returns levels c = listed_all (λ t. dictionaries_in (type_term t)) c.args.types.now c.loop-ty.ty-index _ _ _ (omega arith) (union_inside c.args.types.now) c.loop-ty.invariant
