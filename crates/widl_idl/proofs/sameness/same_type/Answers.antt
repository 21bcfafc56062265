use Rattle.widl_idl.specs.Terms.{type_term}
use Rattle.widl_idl.proofs.Same.{tells_same, is_told_same}
use Rattle.widl_idl.proofs.sameness.same_type.Goals as goal

pub returns : goal.returns
returns c = (tells_same (type_term c.args.a.now) (type_term c.args.b.now) c.are_same.result c.are_same.ensures, is_told_same (type_term c.args.a.now) (type_term c.args.b.now) c.are_same.result c.are_same.ensures)
