use Rattle.widl_idl.specs.DefinitionTerms.{op_name_term}
use Rattle.widl_convert.specs.Served.{is_served_name}
use Rattle.widl_overload.proofs.OverTerms.{over_terms}
use Rattle.widl_convert.proofs.served.is_served_namespace.Goals as goal

pub returns : goal.returns
returns c = over_terms is_served_name op_name_term c.args.space.now.ops c.as_slice.result.now c.are_served_operations.result c.are_served_operations.ensures c.as_slice.ensures
