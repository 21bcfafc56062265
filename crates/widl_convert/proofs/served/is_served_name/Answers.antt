use Rattle.widl_idl.specs.DefinitionTerms.{sig_term}
use Rattle.widl_convert.specs.Served.{is_served_signature}
use Rattle.widl_overload.proofs.OverTerms.{over_terms}
use Rattle.widl_convert.proofs.served.is_served_name.Goals as goal

pub returns : goal.returns
returns c = over_terms is_served_signature sig_term c.args.op.now.sigs c.as_slice.result.now c.are_served_signatures.result c.are_served_signatures.ensures c.as_slice.ensures
