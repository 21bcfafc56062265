use Rattle.widl_idl.specs.DefinitionTerms.{member_term}
use Rattle.widl_convert.specs.Served.{is_served_member}
use Rattle.widl_overload.proofs.OverTerms.{over_terms}
use Rattle.widl_convert.proofs.served.is_served_dictionary.Goals as goal

pub returns : goal.returns
returns c = over_terms is_served_member member_term c.args.dict.now.members c.as_slice.result.now c.are_served_members.result c.are_served_members.ensures c.as_slice.ensures
