use Rattle.std.proofs.Common.{map, ◌∙◌}
use Rattle.widl_idl.specs.DefinitionTerms.{dict_term}
use Rattle.widl_inheritance.proofs.Inheriting.{hierarchy_forest}
use Rattle.widl_inheritance.proofs.member_names.first_repeated_member.Goals as goal

pub of-requires : goal.of-requires
of-requires c = hierarchy_forest (map dict_term c.args.dicts.now) c.as_slice.result.now (c.as_slice.ensures.value ∙ c.in_ok-parents.ensures) c.requires
