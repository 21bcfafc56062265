use Rattle.std.proofs.Common.{sym, subst}
use Rattle.widl_idl.specs.First.{FirstWhere, Somewhere}
use Rattle.widl_idl.specs.PlainTrees.{PlainMember, definition_kind_of, members_of}
use Rattle.widl_overload.specs.rules.DefinitionRules.{HasMisformed, IsMisformed}
use Rattle.widl_definition_rules.proofs.definition_rules.first_misformed_operation.Goals as goal

pub returns-in-CallbackInterface : goal.returns-in-CallbackInterface
returns-in-CallbackInterface c =
    subst (λ kind. FirstWhere (HasMisformed (definition_kind_of kind)) c.misformed_in.result) (sym c.in-CallbackInterface.is)
    (subst (λ members. FirstWhere (Somewhere (λ (m : PlainMember). IsMisformed m.kind) (members_of members)) c.misformed_in.result) c.as_slice.ensures c.misformed_in.ensures)
