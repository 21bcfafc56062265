use Rattle.std.proofs.Common.{subst}
use Rattle.widl_idl.specs.First.{FirstWhere, Somewhere}
use Rattle.widl_idl.specs.PlainTrees.{PlainMember}
use Rattle.widl_overload.specs.rules.DefinitionRules.{IsNameless}
use Rattle.widl_definition_rules.proofs.definition_rules.first_nameless_operation.Goals as goal

pub returns : goal.returns
returns c = subst (λ members. FirstWhere (Somewhere (λ (m : PlainMember). IsNameless m.kind) members) c.nameless_in.result) c.members_written.ensures c.nameless_in.ensures
