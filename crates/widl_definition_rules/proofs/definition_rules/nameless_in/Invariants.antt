use Rattle.std.proofs.Common.{map, take}
use Rattle.widl_idl.specs.First.{FirstWhere, Somewhere}
use Rattle.widl_idl.specs.PlainTrees.{PlainMember, member_of}
use Rattle.widl_overload.specs.rules.DefinitionRules.{IsNameless}
use Rattle.widl_definition_rules.proofs.definition_rules.nameless_in.Given as goal

abbrev pub invariant-loop-member : goal.invariant-loop-member
invariant-loop-member l = FirstWhere (Somewhere (λ (m : PlainMember). IsNameless m.kind) (map member_of (take l.member-index l.members))) l.best
