use Rattle.std.proofs.Common.{arith}
use Rattle.widl_idl.specs.PlainTrees.{PlainMember, member_of}
use Rattle.widl_overload.specs.rules.DefinitionRules.{IsMisformed}
use Rattle.widl_names.proofs.MappedLoops.{somewhere_end, somewhere_step}
use Rattle.widl_definition_rules.proofs.definition_rules.misformed_in.Goals as goal

pub loop-member-preserved : goal.loop-member-preserved
loop-member-preserved c = somewhere_step member_of c.args.members.now (λ (m : PlainMember). IsMisformed m.kind) c.loop-member.member-index c.member-item.result c.loop-member.best c.misformed_operation-found.result c.earlier_violation-best.result (omega arith) c.member-item.is c.earlier_violation-best.ensures c.misformed_operation-found.ensures c.loop-member.invariant

pub returns : goal.returns
returns c = somewhere_end member_of c.args.members.now (λ (m : PlainMember). IsMisformed m.kind) c.loop-member.member-index c.loop-member.best (omega arith) c.loop-member.invariant
