use Rattle.std.proofs.Common.{refl}
use Rattle.widl_idl.specs.declared.tree.operations.OperationKind.TheVariants as operation_kind
use Rattle.widl_grammar.specs.declared.rule.Rule.TheVariants as rule
use Rattle.widl_syntax.proofs.Members.{special_word, as_operation}
use Rattle.widl_syntax.proofs.Reading.{by_only, and_then}
use Rattle.widl_syntax.proofs.build.reader.Reader.special_operation.Goals as goal

pub returns : goal.returns
returns c = as_operation c.in_ok-operation.operation (operation_kind.Special c.args.word c.take-at.result) c.in_ok-operation.ensures.kind (by_only rule.Special refl (and_then (special_word c.args.word c.requires c.take-at.ensures) c.in_ok-operation.ensures.reads))
