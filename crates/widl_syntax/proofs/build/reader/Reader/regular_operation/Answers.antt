use Rattle.widl_idl.specs.declared.tree.operations.OperationKind.TheVariants as operation_kind
use Rattle.widl_syntax.proofs.Members.{as_operation}
use Rattle.widl_syntax.proofs.build.reader.Reader.regular_operation.Goals as goal

pub returns : goal.returns
returns c = as_operation c.in_ok-operation.field-0 operation_kind.Regular c.in_ok-operation.ensures.kind c.in_ok-operation.ensures.reads
