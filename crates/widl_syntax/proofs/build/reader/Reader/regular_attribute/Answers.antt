use Rattle.std.proofs.Common.{false}
use Rattle.widl_idl.specs.declared.tree.members.AttributeKind.TheVariants as attribute_kind
use Rattle.widl_syntax.proofs.Members.{as_attribute}
use Rattle.widl_syntax.proofs.build.reader.Reader.regular_attribute.Goals as goal

pub returns : goal.returns
returns c = as_attribute c.in_ok-attribute.attribute attribute_kind.Regular false c.in_ok-attribute.ensures.kind c.in_ok-attribute.ensures.readonly c.in_ok-attribute.ensures.reads
