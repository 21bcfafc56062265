use Rattle.std.proofs.Common.{true}
use Rattle.widl_idl.specs.declared.tree.members.AttributeKind.TheVariants as attribute_kind
use Rattle.widl_grammar.specs.declared.terminal.Terminal.TheVariants as terminal
use Rattle.widl_syntax.proofs.Members.{as_attribute}
use Rattle.widl_syntax.proofs.Reading.{and_then, took}
use Rattle.widl_syntax.proofs.build.reader.Reader.readonly_attribute.Goals as goal

pub returns : goal.returns
returns c = as_attribute c.in_ok-attribute.attribute attribute_kind.Regular true c.in_ok-attribute.ensures.kind c.in_ok-attribute.ensures.readonly (and_then (took terminal.Readonly c.take-readonly.ensures) c.in_ok-attribute.ensures.reads)
