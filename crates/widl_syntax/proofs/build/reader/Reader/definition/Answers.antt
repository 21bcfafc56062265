use Rattle.widl_syntax.proofs.Reading.{and_then}
use Rattle.widl_syntax.proofs.build.reader.Reader.definition.Goals as goal

pub returns : goal.returns
returns c = and_then c.in_ok-attributes.ensures.reads c.in_ok-kind.ensures
