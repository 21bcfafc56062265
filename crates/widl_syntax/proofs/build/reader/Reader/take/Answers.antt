use Rattle.std.proofs.Common.{arith}
use Rattle.widl_syntax.proofs.Lexemes.{further}
use Rattle.widl_syntax.proofs.build.reader.Reader.take.Goals as goal

pub returns : goal.returns
returns c = record {
  rest = further c.self.inside.tokens.now.lexemes c.args.self.now c.self.inside.next c.min-self-inside.result (λ h. omega arith) (λ h. omega arith) c.self.view_is;
  place_is = c.at-at.ensures;
}
