use Rattle.std.proofs.Common.{arith}
use Rattle.widl_syntax.proofs.Lexemes.{ahead_some, ahead_end}
use Rattle.widl_syntax.proofs.build.reader.Reader.ahead_or_end.Goals as goal

pub returns-then-self-len : goal.returns-then-self-len
returns-then-self-len c = ahead_some c.self.inside.tokens.now.lexemes c.args.self.now c.self.inside.next c.self.inside.ahead (omega arith) c.self.view_is c.self.invariant.1

pub returns-else-self-len : goal.returns-else-self-len
returns-else-self-len c = ahead_end c.self.inside.tokens.now.lexemes c.args.self.now c.self.inside.next (omega arith) c.self.view_is
