use Rattle.std.proofs.Common.{◌≡◌, arith, refl}
use Rattle.widl_syntax.proofs.Lexemes.{if_ahead, if_ahead_none}
use Rattle.widl_syntax.proofs.build.reader.Reader.at.Goals as goal

pub returns-then-self-len : goal.returns-then-self-len
returns-then-self-len c = if_ahead c.self.inside.tokens.now.lexemes c.args.self.now c.self.inside.next _ (λ lexeme. c.at.result.now.at ≡ lexeme.at) c.at.ensures.token c.self.view_is refl

pub returns-else-self-len : goal.returns-else-self-len
returns-else-self-len c = if_ahead_none c.self.inside.tokens.now.lexemes c.args.self.now c.self.inside.next _ (omega arith) c.self.view_is
