use Rattle.std.proofs.Common.{◌≡◌, ℕ, arith, refl}
use Rattle.widl_lex.specs.Tokens.{IsSound}
use Rattle.widl_syntax.proofs.Lexemes.{if_ahead, if_ahead_none}
use Rattle.widl_syntax.proofs.build.reader.Reader.text.Goals as goal

pub returns-then-self-len-clause-bytes : goal.returns-then-self-len-clause-bytes
returns-then-self-len-clause-bytes c = if_ahead c.self.inside.tokens.now.lexemes c.args.self.now c.self.inside.next _ (λ lexeme. c.at.result.now.text.now ≡ lexeme.text) c.at.ensures.token c.self.view_is refl

pub returns-else-self-len-clause-bytes : goal.returns-else-self-len-clause-bytes
returns-else-self-len-clause-bytes c = if_ahead_none c.self.inside.tokens.now.lexemes c.args.self.now c.self.inside.next _ (omega arith) c.self.view_is

pub returns-then-self-len-clause-sound : goal.returns-then-self-len-clause-sound
returns-then-self-len-clause-sound c = if_ahead c.self.inside.tokens.now.lexemes c.args.self.now c.self.inside.next _ (λ lexeme. (file : ℕ) × IsSound file lexeme) c.at.ensures.token c.self.view_is (_, c.at.ensures.sound)

pub returns-else-self-len-clause-sound : goal.returns-else-self-len-clause-sound
returns-else-self-len-clause-sound c = if_ahead_none c.self.inside.tokens.now.lexemes c.args.self.now c.self.inside.next _ (omega arith) c.self.view_is
