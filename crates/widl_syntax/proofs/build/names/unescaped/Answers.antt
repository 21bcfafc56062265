use Rattle.std.proofs.Common.{arith}
use Rattle.widl_syntax.proofs.Texts.{after_ascii}
use Rattle.widl_syntax.proofs.build.names.unescaped.Goals as goal

pub returns-in-95-clause-utf8 : goal.returns-in-95-clause-utf8
returns-in-95-clause-utf8 c = after_ascii c.args.text.now (omega arith) (omega arith)
