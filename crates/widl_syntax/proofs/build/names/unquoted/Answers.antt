use Rattle.std.proofs.Common.{arith}
use Rattle.widl_syntax.proofs.Texts.{between_quotes, marks}
use Rattle.widl_syntax.proofs.build.names.unquoted.Goals as goal

pub returns-in-34-clause-utf8 : goal.returns-in-34-clause-utf8
returns-in-34-clause-utf8 c = between_quotes c.args.text.now (omega arith) (omega arith) (omega arith)

pub returns-in_default-2-clause-bytes : goal.returns-in_default-2-clause-bytes
returns-in_default-2-clause-bytes c = λ inner e. let m = marks c.args.text.now inner e in absurd (omega (arith, m.0, m.1))
