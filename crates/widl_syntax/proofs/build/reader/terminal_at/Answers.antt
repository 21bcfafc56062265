use Rattle.std.proofs.Common.{arith}
use Rattle.widl_syntax.proofs.Lexemes.{terminal_within, terminal_past}
use Rattle.widl_syntax.proofs.build.reader.terminal_at.Goals as goal

pub returns-then-number-terminals : goal.returns-then-number-terminals
returns-then-number-terminals c = λ ls e. terminal_within c.args.terminals.now ls c.args.number _ e c.if-number-terminals.true

pub returns-else-number-terminals : goal.returns-else-number-terminals
returns-else-number-terminals c = λ ls e. terminal_past c.args.terminals.now ls c.args.number e (omega (arith, c.if-number-terminals.false))
