use Rattle.std.proofs.Common.{◌≡◌}
use Rattle.widl_lines.specs.Lines.{line_number, column_number}
use Rattle.widl_lines.proofs.Passing.{not_text}
use Rattle.widl_lines.proofs.script_words.read_words.Goals as goal

pub returns-in-Some-clause-refused : goal.returns-in-Some-clause-refused
returns-in-Some-clause-refused c =
    let line : c.line_and_column-line.result.0 ≡ line_number c.args.bytes.now c.in-Some.at = c.line_and_column-line.ensures.line in
    let column : c.line_and_column-line.result.1 ≡ column_number c.args.bytes.now c.in-Some.at = c.line_and_column-line.ensures.column in
    not_text c.args.bytes.now c.in-Some.at (record { rule = 1; line = c.line_and_column-line.result.0; column = c.line_and_column-line.result.1 }) c.in-Some.ensures (λ i. record { rule = 1; line = line i; column = column i })
