use Rattle.std.proofs.Common.{◌∙◌, sym, arith}
use Rattle.widl_lines.proofs.LineCuts.{next_line, same_line, first_column, next_column, in_prefix}
use Rattle.widl_lines.proofs.lines.line_and_column.Goals as goal
use Rattle.widl_lines.proofs.lines.line_and_column.Goals.{then-byte-eq10, else-byte-eq10}

pub loop-byte-preserved : goal.loop-byte-preserved
loop-byte-preserved c =
    let here = in_prefix c.args.text.now c.args.at c.loop-byte.byte-index c.loop-byte-test.true in
    elim c.if-byte-eq10.branch [
      | then-byte-eq10 w ↦ record {
        line = w.line-is ∙ next_line c.args.text.now c.loop-byte.byte-index c.loop-byte.line here.0 (sym here.1 ∙ w.if-byte-eq10.true) c.loop-byte.invariant.line;
        column = w.column-is ∙ first_column c.args.text.now c.loop-byte.byte-index here.0 (sym here.1 ∙ w.if-byte-eq10.true);
        small_line = omega (arith, w.line-is, c.loop-byte.invariant.small_line);
        small_column = omega (arith, w.column-is);
      }
      | else-byte-eq10 w ↦ record {
        line = w.line-is ∙ same_line c.args.text.now c.loop-byte.byte-index c.loop-byte.line here.0 (λ e. w.if-byte-eq10.false (here.1 ∙ e)) c.loop-byte.invariant.line;
        column = w.column-is ∙ next_column c.args.text.now c.loop-byte.byte-index c.loop-byte.column here.0 (λ e. w.if-byte-eq10.false (here.1 ∙ e)) c.loop-byte.invariant.column;
        small_line = omega (arith, w.line-is, c.loop-byte.invariant.small_line);
        small_column = omega (arith, w.column-is, c.loop-byte.invariant.small_column);
      }
    ]
