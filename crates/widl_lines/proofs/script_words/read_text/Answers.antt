use Rattle.widl_lines.specs.LineTerms.{state_of}
use Rattle.widl_lines.specs.Refusals.{IsRefusal}
use Rattle.widl_lines.proofs.Passing.{handed_on, whole_script, all_closed, not_closed, is_refusal}
use Rattle.widl_lines.proofs.Stacking.{closed_stack, open_stack}
use Rattle.widl_lines.proofs.script_words.read_text.Goals as goal

pub returns-in_err-reading-clause-refused : goal.returns-in_err-reading-clause-refused
returns-in_err-reading-clause-refused c = handed_on (IsRefusal c.args.text.now) c.from_residual.result c.in_err-reading.field-0.0 c.from_residual.ensures.1 (is_refusal c.args.text.now c.requires.utf8 c.in_err-reading.field-0.0 c.in_err-reading.ensures.refused)

pub invariant_of-result : goal.invariant_of-result
invariant_of-result c = whole_script c.args.text.now (state_of c.in_ok-reading.reading) c.requires.short c.requires.utf8 c.in_ok-reading.ensures.ok (closed_stack c.in_ok-reading.reading.open_blocks.items _ c.in_ok-reading.reading.open_blocks.ok.0 c.if-is_empty.ensures)

pub returns-then-is_empty-clause-unbroken : goal.returns-then-is_empty-clause-unbroken
returns-then-is_empty-clause-unbroken c = all_closed c.args.text.now (state_of c.in_ok-reading.reading) c.requires.utf8 c.in_ok-reading.ensures.ok (closed_stack c.in_ok-reading.reading.open_blocks.items _ c.in_ok-reading.reading.open_blocks.ok.0 c.if-is_empty.ensures)

pub returns-clause-refused : goal.returns-clause-refused
returns-clause-refused c = not_closed c.args.text.now (state_of c.in_ok-reading.reading) c.requires.utf8 c.in_ok-reading.ensures.ok (open_stack c.in_ok-reading.reading.open_blocks.items _ c.in_ok-reading.reading.open_blocks.ok.0 c.if-is_empty.ensures)
