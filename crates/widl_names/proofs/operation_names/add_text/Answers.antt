use Rattle.widl_names.proofs.KnownTexts.{text_added}
use Rattle.widl_names.proofs.operation_names.add_text.Goals as goal

pub returns : goal.returns
returns c = λ other. text_added c.args.texts.now c.insert.new.self c.args.text.now other (c.in_ok-insert.ensures.updates.0 (record { ref_ptr = (0, 0); now = other }))
