use Rattle.widl_fits.proofs.KeptValues.{text_added}
use Rattle.widl_fits.proofs.choice_values.add_value.Goals as goal

pub returns : goal.returns
returns c = λ text. text_added c.args.set.now c.insert.new.self c.args.value.now text (c.in_ok-insert.ensures.updates.0 (record { ref_ptr = (0, 0); now = text }))
