use Rattle.widl_names.proofs.KnownTexts.{text_added}
use Rattle.widl_definition_rules.proofs.known_texts.note_text.Goals as goal

pub returns-then-fresh-clause-adds : goal.returns-then-fresh-clause-adds
returns-then-fresh-clause-adds c = λ other. text_added c.args.known.now c.insert.new.self c.args.text.now other (c.in_ok-fresh.ensures.updates.0 (record { ref_ptr = (0, 0); now = other }))
