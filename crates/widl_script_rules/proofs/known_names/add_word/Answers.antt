use Rattle.std.proofs.Common.{◌∙◌, ◌||◌, ap, sym}
use Rattle.std.specs.Prelude.{bytes_eq}
use Rattle.widl_script_rules.specs.Names.{has_name}
use Rattle.widl_script_rules.specs.Surroundings.{has_key, word_list}
use Rattle.widl_script_rules.proofs.OwnerTexts.{or_none, or_turned, same_turned}
use Rattle.widl_script_rules.proofs.known_names.add_word.Goals as goal

pub returns : goal.returns
returns c = λ text.
    let name = c.in-Some.word.now.text.now in
    let old = has_key c.args.names.now.keys text in
    c.in_ok-insert.ensures.updates.0 (record { ref_ptr = (0, 0); now = text }) ∙ or_turned (bytes_eq name text) old ∙ ap (λ b. old || b) (same_turned name text ∙ sym (or_none (bytes_eq text name)))
    ∙ ap (λ o. old || has_name (word_list o) text) (sym c.in-Some.is)
