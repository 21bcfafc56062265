use Rattle.std.proofs.Common.{◌∙◌, ◌||◌, ap}
use Rattle.std.specs.Prelude.{bytes_eq}
use Rattle.widl_script_rules.specs.Surroundings.{has_key}
use Rattle.widl_script_rules.proofs.OwnerTexts.{or_turned, same_turned}
use Rattle.widl_script_rules.proofs.owner_names.add_name.Goals as goal

pub returns : goal.returns
returns c = λ text.
    c.in_ok-insert.ensures.updates.0 (record { ref_ptr = (0, 0); now = text }) ∙ or_turned (bytes_eq c.args.name.now text) (has_key c.args.names.now.keys text)
    ∙ ap (λ b. has_key c.args.names.now.keys text || b) (same_turned c.args.name.now text)
