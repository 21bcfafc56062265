use Rattle.std.proofs.Common.{◌≡◌, ◌∙◌, ◌&&◌, ◌||◌, ap, nat_eq, sym, true}
use Rattle.std.specs.Prelude.{bytes_eq}
use Rattle.widl_script_rules.specs.Surroundings.{has_pair}
use Rattle.widl_script_words.specs.Words.{is_name}
use Rattle.widl_script_rules.proofs.BoundWords.{pair_turned}
use Rattle.widl_script_rules.proofs.known_names.add_parameter.Goals as goal

pub returns : goal.returns
returns c = λ number text.
    let word = c.args.word.now in
    let old = has_pair c.args.names.now.keys number text in
    let named : is_name word.terminal ≡ true = sym c.is_name.ensures ∙ c.if-not-is_name.false in
    c.in_ok-insert.ensures.updates.0 (number, record { ref_ptr = (0, 0); now = text }) ∙ pair_turned number c.args.place text word.text.now old
    ∙ ap (λ b. old || (nat_eq number c.args.place && (b && bytes_eq text word.text.now))) (sym named)
