use Rattle.std.proofs.Common.{◌∙◌, ◌||◌, [], ap, if◌then◌else◌, nat_eq, Some, sym}
use Rattle.std.specs.Option.{option_eq}
use Rattle.widl_lines.specs.WordTerms.{lexeme_of}
use Rattle.widl_script_rules.specs.Names.{bound_in, has_name}
use Rattle.widl_script_rules.specs.Surroundings.{has_pair, plain_line}
use Rattle.widl_script_rules.proofs.BoundWords.{found_if, pair_turned}
use Rattle.widl_script_rules.proofs.known_names.add_local.Goals as goal

pub returns : goal.returns
returns c = λ number text.
    let word = c.in-Some-bound_word.bound.now in
    let function = c.in-Some.number in
    let old = has_pair c.args.names.now.keys number text in
    c.in_ok-insert.ensures.updates.0 (number, record { ref_ptr = (0, 0); now = text }) ∙ pair_turned number function text word.text.now old
    ∙ ap (λ b. old || b) (found_if (nat_eq number function) (lexeme_of word) text ∙ ap (λ ws. has_name (if nat_eq number function then ws else []) text) c.in-Some-bound_word.ensures
    ∙ ap (λ o. has_name (if option_eq nat_eq (Some number) o then bound_in (plain_line c.args.line.now) else []) text) (sym c.in-Some.is))
