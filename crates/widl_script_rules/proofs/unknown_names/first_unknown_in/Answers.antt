use Rattle.std.proofs.Common.{◌≡◌, ◌∙◌, [], ap, drop, false, if◌then◌else◌, subst, sym}
use Rattle.widl_lines.specs.Blocks.{first_word}
use Rattle.widl_script_rules.specs.KnownNames.{unknown_words}
use Rattle.widl_script_rules.specs.Names.{used_behind, used_in}
use Rattle.widl_script_rules.specs.Standings.{Standing, is_in_steps, places_of}
use Rattle.widl_script_rules.specs.Surroundings.{plain_line, plain_lines}
use Rattle.widl_script_rules.proofs.FirstPlaces.{Firsts}
use Rattle.widl_script_rules.proofs.unknown_names.first_unknown_in.Goals as goal

pub returns : goal.returns
returns c = λ list limit outer known now.
    let line = plain_line c.args.line.now in
    let lines = plain_lines c.args.lines.now in
    let s : Standing = record { around = outer; line = line } in
    let no : is_in_steps outer ≡ false = sym (c.is_in_steps.ensures limit outer now) ∙ c.if-is_in_steps.false in
    let e : used_behind (first_word line.words) (drop 1 line.words) ≡ used_in s = sym (ap (λ b. if b then [] else used_behind (first_word line.words) (drop 1 line.words)) no) in
    subst (λ ws. Firsts (places_of 5 line (unknown_words list lines outer ws)) c.in_ok-first.first) e (c.in_ok-first.ensures list outer (record { known = known; function = now.function }))
