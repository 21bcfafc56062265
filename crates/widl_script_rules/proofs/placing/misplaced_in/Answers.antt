use Rattle.std.proofs.Common.{◌≡◌, true, [], ap, sym, ◌∙◌, subst, take, if◌then◌else◌}
use Rattle.widl_lines.specs.Blocks.{first_word}
use Rattle.widl_script_rules.specs.Placing.{is_misplaced}
use Rattle.widl_script_rules.specs.Standings.{place_of, places_of}
use Rattle.widl_script_rules.specs.Surroundings.{plain_line}
use Rattle.widl_script_rules.proofs.FirstPlaces.{Firsts, head_first}
use Rattle.widl_script_rules.proofs.placing.misplaced_in.Goals as goal

pub returns-then-is_misplaced : goal.returns-then-is_misplaced
returns-then-is_misplaced c = λ limit outer around.
    let line = plain_line c.args.line.now in
    let yes : is_misplaced (first_word line.words) outer ≡ true =
    ap (λ w. is_misplaced w outer) (sym c.requires) ∙ sym (c.is_misplaced.ensures limit outer around) ∙ c.if-is_misplaced.true in
    subst (λ b. Firsts (if b then places_of 7 line (take 1 line.words) else []) c.place_at.result) (sym yes)
    (subst (λ r. Firsts (places_of 7 line (take 1 line.words)) r) (sym c.place_at.ensures) (head_first (place_of 7 line) line.words))
