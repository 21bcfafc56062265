use Rattle.std.proofs.Common.{◌≡◌, ◌≤◌, ◌∷◌, ◌++◌, ◌∙◌, [], ap, arith, length, map, slice_get, Some, sym, take}
use Rattle.std.proofs.lemmas.List.{length-map, take_all}
use Rattle.widl_lines.specs.declared.reading.LineWords.{LineWords}
use Rattle.widl_lines.specs.Blocks.{first_word}
use Rattle.widl_lines.specs.TextBreaks.{Line}
use Rattle.widl_script_rules.specs.Surroundings.{plain_line}
use Rattle.widl_script_rules.proofs.Surrounding.{at_place}
use Rattle.widl_script_rules.proofs.Takes.{mapped_next, mapped_twice}
use Rattle.widl_script_rules.proofs.standings.first_words.Goals as goal

pub lines-preserved : goal.lines-preserved
lines-preserved c =
    let all = c.args.lines.now in
    let k = c.lines.line-index in
    let line = c.line-item.result in
    let f = λ (l : LineWords). first_word (plain_line l).words in
    let is : slice_get all k ≡ Some line = at_place all k line c.lines-test.true c.line-item.is in
    c.in_ok-push.ensures.items ∙ ap (λ ws. ws ++ c.first_word.result ∷ []) c.lines.invariant ∙ ap (λ w. map f (take k all) ++ w ∷ []) c.first_word.ensures ∙ sym (mapped_next f all k line is)

pub returns : goal.returns
returns c =
    let all = c.args.lines.now in
    let k = c.lines.line-index in
    let f = λ (l : LineWords). first_word (plain_line l).words in
    let end : length all ≤ k = omega (arith, c.lines-test.false) in
    let whole : c.lines.words.items ≡ map f all = c.lines.invariant ∙ ap (map f) (take_all k all end) in record {
      words = whole ∙ sym (mapped_twice (λ (l : Line). first_word l.words) plain_line all);
      count = ap length whole ∙ length-map all f;
    }
