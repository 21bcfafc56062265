use Rattle.std.proofs.Common.{◌≡◌, ◌∙◌, ap, drop, map, subst, sym}
use Rattle.widl_lines.specs.Blocks.{first_word}
use Rattle.widl_lines.specs.WordTerms.{lexeme_of}
use Rattle.widl_script_rules.specs.KnownNames.{unknown_words}
use Rattle.widl_script_rules.specs.Names.{names_in, used_behind}
use Rattle.widl_script_rules.specs.Standings.{places_of}
use Rattle.widl_script_rules.specs.Surroundings.{plain_line, plain_lines}
use Rattle.widl_script_rules.proofs.FirstPlaces.{Firsts}
use Rattle.widl_script_rules.proofs.unknown_names.Scope.first_unknown_used.Goals as goal

pub returns : goal.returns
returns c = λ list around scope.
    let line = plain_line c.args.self.now.line.now in
    let lines = plain_lines c.args.self.now.lines.now in
    let e : names_in c.in-Some.passed (map lexeme_of c.words_behind.result.now) ≡ used_behind (first_word line.words) (drop 1 line.words) =
    ap (names_in c.in-Some.passed) c.words_behind.ensures ∙ sym (c.in-Some.ensures (drop 1 line.words)) ∙ ap (λ w. used_behind w (drop 1 line.words)) c.first_word.ensures in
    subst (λ ws. Firsts (places_of 5 line (unknown_words list lines around ws)) c.in_ok-first.first) e (c.in_ok-first.ensures list around scope)
