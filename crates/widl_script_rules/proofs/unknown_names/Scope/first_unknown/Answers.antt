use Rattle.std.proofs.Common.{◌≡◌, ◌≤◌, ◌+◌, ◌∙◌, [], ap, arith, get_or, length, map, option_map, slice_get, Some, subst, sym, take}
use Rattle.std.proofs.lemmas.List.{length-map, take_all}
use Rattle.std.proofs.lemmas.Option.{slice_get-get_or, slice_get-map}
use Rattle.widl_first.specs.Keys.{first_of}
use Rattle.widl_lines.specs.declared.grammar.Terminal.TheVariants as terminal
use Rattle.widl_lines.specs.declared.word_form.WordForm.TheVariants.{Bare}
use Rattle.widl_lines.specs.declared.words.Word.{Word}
use Rattle.widl_lines.specs.WordTerms.{lexeme_of}
use Rattle.widl_script_rules.specs.KnownNames.{unknown_words}
use Rattle.widl_script_rules.specs.LeastBreak.{place_key}
use Rattle.widl_script_rules.specs.Names.{names_in}
use Rattle.widl_script_rules.specs.Standings.{places_of}
use Rattle.widl_script_rules.specs.Surroundings.{plain_line, plain_lines}
use Rattle.widl_script_rules.proofs.FirstPlaces.{Firsts}
use Rattle.widl_script_rules.proofs.UnknownWords.{next_unknown, passed_next}
use Rattle.widl_script_rules.proofs.unknown_names.Scope.first_unknown.Goals as goal

pub words-preserved : goal.words-preserved
words-preserved c =
    let raw = c.args.words.now in
    let words = map lexeme_of raw in
    let k = c.words.word-index in
    let passed = c.args.passed in
    let line = plain_line c.args.self.now.line.now in
    let lines = plain_lines c.args.self.now.lines.now in
    let none : Word = record { text = record { ref_ptr = (0, 0); now = [] }; column = 0; form = Bare; terminal = terminal.Name } in
    let word : Word = get_or raw k none in
    let is : slice_get words k ≡ Some (lexeme_of word) = slice_get-map lexeme_of raw k ∙ ap (option_map lexeme_of) (slice_get-get_or raw k none c.words-test.true) in (
      c.is_dot-is_passed.ensures ∙ sym (passed_next passed words k (lexeme_of word) is),
      λ list around scope.
          subst (λ r. Firsts (places_of 5 line (unknown_words list lines around (names_in passed (take (k + 1) words)))) r)
          (sym (c.first_of-first.ensures ∙ ap (first_of place_key c.words.first) (c.in_ok-unknown.ensures list around scope)))
          (next_unknown list lines around line passed c.words.is_passed words k (lexeme_of word) c.words.first is c.words.invariant.0 (c.words.invariant.1 list around scope)),
    )

pub returns : goal.returns
returns c = λ list around scope.
    let raw = c.args.words.now in
    let k = c.words.word-index in
    let line = plain_line c.args.self.now.line.now in
    let lines = plain_lines c.args.self.now.lines.now in
    let long : length (map lexeme_of raw) ≤ k = omega (arith, length-map raw lexeme_of, c.words-test.false) in
    subst (λ ws. Firsts (places_of 5 line (unknown_words list lines around (names_in c.args.passed ws))) c.words.first) (take_all k (map lexeme_of raw) long) (c.words.invariant.1 list around scope)
