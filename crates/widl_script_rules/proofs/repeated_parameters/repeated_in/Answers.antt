use Rattle.std.proofs.Common.{◌≡◌, ◌≤◌, ◌+◌, ◌∙◌, ◌&&◌, ◌||◌, [], ap, arith, drop, get_or, if◌then◌else◌, length, map, None, option_map, slice_get, Some, subst, sym, take}
use Rattle.std.specs.Prelude.{bytes_eq}
use Rattle.widl_first.specs.Keys.{first_of}
use Rattle.widl_lines.specs.declared.grammar.Terminal.TheVariants as terminal
use Rattle.widl_lines.specs.declared.word_form.WordForm.TheVariants.{Bare}
use Rattle.widl_lines.specs.declared.words.Word.{Word}
use Rattle.widl_script_rules.specs.LeastBreak.{place_key}
use Rattle.widl_script_words.specs.Words.{is_name}
use Rattle.std.proofs.lemmas.List.{length-map, take_all}
use Rattle.std.proofs.lemmas.Option.{slice_get-get_or, slice_get-map}
use Rattle.widl_lines.specs.WordTerms.{lexeme_of}
use Rattle.widl_script_rules.specs.Names.{parameters_in}
use Rattle.widl_script_rules.specs.RepeatedParameters.{repeated_words}
use Rattle.widl_script_rules.specs.Standings.{opens_function, place_of, places_of}
use Rattle.widl_script_rules.specs.Surroundings.{plain_line}
use Rattle.widl_script_rules.proofs.FirstPlaces.{Firsts}
use Rattle.widl_script_rules.proofs.RepeatedWords.{has_next, named, named_if, next_repeated}
use Rattle.widl_script_rules.proofs.repeated_parameters.repeated_in.Goals as goal

pub words-preserved : goal.words-preserved
words-preserved c =
    let raw = c.parameter_words-words.result.now in
    let words = map lexeme_of raw in
    let k = c.words.word-index in
    let line = plain_line c.args.line.now in
    let none : Word = record { text = record { ref_ptr = (0, 0); now = [] }; column = 0; form = Bare; terminal = terminal.Name } in
    let word : Word = get_or raw k none in
    let is : slice_get words k ≡ Some (lexeme_of word) = slice_get-map lexeme_of raw k ∙ ap (option_map lexeme_of) (slice_get-get_or raw k none c.words-test.true) in (
      λ text. c.in_ok-repeated.ensures.names text ∙ ap (λ b. b || (is_name word.terminal && bytes_eq text word.text.now)) (c.words.invariant.0 text) ∙ sym (has_next words k (lexeme_of word) text is),
      subst (λ r. Firsts (places_of 8 line (repeated_words [] (named (take (k + 1) words)))) r)
          (sym (c.first_of-first.ensures ∙ ap (first_of place_key c.words.first) (c.in_ok-repeated.ensures.place ∙ ap (λ b. if is_name word.terminal && b then Some (place_of 8 line (lexeme_of word)) else None) (c.words.invariant.0 word.text.now))))
          (next_repeated line words k (lexeme_of word) c.words.first is c.words.invariant.1),
    )

pub returns : goal.returns
returns c =
    let line = plain_line c.args.line.now in
    let raw = c.parameter_words-words.result.now in
    let k = c.words.word-index in
    let long : length (map lexeme_of raw) ≤ k = omega (arith, length-map raw lexeme_of, c.words-test.false) in
    let e : named (take k (map lexeme_of raw)) ≡ parameters_in line =
    ap named (take_all k (map lexeme_of raw) long) ∙ ap named c.parameter_words-words.ensures ∙ named_if (opens_function line) (drop 2 line.words) in
    subst (λ ws. Firsts (places_of 8 line (repeated_words [] ws)) c.words.first) e c.words.invariant.1
