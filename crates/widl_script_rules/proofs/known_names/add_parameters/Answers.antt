use Rattle.std.proofs.Common.{◌≡◌, ◌≤◌, ◌∙◌, ◌&&◌, ◌||◌, [], ap, arith, drop, get_or, length, map, nat_eq, option_map, slice_get, Some, sym, take}
use Rattle.std.specs.Prelude.{bytes_eq}
use Rattle.std.proofs.lemmas.List.{length-map, take_all}
use Rattle.std.proofs.lemmas.Option.{slice_get-get_or, slice_get-map}
use Rattle.widl_lines.specs.declared.grammar.Terminal.TheVariants as terminal
use Rattle.widl_lines.specs.declared.word_form.WordForm.TheVariants.{Bare}
use Rattle.widl_lines.specs.declared.words.Word.{Word}
use Rattle.widl_lines.specs.WordTerms.{lexeme_of}
use Rattle.widl_script_rules.specs.Names.{has_name, parameters_in}
use Rattle.widl_script_rules.specs.Standings.{opens_function}
use Rattle.widl_script_rules.specs.Surroundings.{has_pair, plain_line}
use Rattle.widl_script_words.specs.Words.{is_name}
use Rattle.widl_script_rules.proofs.BoundWords.{none_under, or_under}
use Rattle.widl_script_rules.proofs.RepeatedWords.{has_next, named, named_if}
use Rattle.widl_script_rules.proofs.known_names.add_parameters.Goals as goal

pub words-init : goal.words-init
words-init c = λ number text. none_under (has_pair c.args.names.now.keys number text) (nat_eq number c.args.place)

pub words-preserved : goal.words-preserved
words-preserved c = λ number text.
    let raw = c.parameter_words-words.result.now in
    let words = map lexeme_of raw in
    let k = c.words.word-index in
    let none : Word = record { text = record { ref_ptr = (0, 0); now = [] }; column = 0; form = Bare; terminal = terminal.Name } in
    let word : Word = get_or raw k none in
    let is : slice_get words k ≡ Some (lexeme_of word) = slice_get-map lexeme_of raw k ∙ ap (option_map lexeme_of) (slice_get-get_or raw k none c.words-test.true) in
    let first = has_pair c.args.names.now.keys number text in
    let here = nat_eq number c.args.place in
    let one = is_name word.terminal && bytes_eq text word.text.now in
    c.in_ok-add_parameter.ensures number text ∙ ap (λ b. b || (here && one)) (c.words.invariant number text) ∙ or_under first here (has_name (named (take k words)) text) one
    ∙ ap (λ b. first || (here && b)) (sym (has_next words k (lexeme_of word) text is))

pub returns : goal.returns
returns c = λ number text.
    let line = plain_line c.args.line.now in
    let raw = c.parameter_words-words.result.now in
    let k = c.words.word-index in
    let long : length (map lexeme_of raw) ≤ k = omega (arith, length-map raw lexeme_of, c.words-test.false) in
    let e : named (take k (map lexeme_of raw)) ≡ parameters_in line =
    ap named (take_all k (map lexeme_of raw) long) ∙ ap named c.parameter_words-words.ensures ∙ named_if (opens_function line) (drop 2 line.words) in
    c.words.invariant number text ∙ ap (λ ws. has_pair c.args.names.now.keys number text || (nat_eq number c.args.place && has_name ws text)) e
