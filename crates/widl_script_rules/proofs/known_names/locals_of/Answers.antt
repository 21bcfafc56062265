use Rattle.std.proofs.Common.{◌≡◌, ◌∙◌, ◌||◌, [], ap, arith, if◌then◌else◌, length, nat_eq, option_map, slice_get, Some, sym, take}
use Rattle.std.specs.Option.{option_eq}
use Rattle.std.proofs.lemmas.List.{length-map}
use Rattle.std.proofs.lemmas.Option.{slice_get-map}
use Rattle.widl_script_rules.specs.Names.{bound_in, bound_where, has_name, stands_in}
use Rattle.widl_script_rules.specs.Standings.{Standing, function_around, standings}
use Rattle.widl_script_rules.specs.Surroundings.{around_at, plain_line, plain_lines}
use Rattle.widl_script_rules.proofs.BoundWords.{names_next, same_function}
use Rattle.widl_script_rules.proofs.FirstPlaces.{taken_whole}
use Rattle.widl_script_rules.proofs.Surrounding.{at_place, word_of}
use Rattle.widl_script_rules.proofs.known_names.locals_of.Goals as goal

pub add_local-requires : goal.add_local-requires
add_local-requires c = word_of c.args.lines.now c.args.words.now c.lines.place c.index-lines-place.result _ c.requires.words c.requires.words_count c.lines-test.true c.index-lines-place.is

pub lines-preserved : goal.lines-preserved
lines-preserved c = λ function text.
    let lines = plain_lines c.args.lines.now in
    let k = c.lines.place in
    let line = c.index-lines-place.result in
    let is : slice_get lines k ≡ Some (plain_line line) = slice_get-map plain_line c.args.lines.now k ∙ ap (option_map plain_line) (at_place c.args.lines.now k line c.lines-test.true c.index-lines-place.is) in
    let before = has_name (bound_where (take k (standings lines)) (Some function)) text in
    c.in_ok-add_local.ensures function.number text
    ∙ ap (λ b. b || has_name (if option_eq nat_eq (Some function.number) c.function_number-function.result then bound_in (plain_line line) else []) text) (c.lines.invariant function text)
    ∙ ap (λ o. before || has_name (if option_eq nat_eq (Some function.number) o then bound_in (plain_line line) else []) text)
    (c.function_number-function.ensures (around_at lines k) (c.requires.each k _ (omega (arith, c.lines-test.true, c.requires.count))).function)
    ∙ ap (λ b. before || has_name (if b then bound_in (plain_line line) else []) text) (same_function function (function_around (around_at lines k)))
    ∙ sym (names_next (λ (s : Standing). if stands_in (Some function) s then bound_in s.line else []) lines k (plain_line line) text is)

pub returns : goal.returns
returns c = λ function text.
    let lines = plain_lines c.args.lines.now in
    let k = c.lines.place in
    let end : k ≡ length lines = omega (arith, c.lines-test.false, c.lines.auto.place-end) ∙ sym (length-map c.args.lines.now plain_line) in
    c.lines.invariant function text ∙ ap (λ ws. has_name ws text) (taken_whole (λ (s : Standing). if stands_in (Some function) s then bound_in s.line else []) lines k end)
