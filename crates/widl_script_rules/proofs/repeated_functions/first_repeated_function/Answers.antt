use Rattle.std.proofs.Common.{◌≡◌, ◌+◌, ◌∙◌, ◌||◌, [], arith, ap, length, option_map, slice_get, Some, subst, sym, take}
use Rattle.std.proofs.lemmas.List.{length-map}
use Rattle.std.proofs.lemmas.Option.{slice_get-map}
use Rattle.widl_idl.specs.DefinitionTerms.{defs_term}
use Rattle.widl_script_rules.specs.Names.{function_name, has_name}
use Rattle.widl_script_rules.specs.RepeatedFunctions.{repeated_after}
use Rattle.widl_script_rules.specs.Standings.{standings}
use Rattle.widl_script_rules.specs.Surroundings.{has_key, plain_line, plain_lines}
use Rattle.widl_script_rules.proofs.BoundWords.{names_next}
use Rattle.widl_script_rules.proofs.FirstPlaces.{Firsts, lines_taken}
use Rattle.widl_script_rules.proofs.RepeatedNames.{name_in, next_taken}
use Rattle.widl_script_rules.proofs.Surrounding.{at_place, word_of}
use Rattle.widl_script_rules.proofs.repeated_functions.first_repeated_function.Goals as goal

pub repeated_in-requires : goal.repeated_in-requires
repeated_in-requires c = word_of c.args.lines.now c.args.words.now c.lines.place c.index-lines-place.result _ c.requires.words c.requires.count c.lines-test.true c.index-lines-place.is

pub lines-preserved : goal.lines-preserved
lines-preserved c =
    let raw = c.args.lines.now in
    let lines = plain_lines raw in
    let list = defs_term c.args.list.now in
    let k = c.lines.place in
    let line = plain_line c.index-lines-place.result in
    let is : slice_get lines k ≡ Some line = slice_get-map plain_line raw k ∙ ap (option_map plain_line) (at_place raw k c.index-lines-place.result c.lines-test.true c.index-lines-place.is) in (
      λ text. c.in_ok-repeated.ensures.functions text ∙ ap (λ b. b || has_name (function_name line) text) (c.lines.invariant.0 text) ∙ sym (names_next name_in lines k line text is),
      λ text. ap (λ keys. has_key keys text) c.in_ok-repeated.ensures.owners ∙ c.lines.invariant.1 text,
      subst (λ r. Firsts (repeated_after list [] (take (k + 1) (standings lines))) r) (sym c.first_of-first.ensures)
          (next_taken list lines k line (has_key c.lines.taken.functions.keys) (has_key c.lines.taken.owners.keys) c.lines.first c.in_ok-repeated.repeated is c.lines.invariant.0 c.lines.invariant.1 c.lines.invariant.2
          c.in_ok-repeated.ensures.first),
    )

pub returns : goal.returns
returns c =
    let lines = plain_lines c.args.lines.now in
    let end : c.lines.place ≡ length lines = omega (arith, c.lines-test.false, c.lines.auto.place-end) ∙ sym (length-map c.args.lines.now plain_line) in
    subst (λ script. Firsts (repeated_after (defs_term c.args.list.now) [] script) c.lines.first) (lines_taken lines c.lines.place end) c.lines.invariant.2
