use Rattle.std.proofs.Common.{◌≡◌, ◌+◌, ◌∙◌, List, arith, ap, flat_map, length, option_map, slice_get, Some, subst, sym, take}
use Rattle.std.proofs.lemmas.List.{length-map}
use Rattle.std.proofs.lemmas.Option.{slice_get-map}
use Rattle.widl_idl.specs.DefinitionTerms.{defs_term}
use Rattle.widl_lines.specs.declared.script_place.ScriptPlace.{ScriptPlace}
use Rattle.widl_script_rules.specs.Names.{unknown_in}
use Rattle.widl_script_rules.specs.Standings.{Standing, places_of, standings}
use Rattle.widl_script_rules.specs.Surroundings.{around_at, plain_line, plain_lines}
use Rattle.widl_script_rules.proofs.FirstPlaces.{Firsts, next_first, whole_first}
use Rattle.widl_script_rules.proofs.Surrounding.{at_place}
use Rattle.widl_script_rules.proofs.unknown_names.first_unknown_name.Goals as goal

pub lines-preserved : goal.lines-preserved
lines-preserved c =
    let lines = plain_lines c.args.lines.now in
    let list = defs_term c.args.list.now in
    let k = c.lines.place in
    let line = c.index-lines-place.result in
    let is : slice_get lines k ≡ Some (plain_line line) = slice_get-map plain_line c.args.lines.now k ∙ ap (option_map plain_line) (at_place c.args.lines.now k line c.lines-test.true c.index-lines-place.is) in
    let found : Standing → List ScriptPlace = λ (s : Standing). places_of 5 s.line (unknown_in list (standings lines) s) in
    subst (λ r. Firsts (flat_map found (take (k + 1) (standings lines))) r) (sym c.first_of-first.ensures)
    (next_first found lines k (plain_line line) c.lines.first c.in_ok-unknown.unknown is c.lines.invariant
    (c.in_ok-unknown.ensures list _ (around_at lines k) c.in_ok-known.ensures (c.requires.each k _ (omega (arith, c.lines-test.true, c.requires.count)))))

pub returns : goal.returns
returns c =
    let lines = plain_lines c.args.lines.now in
    let list = defs_term c.args.list.now in
    let k = c.lines.place in
    let end : k ≡ length lines = omega (arith, c.lines-test.false, c.lines.auto.place-end) ∙ sym (length-map c.args.lines.now plain_line) in
    whole_first (λ (s : Standing). places_of 5 s.line (unknown_in list (standings lines) s)) lines k c.lines.first end c.lines.invariant
