use Rattle.std.proofs.Common.{◌≡◌, ◌+◌, ◌∷◌, ◌∙◌, [], arith, ap, sym, length, length-append, slice_get, Some, subst, option_map}
use Rattle.std.proofs.lemmas.Option.{slice_get-map}
use Rattle.widl_script_rules.specs.Lookups.{AreOpenings}
use Rattle.widl_script_rules.specs.Surroundings.{around_at, plain_line, plain_lines}
use Rattle.widl_script_rules.proofs.Lookups.{openings_pushed}
use Rattle.widl_script_rules.proofs.Surrounding.{at_place, word_of}
use Rattle.widl_script_rules.proofs.targets.openings.Goals as goal

pub opening_of-requires : goal.opening_of-requires
opening_of-requires c = word_of c.args.lines.now c.args.words.now c.lines.place c.index-lines-place.result _ c.requires.words c.requires.words_count c.lines-test.true c.index-lines-place.is

pub lines-preserved : goal.lines-preserved
lines-preserved c =
    let lines = plain_lines c.args.lines.now in
    let line = c.index-lines-place.result in
    let k = c.lines.place in
    let is : slice_get lines k ≡ Some (plain_line line) =
    slice_get-map plain_line c.args.lines.now k ∙ ap (option_map plain_line) (at_place c.args.lines.now k line c.lines-test.true c.index-lines-place.is) in (
      ap length c.in_ok-push.ensures.items ∙ length-append c.lines.all.items (c.in_ok-opening.opening ∷ []) ∙ ap (λ n. n + 1) c.lines.invariant.0,
      λ list known. subst (AreOpenings list lines) (sym c.in_ok-push.ensures.items)
          (openings_pushed list lines c.lines.all.items (plain_line line) c.in_ok-opening.opening k c.lines.invariant.0 is (c.in_ok-opening.ensures list (around_at lines k) known (c.requires.formed k (plain_line line) is)) (c.lines.invariant.1 list known)),
    )

pub returns : goal.returns
returns c = record {
  each = c.lines.invariant.1;
  count = omega (arith, c.lines.invariant.0, c.lines-test.false, c.lines.auto.place-end);
}
