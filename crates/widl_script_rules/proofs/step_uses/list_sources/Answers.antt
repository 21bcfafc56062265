use Rattle.std.proofs.Common.{◌≡◌, ◌∙◌, ap, map, slice_get, Some}
use Rattle.std.proofs.lemmas.List.{map-append}
use Rattle.widl_script_rules.specs.UsedPlaces.{listed_term}
use Rattle.widl_script_rules.proofs.Surrounding.{at_place}
use Rattle.widl_script_rules.proofs.UsedPlaces.{listed_next, word_next}
use Rattle.widl_script_rules.proofs.step_uses.list_sources.Goals as goal

pub sources-preserved : goal.sources-preserved
sources-preserved c =
    let sources = c.args.sources.now in
    let k = c.sources.number in
    let s = c.index-sources-number.result in
    let is : slice_get sources k ≡ Some s = at_place sources k s c.sources-test.true c.index-sources-number.is in (
      listed_next c.args.first sources k s (map listed_term c.args.used.now.items) (map listed_term c.sources.used.items) (map listed_term c.push.new.self.items) c.sources.word is c.sources.invariant.1 c.sources.invariant.0
          (ap (map listed_term) c.in_ok-push.ensures.items ∙ map-append listed_term c.sources.used.items _),
      word_next c.args.first sources k s c.sources.word c.source_words.result c.saturating_add-word.result is c.sources.invariant.1 c.source_words.ensures.value c.saturating_add-word.ensures,
    )
