use Rattle.std.proofs.Common.{arith, codes, map}
use Rattle.std.proofs.lemmas.Grind.{common_steps}
use Rattle.widl_trace.specs.ValueTexts.{value_text}
use Rattle.widl_trace.proofs.Pieces.{text_at, text_more, text_within}
use Rattle.widl_trace.proofs.value_text.push_values.Goals as goal

pub returns-in_err-push : goal.returns-in_err-push
returns-in_err-push c =
    let values = c.args.values.now in
    let value = c.index-values-place.result in
    let at = text_at value_text values c.loop-place.place value c.loop-place-test.true c.index-values-place.is in
    let within = text_within (codes ", ") (map value_text values) c.loop-place.place (value_text value) at in
    grind (arith, common_steps, within)

pub returns-in_err-push_value : goal.returns-in_err-push_value
returns-in_err-push_value c =
    let values = c.args.values.now in
    let value = c.index-values-place.result in
    let at = text_at value_text values c.loop-place.place value c.loop-place-test.true c.index-values-place.is in
    let within = text_within (codes ", ") (map value_text values) c.loop-place.place (value_text value) at in
    grind (arith, common_steps, within)

pub loop-place-preserved : goal.loop-place-preserved
loop-place-preserved c =
    let values = c.args.values.now in
    let value = c.index-values-place.result in
    let at = text_at value_text values c.loop-place.place value c.loop-place-test.true c.index-values-place.is in
    let more = text_more (codes ", ") (map value_text values) c.loop-place.place (value_text value) at in
    grind (arith, common_steps, more)
