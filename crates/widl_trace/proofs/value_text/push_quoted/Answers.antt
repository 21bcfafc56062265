use Rattle.std.proofs.Common.{arith, get_or}
use Rattle.std.proofs.lemmas.Grind.{common_steps}
use Rattle.std.proofs.lemmas.Option.{slice_get-get_or}
use Rattle.widl_trace.specs.ValueTexts.{unit_text}
use Rattle.widl_trace.proofs.Pieces.{piece_within}
use Rattle.widl_trace.proofs.value_text.push_quoted.Goals as goal

pub returns-in_err-push_unit : goal.returns-in_err-push_unit
returns-in_err-push_unit c =
    let text = c.args.text.now in
    let i = c.loop-unit.unit-index in
    let within = piece_within unit_text text i (get_or text i 0) (slice_get-get_or text i 0 c.loop-unit-test.true) in
    grind (arith, common_steps, within)
