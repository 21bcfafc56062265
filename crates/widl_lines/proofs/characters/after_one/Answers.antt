use Rattle.widl_lines.proofs.Splitting.{cut_after_one}
use Rattle.widl_lines.proofs.characters.after_one.Goals as goal

pub returns : goal.returns
returns c = cut_after_one c.args.code c.with_byte.result c.in_ok-byte.byte.now c.args.text.now c.in_ok-byte.more.now c.in_ok-byte.ensures.cases.0 c.with_byte.ensures
