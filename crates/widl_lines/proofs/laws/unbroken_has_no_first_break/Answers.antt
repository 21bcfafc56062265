use Rattle.widl_lines.proofs.OneBreak.{none_broken}
use Rattle.widl_lines.proofs.laws.unbroken_has_no_first_break.Goals as goal

pub returns : goal.returns
returns c = λ text place a b. none_broken text place a b
