use Rattle.std.proofs.Common.{◌≡◌, Some}
use Rattle.widl_lines.proofs.OneBreak.{one_break}
use Rattle.widl_lines.proofs.laws.one_first_break.Goals as goal

pub returns : goal.returns
returns c = λ text one other a b. (let e : Some one ≡ Some other = one_break text (Some one) (Some other) a b in cc)
