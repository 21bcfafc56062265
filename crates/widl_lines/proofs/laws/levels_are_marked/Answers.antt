use Rattle.widl_lines.proofs.Marks.{each_leveled}
use Rattle.widl_lines.proofs.laws.levels_are_marked.Goals as goal

pub returns : goal.returns
returns c = λ rule row has. each_leveled rule row has
