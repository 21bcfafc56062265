use Rattle.std.proofs.Common.{[], ◌∷◌, arith}
use Rattle.std.proofs.lemmas.List.{length-append}
use Rattle.widl_trace.proofs.laws.line_has_64_bytes_a_unit.Goals as goal

pub returns : goal.returns
returns c = λ line. let e = length-append line (10 ∷ []) in omega (arith, e)
