use Rattle.std.proofs.Common.{ap, sym}
use Rattle.widl_syntax.specs.Signs.{at, ◌⧺◌}
use Rattle.widl_syntax.proofs.TypeForms.{type-at, type-bare}
use Rattle.widl_syntax.proofs.Types.{of_signs, twice_at}
use Rattle.widl_syntax.proofs.build.reader.Reader.unannotated_type.Goals as goal

pub returns : goal.returns
returns c =
    let ty = c.in_ok-ty.ty in
    of_signs (type-bare _ _ ty c.new.ensures)
    (of_signs (ap (λ s. at ty.at ⧺ s) (type-at ty)) (twice_at (of_signs (sym (type-at ty)) c.in_ok-ty.ensures.reads)))
