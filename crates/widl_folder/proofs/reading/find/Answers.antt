use Rattle.std.proofs.Common.{sym, ◌∙◌}
use Rattle.widl_folder.proofs.Finding.{found_here, found_later}
use Rattle.widl_folder.proofs.reading.find.Goals as goal

pub returns-then-eq : goal.returns-then-eq
returns-then-eq c =
    found_here _ _ c.name.result.now _ c.at.result.now c.loop-place.invariant c.at.ensures c.name.ensures (sym c.eq.ensures ∙ c.if-eq.true)

pub loop-place-preserved : goal.loop-place-preserved
loop-place-preserved c =
    found_later _ _ c.name.result.now _ c.at.result.now c.loop-place.invariant c.at.ensures c.name.ensures (sym c.eq.ensures ∙ c.if-eq.false)
