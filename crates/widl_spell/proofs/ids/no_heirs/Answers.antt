use Rattle.std.proofs.Common.{◌≡◌, [], replicate, arith, ap, ◌∙◌}
use Rattle.widl_spell.proofs.Heirs.{no_heirs}
use Rattle.widl_spell.proofs.ids.no_heirs.Goals as goal

pub returns : goal.returns
returns c = no_heirs c.loop-number.heirs.items c.args.count (c.loop-number.invariant ∙ ap (λ n. replicate n []) (let e : c.loop-number._number ≡ c.args.count = omega arith in e))
