use Rattle.std.proofs.Common.{length, take, map}
use Rattle.widl_idl.specs.declared.interface.Iface.{Iface}
use Rattle.widl_spell.specs.Ready.{AreHeirs}
use Rattle.widl_spell.proofs.ids.heirs_of.Given as goal

abbrev pub invariant-loop-number : goal.invariant-loop-number
invariant-loop-number l = AreHeirs (take l.number (map (λ (i : Iface). i.parent) l.ifaces)) l.heirs.items (length l.ifaces)
