use Rattle.std.proofs.Common.{◌≡◌, map, take}
use Rattle.widl_idl.specs.declared.interface.Iface.{Iface}
use Rattle.widl_type_rules.proofs.lineages.parents_of.Given as goal

abbrev pub invariant-loop-iface : goal.invariant-loop-iface
invariant-loop-iface l = l.parents.items ≡ map (λ (i : Iface). i.parent) (take l.iface-index l.ifaces)
