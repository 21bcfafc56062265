use Rattle.std.proofs.Common.{map}
use Rattle.widl_idl.specs.DefinitionTerms.{iface_term}
use Rattle.widl_spell.specs.Ids.{parents_of}
use Rattle.widl_spell.specs.Ready.{is_ready}
use Rattle.widl_spell.proofs.Giving.{AreGiven}
use Rattle.widl_spell.proofs.ids.id_order.Given as goal

abbrev pub invariant-loop-id : goal.invariant-loop-id
invariant-loop-id l = AreGiven (parents_of (map iface_term l.ifaces)) l._id l.order.items (is_ready l.ready)
