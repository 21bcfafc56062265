use Rattle.std.proofs.Common.{map}
use Rattle.widl_idl.specs.DefinitionTerms.{iface_term}
use Rattle.widl_spell.specs.Ids.{parents_of}
use Rattle.widl_spell.specs.Ready.{AreParentless, is_ready}
use Rattle.widl_spell.proofs.ids.without_parent.Given as goal

abbrev pub invariant-loop-number : goal.invariant-loop-number
invariant-loop-number l = AreParentless (parents_of (map iface_term l.ifaces)) l.number (is_ready l.ready)
