use Rattle.std.proofs.Common.{map}
use Rattle.widl_idl.specs.DefinitionTerms.{iface_term}
use Rattle.widl_spell.specs.Ids.{parents_of}
use Rattle.widl_spell.specs.Ready.{is_ready}
use Rattle.widl_spell.proofs.Heirs.{parent_is, parentless_more}
use Rattle.widl_spell.proofs.ids.without_parent.Goals as goal

pub loop-number-preserved : goal.loop-number-preserved
loop-number-preserved c = parentless_more (parents_of (map iface_term c.args.ifaces.now)) c.loop-number.number c.index-ifaces-number.result.parent (is_ready c.loop-number.ready) (is_ready c.add_if_parentless.new.ready) (parent_is c.args.ifaces.now c.loop-number.number c.index-ifaces-number.result c.loop-number-test.true c.index-ifaces-number.is) c.in_ok-add_if_parentless.ensures c.loop-number.invariant
