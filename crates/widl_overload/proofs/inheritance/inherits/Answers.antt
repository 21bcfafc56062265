use Rattle.std.proofs.Common.{map, arith}
use Rattle.std.proofs.lemmas.List.{length-map}
use Rattle.widl_idl.specs.DefinitionTerms.{iface_term}
use Rattle.widl_overload.proofs.Parents.{step_up}
use Rattle.widl_overload.proofs.inheritance.inherits.Goals as goal

pub loop-link-preserved : goal.loop-link-preserved
loop-link-preserved c = step_up (map iface_term c.args.ifaces.now) c.loop-link._link c.args.ancestor c.in-Some.node c.loop-link.at c.parent-at-in-Some.result _ (omega (arith, length-map c.args.ifaces.now iface_term)) c.in-Some.is c.if-node-ancestor.false c.parent-at-in-Some.ensures c.loop-link.invariant
