use Rattle.std.proofs.Common.{cond, ap, None, Some}
use Rattle.widl_idl.specs.DefinitionTerms.{iface_term}
use Rattle.widl_idl.specs.MergedList.{interface_of}
use Rattle.widl_idl.specs.PlainTrees.{plain_definitions}
use Rattle.widl_idl.specs.PlainTypes.{name_of}
use Rattle.widl_merge.specs.PlainMain.{plain_interface}
use Rattle.widl_merge.proofs.Growing.{pushed_adds}
use Rattle.widl_merge.proofs.defs.add_interface.Goals as goal

pub interface_meant-requires-clause-itself : goal.interface_meant-requires-clause-itself
interface_meant-requires-clause-itself c = c.requires.means.itself (name_of c.args.interface.now.name) (ap (λ b. cond b None (Some (name_of c.args.interface.now.name))) c.if-interface.false)

pub returns : goal.returns
returns c =
    let found = interface_of (plain_definitions c.args.sources.now) (plain_interface c.args.interface.now) in
    pushed_adds iface_term found _ c.in_ok-interface_meant.field-0 c.args.ifaces.now c.push.new.self c.push.result c.push.ensures.ok c.in_ok-interface_meant.ensures
    (ap (λ b. cond b None (Some found)) c.if-interface.false)
