use Rattle.std.proofs.Common.{cond, ap, None, Some}
use Rattle.widl_idl.specs.DefinitionTerms.{space_term}
use Rattle.widl_idl.specs.MergedList.{namespace_of}
use Rattle.widl_idl.specs.PlainTrees.{plain_definitions}
use Rattle.widl_idl.specs.PlainTypes.{name_of}
use Rattle.widl_merge.specs.PlainMain.{plain_namespace}
use Rattle.widl_merge.proofs.Growing.{pushed_adds}
use Rattle.widl_merge.proofs.defs.add_namespace.Goals as goal

pub namespace_meant-requires-clause-itself : goal.namespace_meant-requires-clause-itself
namespace_meant-requires-clause-itself c = c.requires.means.itself (name_of c.args.namespace.now.name) (ap (λ b. cond b None (Some (name_of c.args.namespace.now.name))) c.if-namespace.false)

pub returns : goal.returns
returns c =
    let found = namespace_of (plain_definitions c.args.sources.now) (plain_namespace c.args.namespace.now) in
    pushed_adds space_term found _ c.in_ok-namespace_meant.field-0 c.args.spaces.now c.push.new.self c.push.result c.push.ensures.ok c.in_ok-namespace_meant.ensures
    (ap (λ b. cond b None (Some found)) c.if-namespace.false)
