use Rattle.std.proofs.Common.{map, refl}
use Rattle.widl_idl.specs.PlainTrees.{plain_definitions}
use Rattle.widl_idl.specs.PlainTypes.{attribute_of}
use Rattle.widl_idl.specs.WrittenTypes.{notes_of}
use Rattle.widl_idl.specs.Terms.{type_term}
use Rattle.widl_type_rules.specs.UsesListed.{use_of}
use Rattle.widl_type_rules.proofs.ResolvedUses.{use_resolved}
use Rattle.widl_type_rules.proofs.resolved_uses.resolve_use.Goals as goal

pub returns : goal.returns
returns c =
    let outer = map attribute_of c.args.written.now.outer.now in
    let own = map attribute_of c.args.written.now.own.now in
    use_resolved (plain_definitions c.args.resolver.now) (use_of c.args.written.now) outer own (type_term c.in_ok-meaning.meaning) refl (c.in_ok-meaning.ensures _ (c.followed_by.ensures (notes_of outer) (notes_of own) c.of-outer.ensures c.of-own.ensures))
