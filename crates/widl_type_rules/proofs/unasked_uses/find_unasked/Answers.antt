use Rattle.widl_idl.specs.PlainTrees.{plain_definitions}
use Rattle.widl_type_rules.specs.UsesListed.{use_of}
use Rattle.widl_type_rules.proofs.UnaskedUses.{unasked_first}
use Rattle.widl_type_rules.proofs.unasked_uses.find_unasked.Goals as goal

pub returns : goal.returns
returns c = λ ifaces. unasked_first ifaces (plain_definitions c.args.resolver.now) (use_of c.args.written.now) c.requires _ _ c.clamp_and_enforce-found.ensures c.first.ensures
