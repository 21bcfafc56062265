use Rattle.widl_store.specs.Objects.{length_key}
use Rattle.widl_store.specs.Plans.{number}
use Rattle.std.proofs.Common.{◌∙◌}
use Rattle.widl_store.proofs.RealmSteps.{set_as}
use Rattle.widl_store.proofs.functions.set_length.Goals as goal

pub returns : goal.returns
unfolding length_key
returns c = set_as c.args.object.now c.set.new.self c.in_ok-key.key (number c.args.arguments).0 c.count.result (number c.args.arguments).1 c.in_ok-set.ensures (c.in_ok-key.ensures ∙ c.requires) c.count.ensures
