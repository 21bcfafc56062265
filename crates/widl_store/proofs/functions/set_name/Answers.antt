use Rattle.std.proofs.Common.{ap, ◌∙◌}
use Rattle.widl_store.specs.declared.property.Prop.TheVariants.{Plain}
use Rattle.widl_store.specs.Plans.{name, fixed_flags}
use Rattle.widl_value.specs.declared.value.Value.TheVariants.{Str}
use Rattle.widl_store.proofs.RealmSteps.{set_as}
use Rattle.widl_store.proofs.functions.set_name.Goals as goal

pub returns : goal.returns
returns c = set_as c.args.object.now c.set.new.self c.in_ok-key.key (name c.args.held.now).0 c.text.result (name c.args.held.now).1 c.in_ok-set.ensures c.in_ok-key.ensures (c.text.ensures ∙ ap (λ t. Plain (Str t) fixed_flags) c.in-Ok.ensures)
