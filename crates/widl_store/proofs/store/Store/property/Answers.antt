use Rattle.std.proofs.Common.{ap, sym, ◌∙◌}
use Rattle.std.specs.Option.{option_map}
use Rattle.widl_store.specs.Created.{prop_of}
use Rattle.widl_store.proofs.Along.{found_here, ends_here, goes_on, lower_within}
use Rattle.widl_store.proofs.store.Store.property.Goals as goal

pub returns-in-Some : goal.returns-in-Some
returns-in-Some c = rw (← c.self.view_is) (sym (c.loop-prop.invariant.1 ∙ found_here _ _ _ _ c.object_at-object.ensures _ (sym c.own.ensures ∙ ap (option_map prop_of) c.in-Some.is)))

pub returns-in-None : goal.returns-in-None
returns-in-None c = rw (← c.self.view_is) (sym (c.loop-prop.invariant.1 ∙ ends_here _ _ _ _ c.object_at-object.ensures (sym c.own.ensures ∙ ap (option_map prop_of) c.in_default.is) (sym c.proto.ensures ∙ c.in-None.is)))

pub loop-prop-smaller : goal.loop-prop-smaller
loop-prop-smaller c = (c.self.invariant.sound.each _ _ c.object_at-object.ensures).below _ (sym c.proto.ensures ∙ c.in-Some-proto.is)

pub loop-prop-preserved : goal.loop-prop-preserved
loop-prop-preserved c = (
  lower_within _ _ _ ((c.self.invariant.sound.each _ _ c.object_at-object.ensures).below _ (sym c.proto.ensures ∙ c.in-Some-proto.is)) c.loop-prop.invariant.0,
  c.loop-prop.invariant.1 ∙ goes_on _ _ _ _ c.object_at-object.ensures c.self.invariant.sound _ (sym c.own.ensures ∙ ap (option_map prop_of) c.in_default.is) (sym c.proto.ensures ∙ c.in-Some-proto.is),
)
