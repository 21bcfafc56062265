use Rattle.std.proofs.Common.{sym, ◌∙◌, ap}
use Rattle.std.specs.Prelude.{Some}
use Rattle.std.specs.Map.{lookup}
use Rattle.std.specs.Option.{option_map}
use Rattle.widl_store.specs.Objects.{same_key}
use Rattle.widl_store.proofs.KeyEquality.{test_is}
use Rattle.widl_store.proofs.KeyFinds.{found_in_order, keys_once}
use Rattle.widl_store.proofs.numbered_map.NumberedMap.get.Goals as goal

pub returns-in-Some : goal.returns-in-Some
returns-in-Some c = ap Some c.parts.ensures ∙ ap (option_map (λ h. h.prop)) (c.in-Some.ensures.value ∙ ap (λ test. lookup test c.self.inside.entries.entries) (test_is c.args.key.now)) ∙ sym (found_in_order c.args.key.now c.self.inside.next c.self.inside.entries.entries c.self.invariant.below c.self.invariant.once (keys_once _ c.self.invariant.keys)) ∙ ap (lookup (same_key c.args.key.now)) c.self.view_is

pub returns-in-None : goal.returns-in-None
returns-in-None c = ap (option_map (λ h. h.prop)) (c.in-None.ensures.value ∙ ap (λ test. lookup test c.self.inside.entries.entries) (test_is c.args.key.now)) ∙ sym (found_in_order c.args.key.now c.self.inside.next c.self.inside.entries.entries c.self.invariant.below c.self.invariant.once (keys_once _ c.self.invariant.keys)) ∙ ap (lookup (same_key c.args.key.now)) c.self.view_is
