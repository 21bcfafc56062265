use Rattle.std.proofs.Common.{List, [], ◌∷◌, ◌++◌, ◌+◌, ◌∙◌, ◌≤◌, ap, append_assoc, arith, drop, length, sym}
use Rattle.std.proofs.lemmas.List.{append-nil}
use Rattle.widl_text.specs.declared.key.Key.{Key}
use Rattle.widl_text.specs.declared.key.Key.TheVariants.{Name}
use Rattle.widl_value.specs.declared.value.Value.{Value}
use Rattle.widl_steps.specs.Results.{properties}
use Rattle.widl_convert.proofs.OutgoingItems.{no_values_left, property_made}
use Rattle.widl_convert.proofs.containers.properties.Goals as goal

pub loop-place-preserved : goal.loop-place-preserved
loop-place-preserved c =
    ap (λ (es : List (Key × Value)). es ++ properties (drop (c.loop-place.place + 1) c.replace-name.new.self) (drop (c.loop-place.place + 1) c.replace-value.new.self)) c.in_ok-push.ensures.ok
    ∙ append_assoc c.loop-place.entries ((Name c.replace-name.result, c.replace-value.result) ∷ []) (properties (drop (c.loop-place.place + 1) c.replace-name.new.self) (drop (c.loop-place.place + 1) c.replace-value.new.self))
    ∙ ap (λ (es : List (Key × Value)). c.loop-place.entries ++ es)
    (sym (property_made c.loop-place.names c.replace-name.new.self c.loop-place.made c.replace-value.new.self c.loop-place.place c.replace-name.result _ c.replace-value.result _ c.replace-name.ensures.former c.replace-name.ensures.list c.replace-value.ensures.former c.replace-value.ensures.list))
    ∙ c.loop-place.invariant

pub returns-then-place-len : goal.returns-then-place-len
returns-then-place-len c =
    let past : length c.loop-place.made ≤ c.loop-place.place = omega (arith, c.if-place-len.true, c.len-in-loop-place.ensures) in
    sym (append-nil c.loop-place.entries)
    ∙ ap (λ (es : List (Key × Value)). c.loop-place.entries ++ es) (sym (no_values_left c.loop-place.names c.loop-place.made c.loop-place.place past))
    ∙ c.loop-place.invariant
