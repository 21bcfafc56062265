use Rattle.std.proofs.Common.{ap, ◌∙◌}
use Rattle.std.specs.Str.{chars}
use Rattle.std.proofs.lemmas.Str.{chars-encodes}
use Rattle.widl_text.specs.Utf16.{utf16_of}
use Rattle.widl_scalar.proofs.ScalarUnits.{lossy_scalars}
use Rattle.widl_scalar.proofs.unit_texts.respelled.Goals as goal

pub returns : goal.returns
returns c = c.in_ok-scalar.ensures ∙ ap utf16_of (ap chars (c.as_str.ensures.value ∙ c.in_ok-characters.ensures) ∙ chars-encodes _ (lossy_scalars c.args.units.now (λ i. (c.type_inv.units i).fits)))
