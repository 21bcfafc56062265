use Rattle.std.proofs.Common.{◌≡◌, List, bytes_eq, slice_get, ap, ◌∙◌}
use Rattle.std.specs.Map.{lookup}
use Rattle.std.specs.Prelude.{option_and_then}
use Rattle.widl_idl.specs.declared.enumeration.Choice.{Choice}
use Rattle.widl_scalar.specs.Enumerations.{told_place, value_place}
use Rattle.widl_tables.specs.ValuePlaces.{Places}
use Rattle.widl_tables.proofs.ValuePlaces.{hold_at}
use Rattle.widl_tables.proofs.Tables.enum_at.Goals as goal

pub returns : goal.returns
returns c =
    let same : c.self.inside.list.defs.choices ≡ c.args.self.now.defs.choices = (let view = c.self.view_is in cc) in
    c.place_in.ensures
    ∙ ap (λ (all : List Places). option_and_then (λ (places : Places). option_and_then told_place (lookup (bytes_eq c.args.text.now) places)) (slice_get all c.args.choice)) c.deref.ensures.value
    ∙ hold_at c.self.inside.values.items c.self.inside.list.defs.choices c.self.invariant.0 c.args.choice c.args.text.now
    ∙ ap (λ (choices : List Choice). value_place choices c.args.choice c.args.text.now) same
