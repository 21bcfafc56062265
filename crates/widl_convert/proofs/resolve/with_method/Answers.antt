use Rattle.std.proofs.Common.{◌≡◌, List, sym, subst}
use Rattle.std.specs.Prelude.{IfOk}
use Rattle.widl_idl.specs.DefinitionTerms.{defs_term}
use Rattle.widl_overload.specs.sets.Sets.{TupleTerm}
use Rattle.widl_steps.specs.Resolution.{from_method}
use Rattle.widl_convert.specs.Frames.{move_dialog, taken}
use Rattle.widl_convert.proofs.Resolving.{probed_entry}
use Rattle.widl_convert.proofs.resolve.with_method.Goals as goal

pub returns : goal.returns
returns c =
    subst
    (λ (entries : List TupleTerm). IfOk c.from_method.result (λ m. move_dialog (defs_term c.args.tables.now.defs) m ≡ taken from_method (defs_term c.args.tables.now.defs) c.args.probe.resolution.value c.args.probe.obj c.args.method entries))
    (sym (probed_entry (defs_term c.args.tables.now.defs) c.args.probe.resolution.value.kept c.args.probe.resolution.value.overload (c.args.probe.resolution.value.several c.args.probe.at_place.none) c.args.probe.at_place.none c.args.probe.overload c.args.probe.among))
    c.from_method.ensures
