use Rattle.std.proofs.Common.{ap, sym}
use Rattle.widl_tables.specs.declared.pick.Pick.TheVariants.{Probe}
use Rattle.widl_value.specs.declared.value.Value.{Value}
use Rattle.widl_steps.specs.Built.{built_today}
use Rattle.widl_steps.specs.Resolution.{by_pick, kept}
use Rattle.widl_convert.specs.Entries.{place_in}
use Rattle.widl_convert.specs.Frames.{entries_of, taken}
use Rattle.widl_convert.proofs.resolve.probe.Goals as goal

pub returns-in-Obj-clause-dialog : goal.returns-in-Obj-clause-dialog
returns-in-Obj-clause-dialog c list =
    ap (λ (v : Value). by_pick built_today list (place_in c.args.resolution.value.kept) v (taken kept list c.args.resolution.value v) (entries_of list c.args.resolution.value) (Probe c.args.overload)) (sym c.in-Obj.is)
