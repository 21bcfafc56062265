use Rattle.std.proofs.Common.{arith, subst}
use Rattle.widl_idl.specs.MergedSets.{IsMerged, MergedSet}
use Rattle.widl_engine.specs.Frames.{program_of}
use Rattle.widl_engine.proofs.RunnableTables.{runnable}
use Rattle.widl_engine.proofs.runs.fits.Goals as goal

pub returns : goal.returns
returns c = λ budget small.
    let merged = subst (λ (set : MergedSet). IsMerged set.defs set.fragments) c.list.ensures c.defs-definitions.ensures.merged in
    let few = c.first_store_is_bounded.ensures.bounded c.args.tables.now merged in
    c.runs_fit.ensures (program_of c.args.tables.now c.args.script.now) budget
    (runnable c.args.script.now c.parts_are_lower.ensures c.requires.plain)
    (omega (arith, few, small))
