use Rattle.std.proofs.Common.{◌∙◌, ap}
use Rattle.widl_engine.specs.declared.due.Due.{Due}
use Rattle.widl_engine.specs.declared.due.Due.TheVariants as due
use Rattle.widl_engine.specs.declared.moves.Move.TheVariants as move
use Rattle.widl_engine.specs.Frames.{program_of}
use Rattle.widl_engine.proofs.Coming.{fits_known}
use Rattle.widl_engine.proofs.Leading.{at_continued, continues}
use Rattle.widl_engine.proofs.machine.Machine.finds_or_goes_on.Goals as goal

pub finds-requires-clause-fits : goal.finds-requires-clause-fits
finds-requires-clause-fits c = fits_known (program_of c.args.tables.now c.args.script.now) c.args.script.now c.args.store.now c.args.self.now c.args.next (move.Acts (due.Find c.in-Find.obj c.in-Find.key)) (c.in-Acts.is ∙ ap (λ (d : Due). move.Acts d) c.in-Find.is) c.requires.fits

pub returns-in-Find : goal.returns-in-Find
returns-in-Find c = at_continued (program_of c.args.tables.now c.args.script.now) c.args.script.now c.args.store.now c.args.store.now c.args.next (move.Acts (due.Find c.in-Find.obj c.in-Find.key)) c.args.self.now c.finds.new.self c.finds.result (c.in-Acts.is ∙ ap (λ (d : Due). move.Acts d) c.in-Find.is) (continues (program_of c.args.tables.now c.args.script.now) c.args.script.now c.args.store.now c.args.store.now (move.Acts (due.Find c.in-Find.obj c.in-Find.key)) c.args.self.now c.finds.new.self c.finds.result c.finds.ensures)

pub returns-in_default-due : goal.returns-in_default-due
returns-in_default-due c = at_continued (program_of c.args.tables.now c.args.script.now) c.args.script.now c.args.store.now c.args.store.now c.args.next (move.Acts c.in-Acts.due) c.args.self.now c.args.self.now c.more.result c.in-Acts.is (c.more.ensures (program_of c.args.tables.now c.args.script.now) c.args.script.now c.args.store.now c.args.self.now)

pub returns-in_default : goal.returns-in_default
returns-in_default c = c.more-in_default.ensures (program_of c.args.tables.now c.args.script.now) c.args.script.now c.args.store.now c.args.self.now
