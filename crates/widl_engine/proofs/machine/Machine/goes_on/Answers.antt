use Rattle.widl_engine.specs.declared.moves.Move.TheVariants as move
use Rattle.widl_engine.specs.Frames.{program_of}
use Rattle.widl_engine.proofs.Coming.{fits_known}
use Rattle.widl_engine.proofs.Leading.{at_continued, at_move, continues}
use Rattle.widl_engine.proofs.machine.Machine.goes_on.Goals as goal

pub begins_at_once-requires-clause-fits : goal.begins_at_once-requires-clause-fits
begins_at_once-requires-clause-fits c = fits_known (program_of c.args.tables.now c.args.script.now) c.args.script.now c.args.store.now c.args.self.now _ (move.Goes c.in-Goes.job) c.in-Goes.is c.requires.fits

pub returns-in-Goes : goal.returns-in-Goes
returns-in-Goes c = at_continued (program_of c.args.tables.now c.args.script.now) c.args.script.now c.args.store.now c.args.store.now c.args.next (move.Goes c.in-Goes.job) c.args.self.now c.begins_at_once.new.self c.begins_at_once.result c.in-Goes.is c.begins_at_once.ensures

pub returns-in-Pays : goal.returns-in-Pays
returns-in-Pays c =
    continues (program_of c.args.tables.now c.args.script.now) c.args.script.now c.args.store.now c.args.store.now c.args.next c.args.self.now c.rests.new.self c.rests.result
    (at_move (program_of c.args.tables.now c.args.script.now) c.args.script.now c.args.store.now c.args.store.now _ _ c.args.self.now c.rests.new.self c.rests.result c.in-Pays.is (c.rests.ensures (program_of c.args.tables.now c.args.script.now) c.args.script.now c.args.store.now))

pub returns-in_default : goal.returns-in_default
returns-in_default c = c.more.ensures (program_of c.args.tables.now c.args.script.now) c.args.script.now c.args.store.now c.args.self.now
