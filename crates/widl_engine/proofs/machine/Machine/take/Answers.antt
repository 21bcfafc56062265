use Rattle.std.proofs.Common.{ℕ, ◌+◌, ap, refl, sym}
use Rattle.widl_engine.specs.declared.machine.Moved.TheVariants as moved
use Rattle.widl_engine.specs.Frames.{program_of}
use Rattle.widl_engine.proofs.Charging.{fits_charged, charge_steps}
use Rattle.widl_engine.proofs.Coming.{fits_known, fits_on}
use Rattle.widl_engine.proofs.Going.{ends_known, leads_known}
use Rattle.widl_engine.proofs.Straight.{then_advances}
use Rattle.widl_engine.proofs.machine.Machine.take.Goals as goal

pub paid-requires-clause-fits : goal.paid-requires-clause-fits
paid-requires-clause-fits c = fits_charged (program_of c.args.tables.now c.args.script.now) c.args.script.now c.args.store.now c.args.self.now _ _ (ap (λ (k : ℕ). c.args.self.now.taken + k) c.requires.units) c.requires.pays refl refl refl c.requires.fits

pub advance-requires-clause-fits : goal.advance-requires-clause-fits
advance-requires-clause-fits c = fits_known (program_of c.args.tables.now c.args.script.now) c.args.script.now c.paid.new.store c.paid.new.self c.in-More.next.value c.into_inner.result (sym c.into_inner.ensures) (fits_on (program_of c.args.tables.now c.args.script.now) c.args.script.now c.in-More.ensures.place (fits_charged (program_of c.args.tables.now c.args.script.now) c.args.script.now c.args.store.now c.args.self.now _ _ (ap (λ (k : ℕ). c.args.self.now.taken + k) c.requires.units) c.requires.pays refl refl refl c.requires.fits))

pub returns-in-More : goal.returns-in-More
returns-in-More c = charge_steps (program_of c.args.tables.now c.args.script.now) c.args.script.now c.args.store.now c.advance.new.store c.args.self.now _ c.advance.new.self _ c.advance.result (ap (λ (k : ℕ). c.args.self.now.taken + k) c.requires.units) c.requires.pays refl refl refl (then_advances (program_of c.args.tables.now c.args.script.now) c.args.script.now c.args.store.now c.paid.new.store c.advance.new.store _ _ _ c.paid.new.self c.advance.new.self c.advance.result (leads_known (program_of c.args.tables.now c.args.script.now) c.args.script.now c.args.store.now c.paid.new.store _ c.in-More.next.value c.into_inner.result _ c.paid.new.self (sym c.into_inner.ensures) c.in-More.ensures.place) c.advance.ensures)

pub returns-in-Rests : goal.returns-in-Rests
returns-in-Rests c = charge_steps (program_of c.args.tables.now c.args.script.now) c.args.script.now c.args.store.now c.paid.new.store c.args.self.now _ c.paid.new.self _ moved.Going (ap (λ (k : ℕ). c.args.self.now.taken + k) c.requires.units) c.requires.pays refl refl refl c.in-Rests.ensures

pub returns-in-Ended : goal.returns-in-Ended
returns-in-Ended c = charge_steps (program_of c.args.tables.now c.args.script.now) c.args.script.now c.args.store.now c.paid.new.store c.args.self.now _ c.paid.new.self _ (moved.Ended c.into_inner-in-Ended.result) (ap (λ (k : ℕ). c.args.self.now.taken + k) c.requires.units) c.requires.pays refl refl refl (ends_known (program_of c.args.tables.now c.args.script.now) c.args.script.now c.args.store.now c.paid.new.store _ _ c.paid.new.self c.in-Ended.end.value c.into_inner-in-Ended.result (sym c.into_inner-in-Ended.ensures) c.in-Ended.ensures)

pub returns-in-Stopped : goal.returns-in-Stopped
returns-in-Stopped c = charge_steps (program_of c.args.tables.now c.args.script.now) c.args.script.now c.args.store.now c.paid.new.store c.args.self.now _ c.paid.new.self _ (moved.Stopped c.in-Stopped.stop) (ap (λ (k : ℕ). c.args.self.now.taken + k) c.requires.units) c.requires.pays refl refl refl c.in-Stopped.ensures
