use borrow.Enum.Total.{values_d}
use Rattle.widl_store.specs.declared.inner.Turn.TheVariants.{Idle}
use Rattle.widl_steps.specs.declared.ask.Change.{Change}
use Rattle.widl_steps.specs.declared.ask.Change.TheVariants as changes
use Rattle.widl_steps.specs.contracts.ask.Change.{enum}
use Rattle.widl_engine.specs.declared.due.Due.TheVariants as due
use Rattle.widl_engine.specs.Place.{Performed}
use Rattle.widl_engine.proofs.changes.change_part.Goals as goal

pub returns : goal.returns
returns c p s = by c.args.change (c.move_cursor.ensures p s)
  where
    by : (change : Change) → Performed p s (due.Change c.args.obj (changes.Cursor (values_d enum 0 (0, (Idle, tt)) change).0 (values_d enum 0 (0, (Idle, tt)) change).1.0)) c.args.store.now c.args.place.now c.move_cursor.new.store c.args.place.now c.move_cursor.result → Performed p s (due.Change c.args.obj change) c.args.store.now c.args.place.now c.move_cursor.new.store c.args.place.now c.move_cursor.result
    by (changes.Cursor next turn) is = is
