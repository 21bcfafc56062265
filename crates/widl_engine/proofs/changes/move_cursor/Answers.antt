use Rattle.std.specs.Prelude.{slice_get}
use Rattle.widl_store.specs.Inners.{AnArrayIterator, ArrayIteratorPart, inner_term}
use Rattle.widl_steps.specs.declared.ask.Change.{Change}
use Rattle.widl_steps.specs.declared.ask.Change.TheVariants as changes
use Rattle.widl_engine.proofs.PartChanges.{kind_by, changed_to, not_changed}
use Rattle.widl_engine.proofs.changes.move_cursor.Goals as goal

pub set_inner-requires-clause-kind : goal.set_inner-requires-clause-kind
set_inner-requires-clause-kind c = kind_by (slice_get c.args.store.now.objects c.args.obj.id) (inner_term c.inner.result.now) AnArrayIterator c.inner.ensures c.in-Some.ensures.kind

pub returns-in-None : goal.returns-in-None
returns-in-None c p s =
    not_changed p s c.args.store.now c.args.place.now c.args.obj (changes.Cursor c.args.next c.args.turn) c.ends.result (inner_term c.inner.result.now) c.inner.ensures (c.in-None.ensures.still c.args.next c.args.turn) (c.ends.ensures p s)

pub returns-in-Some : goal.returns-in-Some
returns-in-Some c p s =
    changed_to p s c.args.store.now c.set_inner.new.self c.args.place.now c.args.obj (changes.Cursor c.args.next c.args.turn) c.moved.result (inner_term c.inner.result.now) (ArrayIteratorPart c.in-Some.of c.args.next c.args.turn) c.inner.ensures (c.in-Some.ensures.moved c.args.next c.args.turn) c.set_inner.ensures.done
    (c.moved.ensures p s)
