use Rattle.widl_engine.proofs.Changing.{delete_performed}
use Rattle.widl_engine.proofs.properties.delete.Goals as goal

pub returns : goal.returns
returns c p s = delete_performed s c.args.store.now c.delete-answer.new.self c.args.place.now p c.args.obj c.args.key c.delete-answer.result c.delete_done.result c.delete-answer.ensures.answer c.delete-answer.ensures.done c.delete-answer.ensures.kept (c.delete_done.ensures p s)
