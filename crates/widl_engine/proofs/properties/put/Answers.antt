use Rattle.widl_engine.proofs.Changing.{both_ok, put_performed}
use Rattle.widl_engine.proofs.properties.put.Goals as goal

pub returns : goal.returns
returns c =
    both_ok c.put_done.result c.put_done.ensures.some c.put_done.ensures.next (λ m some goes p s.
    put_performed s c.args.store.now c.put-answer.new.self c.args.place.now p c.args.obj c.args.key c.args.value c.put-answer.result m c.put-answer.ensures.answer c.put-answer.ensures.done c.put-answer.ensures.kept some (goes p s))
