use Rattle.widl_engine.proofs.Changing.{both_ok, define_performed}
use Rattle.widl_engine.proofs.properties.define.Goals as goal

pub returns : goal.returns
returns c =
    both_ok c.define_done.result c.define_done.ensures.some c.define_done.ensures.next (λ m some goes p s.
    define_performed s c.args.store.now c.define-answer.new.self c.args.place.now p c.args.obj c.args.key c.args.prop c.define-answer.result m c.define-answer.ensures.answer c.define-answer.ensures.done c.define-answer.ensures.kept some (goes p s))
