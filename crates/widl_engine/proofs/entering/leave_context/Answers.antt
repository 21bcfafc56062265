use Rattle.std.proofs.Common.{refl}
use Rattle.widl_engine.proofs.ContextLaws.{left}
use Rattle.widl_engine.proofs.entering.leave_context.Goals as goal

pub returns-in-Some : goal.returns-in-Some
returns-in-Some c s = left s c.args.place.now _ c.in-Some.field-0 c.pop-next.result refl refl c.in-Some.is c.replace.ensures.after c.pop-next.ensures.some c.pop-next.ensures.none
