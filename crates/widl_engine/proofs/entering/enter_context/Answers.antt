use Rattle.std.proofs.Common.{refl, sym}
use Rattle.widl_engine.proofs.ContextLaws.{entered, on_ok}
use Rattle.widl_engine.proofs.entering.enter_context.Goals as goal

pub returns-in-Some : goal.returns-in-Some
returns-in-Some c = on_ok c.push.result c.push.ensures (λ items s. entered s c.args.place.now _ c.args.inner c.in-Some.context refl refl c.replace.ensures.after (sym c.in-Some.ensures.value) items)
