use Rattle.std.proofs.Common.{◌∙◌, sym, Some, None}
use Rattle.widl_engine.proofs.NamesRead.{global_read, if_ok}
use Rattle.widl_engine.proofs.globals.global.Goals as goal

pub returns-in-Some : goal.returns-in-Some
returns-in-Some c = if_ok c.copy.result c.copy.ensures (λ v is p over. is ∙ global_read c.args.script.now c.parts_are_lower.ensures.names_differ p c.args.store.now c.args.place.now c.args.name (Some c.in-Some.value.now) (sym c.in-Some.ensures))

pub returns-in-None : goal.returns-in-None
returns-in-None c p over = c.owner.ensures p over ∙ global_read c.args.script.now c.parts_are_lower.ensures.names_differ p c.args.store.now c.args.place.now c.args.name None (sym c.in-None.ensures)
