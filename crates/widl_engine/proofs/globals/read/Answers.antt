use Rattle.std.proofs.Common.{◌∙◌, sym, Some, None}
use Rattle.widl_engine.proofs.NamesRead.{local_read, if_ok}
use Rattle.widl_engine.proofs.globals.read.Goals as goal

pub returns-in-None-get : goal.returns-in-None-get
returns-in-None-get c p over k ls =
    local_read c.args.script.now c.parts_are_lower.ensures.names_differ p c.args.store.now c.args.place.now c.in-Some.context c.args.name None k ls c.in-Some.is (sym c.has_local.ensures ∙ c.if-has_local.true) (sym c.in-None-get.ensures)

pub returns-in-Some-get : goal.returns-in-Some-get
returns-in-Some-get c =
    if_ok c.copy.result c.copy.ensures (λ v is p over k ls. is ∙ local_read c.args.script.now c.parts_are_lower.ensures.names_differ p c.args.store.now c.args.place.now c.in-Some.context c.args.name (Some c.in-Some-get.value.now) k ls c.in-Some.is (sym c.has_local.ensures ∙ c.if-has_local.true) (sym c.in-Some-get.ensures))
