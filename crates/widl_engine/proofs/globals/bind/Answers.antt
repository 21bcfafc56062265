use Rattle.std.proofs.Common.{◌∙◌, ap, sym}
use Rattle.widl_engine.proofs.NamesRead.{bound_local, bound_outside, with_here, not_local, not_here}
use Rattle.widl_engine.proofs.globals.bind.Goals as goal
use Rattle.widl_engine.proofs.globals.bind.Goals.{in-None, in-Some+else-has_local}

pub returns-then-has_local : goal.returns-then-has_local
returns-then-has_local c p t =
    bound_local c.args.script.now c.parts_are_lower.ensures.names_differ p t c.args.place.now c.in-Some.context c.args.name c.args.value c.set.new.self c.in-Some.is (sym c.has_local.ensures ∙ c.if-has_local.true) c.in_ok-set-in-Some.ensures

pub returns : goal.returns
returns c p t =
    elim c.match-place.branch [
      | in-None w ↦ bound_outside c.args.script.now c.parts_are_lower.ensures.names_differ p t c.args.place.now c.match-place.place c.args.name c.args.value c.set-2.new.self w.place-is (not_local c.args.script.now c.args.place.now.here c.args.place.now.outer.items c.args.name w.in-None.is) c.in_ok-set.ensures
      | in-Some+else-has_local w ↦ bound_outside c.args.script.now c.parts_are_lower.ensures.names_differ p t c.args.place.now c.match-place.place c.args.name c.args.value c.set-2.new.self (w.place-is ∙ ap (with_here c.args.place.now) (sym w.in-Some.is)) (not_here c.args.script.now c.args.place.now.here c.args.place.now.outer.items w.in-Some.context c.args.name w.in-Some.is (sym w.has_local.ensures ∙ w.if-has_local.false)) c.in_ok-set.ensures
    ]
