use Rattle.std.proofs.Common.{arith, refl}
use Rattle.widl_script_reader.proofs.Growing.{widens_then, widens_same}
use Rattle.widl_script_reader.proofs.LineForms.{names_nothing, names_more, names_over}
use Rattle.widl_script_reader.proofs.Room.{taken}
use Rattle.widl_script_reader.proofs.nodes.Nodes.more_params.Goals as goal

pub names-preserved : goal.names-preserved
names-preserved c = record { grown = widens_then c.names.invariant.grown c.in_ok-name.ensures.grown; lists = names_more _ _ _ _ _ _ _ _ _ _ c.names.invariant.lists (c.is_ahead.ensures.yes c.names-test.true) c.take.ensures c.in_ok-name.ensures.grown c.in_ok-name.ensures.name c.in_ok-push.ensures.ok; paid = omega (arith, c.names.invariant.paid, c.in_ok-name.ensures.paid, taken c.names.reader _ _ (c.is_ahead.ensures.yes c.names-test.true) refl c.take.ensures) }

pub names-init : goal.names-init
names-init c = record { grown = widens_same _; lists = names_nothing _ _ _; paid = omega arith }

pub returns-clause-lists : goal.returns-clause-lists
returns-clause-lists c = names_over _ _ _ _ _ (c.is_ahead.ensures.no c.names-test.false) c.names.invariant.lists
