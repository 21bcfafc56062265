use Rattle.std.proofs.Common.{take}
use Rattle.widl_spell.specs.Ready.{Adds, is_ready}
use Rattle.widl_spell.proofs.ready.Ready.add_each.Given as goal

abbrev pub invariant-loop-number : goal.invariant-loop-number
invariant-loop-number l = Adds (take l.number-index l.numbers) (is_ready l.initial.self) (is_ready l.self)
