use Rattle.std.proofs.Common.{◌≡◌, ◌++◌, take}
use Rattle.widl_spell.specs.Names.{bare_name}
use Rattle.widl_spell.proofs.names.push_bare_name.Given as goal

abbrev pub invariant-loop-unit : goal.invariant-loop-unit
invariant-loop-unit l = l.text.items ≡ l.initial.text.items ++ bare_name (take l.unit-index l.unit-items)
