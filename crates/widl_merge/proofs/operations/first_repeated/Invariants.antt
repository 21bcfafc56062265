use Rattle.std.proofs.Common.{take}
use Rattle.widl_names.specs.PartTables.{listed_parts}
use Rattle.widl_names.specs.KnownTexts.{has_name}
use Rattle.widl_merge.proofs.Known.{Repeated}
use Rattle.widl_merge.proofs.operations.first_repeated.Given as goal

abbrev pub invariant-loop-part : goal.invariant-loop-part
invariant-loop-part l = Repeated (has_name l.known) (listed_parts (take l.part-index l.parts)) l.best
