use Rattle.std.proofs.Common.{◌≡◌, replicate}
use Rattle.widl_graph.specs.declared.search.Mark.TheVariants.{New}
use Rattle.widl_graph.proofs.search.new_marks.Given as goal

abbrev pub invariant-loop-i : goal.invariant-loop-i
invariant-loop-i l = l.marks.items ≡ replicate l._i New
