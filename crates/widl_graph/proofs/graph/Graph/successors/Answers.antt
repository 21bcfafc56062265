use Rattle.std.proofs.Common.{◌≡◌, length, sym, ◌∙◌, ap, arith}
use Rattle.widl_graph.proofs.Parts.{length-lists_of}
use Rattle.widl_graph.proofs.graph.Graph.successors.Goals as goal

pub part-requires-clause-place : goal.part-requires-clause-place
part-requires-clause-place c =
    let size : length c.args.self.now ≡ length c.self.inside.begins.items = ap length (sym c.self.view_is) ∙ length-lists_of c.self.inside.begins.items c.self.inside.successors.items in
    rw c.deref.ensures.value (omega (arith, size))
