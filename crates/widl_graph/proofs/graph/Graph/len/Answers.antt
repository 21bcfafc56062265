use Rattle.std.proofs.Common.{◌≡◌, length, rules, sym}
use Rattle.widl_graph.proofs.Parts.{length-lists_of}
use Rattle.widl_graph.proofs.graph.Graph.len.Goals as goal

pub returns : goal.returns
returns c =
    let count : c.len.result ≡ length c.self.inside.begins.items = search rules in
    rw (count, ← c.self.view_is) (sym (length-lists_of c.self.inside.begins.items c.self.inside.successors.items))
