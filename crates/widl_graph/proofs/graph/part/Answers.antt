use Rattle.std.proofs.Common.{sym, add-one}
use Rattle.widl_graph.proofs.Parts.{lists_of-at}
use Rattle.widl_graph.proofs.graph.part.Goals as goal

pub returns : goal.returns
returns c = rw (c.end_at-end.ensures.value, add-one c.args.place) (sym (lists_of-at c.args.begins.now c.args.items.now c.args.place c.requires.begins c.requires.place))
