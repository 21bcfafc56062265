use Rattle.widl_graph.proofs.Parts.{begin_next, begin_within}
use Rattle.widl_graph.proofs.graph.end_at.Goals as goal

pub returns-then-place-begins-clause-after : goal.returns-then-place-begins-clause-after
returns-then-place-begins-clause-after c = begin_next c.args.begins.now c.args.end c.args.place c.requires.begins c.if-place-begins.true

pub returns-then-place-begins-clause-within : goal.returns-then-place-begins-clause-within
returns-then-place-begins-clause-within c = begin_within c.args.begins.now c.args.end _ c.requires.begins c.if-place-begins.true

pub returns-else-place-begins-clause-after : goal.returns-else-place-begins-clause-after
returns-else-place-begins-clause-after c = begin_within c.args.begins.now c.args.end c.args.place c.requires.begins c.requires.place
