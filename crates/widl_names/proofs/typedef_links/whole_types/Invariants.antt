use Rattle.std.proofs.Common.{length}
use Rattle.widl_names.specs.TypedefLinks.{HasNodes}
use Rattle.widl_names.proofs.typedef_links.whole_types.Given as goal

abbrev pub invariant-loop-definition : goal.invariant-loop-definition
invariant-loop-definition l = HasNodes l.graph (length l.meanings) l.definition-index
