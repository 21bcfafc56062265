use Rattle.std.proofs.Common.{ℕ, List}
use Rattle.widl_graph.specs.Reaching.{TellsCyclic}
use Rattle.widl_idl.specs.First.{FirstWhere, Upto}
use Rattle.widl_merge.specs.Links.{ReturnsAfter}
use Rattle.widl_names.specs.Listings.{listed_definitions}
use Rattle.widl_merge.proofs.cycles.first_coming_back.Given as goal

abbrev pub invariant-loop-number : goal.invariant-loop-number
invariant-loop-number l = (links : List (List ℕ)) → TellsCyclic links l.cyclic → FirstWhere (Upto (ReturnsAfter links) (listed_definitions l.definitions) l.number) l.best
