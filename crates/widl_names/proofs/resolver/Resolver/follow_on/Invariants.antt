use Rattle.widl_idl.specs.PlainTrees.{plain_definitions}
use Rattle.widl_names.specs.TypeUses.{IsKnown, Leads}
use Rattle.widl_names.proofs.resolver.Resolver.follow_on.Given as goal

abbrev pub invariant-loop-next : goal.invariant-loop-next
invariant-loop-next l = Leads (plain_definitions l.self) l.first.usage l.reached.usage × IsKnown (plain_definitions l.self) l.reached

abbrev pub decreases-loop-next : goal.decreases-loop-next
decreases-loop-next l = l.reached.usage.typedefs
