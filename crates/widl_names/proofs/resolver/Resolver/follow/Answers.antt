use Rattle.std.proofs.Common.{sym, subst}
use Rattle.widl_idl.specs.PlainTrees.{plain_definitions}
use Rattle.widl_names.specs.TypeUses.{Leads}
use Rattle.widl_names.proofs.TypeUses.{leads_here}
use Rattle.widl_names.proofs.resolver.Resolver.follow.Goals as goal

pub returns-then-leads_on-clause-leads : goal.returns-then-leads_on-clause-leads
returns-then-leads_on-clause-leads c = subst (λ u. Leads (plain_definitions c.args.self.now) u c.follow_on.result.usage) c.look_up-first.ensures.same c.follow_on.ensures.leads

pub returns-else-leads_on-clause-leads : goal.returns-else-leads_on-clause-leads
returns-else-leads_on-clause-leads c = subst (Leads (plain_definitions c.args.self.now) c.args.start.now) (sym c.look_up-first.ensures.same) (leads_here (plain_definitions c.args.self.now) c.args.start.now)
