use Rattle.std.proofs.Common.{arith, sym, ap, subst}
use Rattle.widl_idl.specs.PlainTrees.{plain_definitions}
use Rattle.widl_names.specs.TypeUses.{After, Leads}
use Rattle.widl_names.proofs.TypeUses.{leads_here, leads_on}
use Rattle.widl_names.proofs.resolver.Resolver.follow_on.Goals as goal

pub loop-next-init : goal.loop-next-init
loop-next-init c = (leads_here (plain_definitions c.args.self.now) c.args.first.now.usage, c.requires)

pub loop-next-preserved : goal.loop-next-preserved
loop-next-preserved c =
    let definitions = plain_definitions c.args.self.now in
    let last = c.loop-next.reached.usage in
    let found = subst (After definitions last) c.in-Some.is c.after.ensures in
    (subst (Leads definitions c.args.first.now.usage) (sym c.look_up-reached.ensures.same) (leads_on definitions c.args.first.now.usage last c.in-Some.next c.loop-next.invariant.0 found.0), c.look_up-reached.ensures.known)

pub loop-next-smaller : goal.loop-next-smaller
loop-next-smaller c =
    let found = subst (After (plain_definitions c.args.self.now) c.loop-next.reached.usage) c.in-Some.is c.after.ensures in
    let fewer = found.1 in
    let same = ap (λ u. u.typedefs) c.look_up-reached.ensures.same in
    omega (arith, fewer, same)
