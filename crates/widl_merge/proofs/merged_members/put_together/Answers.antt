use Rattle.std.proofs.Common.{[], arith, subst, sym, take}
use Rattle.std.proofs.lemmas.List.{length-map, length-take-le, take_all}
use Rattle.widl_idl.specs.PlainTrees.{member_of, plain_definitions}
use Rattle.widl_merge.specs.PutTogether.{Gathered, number_named}
use Rattle.widl_merge.proofs.Gathering.{gathered_all, gathered_none, gathered_room, gathered_step}
use Rattle.widl_merge.proofs.merged_members.put_together.Goals as goal
use Rattle.widl_names.specs.Listings.{listed_members}

pub loop-member-init : goal.loop-member-init
loop-member-init c =
    let number = number_named c.new-numbers.result.regular c.new-numbers.result.fixed in
    subst (λ m. Gathered (plain_definitions c.args.resolver.now) [] m number) (sym c.in_ok-merged.ensures) (gathered_none (plain_definitions c.args.resolver.now) number c.new-numbers.ensures)

pub add-requires : goal.add-requires
add-requires c =
    let short = length-take-le c.loop-member.member-index c.args.members.now (omega arith) in
    let listed = length-map (take c.loop-member.member-index c.args.members.now) (λ m. member_of m.now) in
    let few = c.requires in
    gathered_room (plain_definitions c.args.resolver.now) (listed_members (take c.loop-member.member-index c.args.members.now)) c.loop-member.merged (number_named c.loop-member.numbers.regular c.loop-member.numbers.fixed) c.loop-member.invariant (omega (arith, short, listed, few))

pub loop-member-preserved : goal.loop-member-preserved
loop-member-preserved c =
    gathered_step (plain_definitions c.args.resolver.now) c.args.members.now c.loop-member.member-index c.member-item.result c.add.new.self (number_named c.add.new.numbers.regular c.add.new.numbers.fixed) (omega arith) c.member-item.is
    (c.in_ok-add.ensures (listed_members (take c.loop-member.member-index c.args.members.now)) c.loop-member.invariant)

pub returns : goal.returns
returns c =
    let number = number_named c.loop-member.numbers.regular c.loop-member.numbers.fixed in
    gathered_all (plain_definitions c.args.resolver.now) (listed_members c.args.members.now) c.loop-member.merged number
    (subst (λ l. Gathered (plain_definitions c.args.resolver.now) (listed_members l) c.loop-member.merged number) (take_all c.loop-member.member-index c.args.members.now (omega arith)) c.loop-member.invariant)
