use Rattle.std.proofs.Common.{ap, option_map, sym, ◌∙◌}
use Rattle.std.proofs.lemmas.Result.{on_ok_weaker}
use Rattle.widl_idl.specs.DefinitionTerms.{pair_term}
use Rattle.widl_idl.specs.PlainTrees.{iterable_of, plain_definitions}
use Rattle.widl_merge.proofs.Gathering.{first_iterable, none_of, second_iterable, single_iterable}
use Rattle.widl_merge.proofs.merged_members.MergedMembers.add_iterable.Goals as goal

pub returns-then-is_some : goal.returns-then-is_some
returns-then-is_some c = λ attributes members number g. second_iterable (plain_definitions c.args.resolver.now) members attributes c.args.self.now number g (iterable_of c.args.iterable.now) (sym c.is_some.ensures ∙ c.if-is_some.true)

pub returns-in-None : goal.returns-in-None
returns-in-None c = λ attributes members number g. single_iterable (plain_definitions c.args.resolver.now) members attributes c.args.self.now number g (iterable_of c.args.iterable.now) (sym (ap (option_map pair_term) c.in-None.is) ∙ c.in_ok-pair_meant.ensures)

pub returns-in-Some : goal.returns-in-Some
returns-in-Some c =
    on_ok_weaker c.push.result
    (λ e attributes members number g.
    first_iterable (plain_definitions c.args.resolver.now) members attributes c.args.self.now number g (iterable_of c.args.iterable.now) c.in-Some.pair c.push.new.self
    (none_of c.args.self.now.pairs (sym c.is_some.ensures ∙ c.if-is_some.false)) (sym (ap (option_map pair_term) c.in-Some.is) ∙ c.in_ok-pair_meant.ensures) e)
    c.push.ensures.ok
