use Rattle.std.proofs.Common.{◌∙◌, ap, map, nat_lt, sym}
use Rattle.widl_idl.specs.DefinitionTerms.{dict_term}
use Rattle.widl_inheritance.proofs.HoldingCircles.{none_cyclic}
use Rattle.widl_inheritance.proofs.LongestChains.{long_chains, none_finite, none_holds}
use Rattle.widl_inheritance.proofs.long_chains.first_long_chain.Goals as goal

pub returns-then-is_some : goal.returns-then-is_some
returns-then-is_some c = none_finite (map dict_term c.args.dicts.now) c.first_holding_itself.result c.first_holding_itself.ensures (sym c.is_some.ensures ∙ c.if-is_some.true)

pub chain_lengths-requires-clause-finite : goal.chain_lengths-requires-clause-finite
chain_lengths-requires-clause-finite c =
    none_cyclic (map dict_term c.args.dicts.now) c.args.holdings.now c.requires.holdings c.requires.hierarchy
    (none_holds (map dict_term c.args.dicts.now) c.first_holding_itself.result c.first_holding_itself.ensures (sym c.is_some.ensures ∙ c.if-is_some.false))

pub returns : goal.returns
returns c =
    long_chains (map dict_term c.args.dicts.now) c.in_ok-lengths.lengths.items c.as_slice-2.result.now c.first_flagged.result c.in_ok-lengths.ensures
    (none_holds (map dict_term c.args.dicts.now) c.first_holding_itself.result c.first_holding_itself.ensures (sym c.is_some.ensures ∙ c.if-is_some.false))
    (c.as_slice-2.ensures.value ∙ c.in_ok-long.ensures ∙ ap (map (λ n. nat_lt 256 n)) c.as_slice.ensures.value)
    c.first_flagged.ensures
