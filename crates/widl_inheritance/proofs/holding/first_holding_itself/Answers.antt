use Rattle.std.proofs.Common.{◌≡◌, Some, map, slice_get, subst, true}
use Rattle.widl_idl.specs.DefinitionTerms.{dict_term}
use Rattle.widl_idl.specs.First.{FirstWhere}
use Rattle.widl_inheritance.specs.HoldingGraph.{IsAtName}
use Rattle.widl_inheritance.proofs.NamedDictionaries.{holding_themselves}
use Rattle.widl_inheritance.proofs.holding.first_holding_itself.Goals as goal

pub returns : goal.returns
returns c =
    let dicts = map dict_term c.args.dicts.now in
    holding_themselves dicts c.args.holdings.now c.first_flagged.result c.requires
    (subst (λ flags. FirstWhere (IsAtName (λ n. slice_get flags n ≡ Some true) dicts) c.first_flagged.result) c.as_slice.ensures.value c.first_flagged.ensures)
