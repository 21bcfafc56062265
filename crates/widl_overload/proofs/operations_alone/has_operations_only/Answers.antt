use Rattle.std.proofs.Common.{sym, ap, ◌&&◌, ◌∙◌}
use Rattle.std.specs.List.{list_all}
use Rattle.std.proofs.Common.{map}
use Rattle.widl_idl.specs.DefinitionTerms.{space_term}
use Rattle.widl_overload.specs.OperationsAlone.{has_operations_alone}
use Rattle.widl_overload.proofs.OverTerms.{over_terms}
use Rattle.widl_overload.proofs.operations_alone.has_operations_only.Goals as goal

pub returns-then-has_no_interfaces : goal.returns-then-has_no_interfaces
returns-then-has_no_interfaces c =
    over_terms has_operations_alone space_term c.args.list.now.spaces c.as_slice.result.now c.have_operations_alone.result c.have_operations_alone.ensures c.as_slice.ensures
    ∙ ap (λ b. b && list_all has_operations_alone (map space_term c.args.list.now.spaces)) (sym c.if-has_no_interfaces.true ∙ c.has_no_interfaces.ensures)
