use Rattle.std.proofs.Common.{sym, ap, ◌&&◌, ◌∙◌}
use Rattle.widl_idl.specs.DefinitionTerms.{arg_term}
use Rattle.widl_idl.specs.Terms.{type_term}
use Rattle.widl_convert.specs.Served.{is_served_result, is_served_argument}
use Rattle.widl_overload.proofs.OverTerms.{over_terms}
use Rattle.widl_convert.proofs.served.is_served_signature.Goals as goal

pub returns-then-are_served_arguments : goal.returns-then-are_served_arguments
returns-then-are_served_arguments c =
    c.is_served_result.ensures
    ∙ ap (λ b. b && is_served_result (type_term c.args.sig.now.result)) (sym c.if-are_served_arguments.true ∙ over_terms is_served_argument arg_term c.args.sig.now.args c.as_slice.result.now c.are_served_arguments.result c.are_served_arguments.ensures c.as_slice.ensures)

pub returns-else-are_served_arguments : goal.returns-else-are_served_arguments
returns-else-are_served_arguments c =
    c.if-are_served_arguments.false
    ∙ ap (λ b. b && is_served_result (type_term c.args.sig.now.result)) (sym c.if-are_served_arguments.false ∙ over_terms is_served_argument arg_term c.args.sig.now.args c.as_slice.result.now c.are_served_arguments.result c.are_served_arguments.ensures c.as_slice.ensures)
