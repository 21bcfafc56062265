use Rattle.std.proofs.Common.{map, sym, ap, ◌&&◌, ◌∙◌}
use Rattle.std.specs.List.{list_all}
use Rattle.widl_idl.specs.DefinitionTerms.{dict_term, space_term}
use Rattle.widl_convert.specs.Served.{is_served_dictionary, is_served_namespace}
use Rattle.widl_overload.proofs.OverTerms.{over_terms}
use Rattle.widl_convert.proofs.served.has_served_definitions.Goals as goal

pub returns-then-are_served_dictionaries : goal.returns-then-are_served_dictionaries
returns-then-are_served_dictionaries c =
    over_terms is_served_namespace space_term c.args.defs.now.spaces c.as_slice-then-are_served_dictionaries.result.now c.are_served_namespaces.result c.are_served_namespaces.ensures c.as_slice-then-are_served_dictionaries.ensures
    ∙ ap (λ b. b && list_all is_served_namespace (map space_term c.args.defs.now.spaces))
    (sym c.if-are_served_dictionaries.true ∙ over_terms is_served_dictionary dict_term c.args.defs.now.dicts c.as_slice.result.now c.are_served_dictionaries.result c.are_served_dictionaries.ensures c.as_slice.ensures)

pub returns-else-are_served_dictionaries : goal.returns-else-are_served_dictionaries
returns-else-are_served_dictionaries c =
    c.if-are_served_dictionaries.false
    ∙ ap (λ b. b && list_all is_served_namespace (map space_term c.args.defs.now.spaces))
    (sym c.if-are_served_dictionaries.false ∙ over_terms is_served_dictionary dict_term c.args.defs.now.dicts c.as_slice.result.now c.are_served_dictionaries.result c.are_served_dictionaries.ensures c.as_slice.ensures)
