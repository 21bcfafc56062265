use Rattle.std.proofs.Common.{◌≡◌, ◌∙◌, ap, map, option_map, slice_get, Some, None, sym, if◌then◌else◌}
use Rattle.std.specs.Prelude.{bytes_eq}
use Rattle.std.specs.Option.{option_or}
use Rattle.std.proofs.lemmas.Option.{slice_get-map}
use Rattle.widl_idl.specs.DefinitionTerms.{OpNameTerm, op_name_term}
use Rattle.widl_script_rules.proofs.Lookups.{find_next}
use Rattle.widl_script_rules.proofs.Surrounding.{at_place}
use Rattle.widl_script_rules.proofs.overloads.operations_of.Goals as goal

pub ops-preserved : goal.ops-preserved
ops-preserved c = λ text.
    let all = c.args.space.now.ops in
    let k = c.ops.operation-index in
    let is : slice_get (map op_name_term all) k ≡ Some (op_name_term c.operation-item.result) =
    slice_get-map op_name_term all k ∙ ap (option_map op_name_term) (ap (λ xs. slice_get xs k) (sym c.as_slice-operation-items.ensures) ∙ at_place c.as_slice-operation-items.result.now k c.operation-item.result c.ops-test.true c.operation-item.is) in
    c.in_ok-add_operation.ensures text ∙ ap (λ o. option_or o (if bytes_eq text c.operation-item.result.name then Some (op_name_term c.operation-item.result) else None)) (c.ops.invariant text)
    ∙ sym (find_next (λ (o : OpNameTerm). bytes_eq text o.name) (map op_name_term all) k (op_name_term c.operation-item.result) is)
