use Rattle.std.proofs.Common.{◌≡◌, ◌∙◌, ap, map, option_map, slice_get, Option, Some, subst, sym}
use Rattle.std.specs.Prelude.{bytes_eq}
use Rattle.std.proofs.lemmas.Option.{slice_get-map}
use Rattle.indexmap.specs.IndexMap.{get_by}
use Rattle.widl_idl.specs.DefinitionTerms.{SpaceTerm, space_term}
use Rattle.widl_script_rules.specs.Lookups.{IsSpaceOf}
use Rattle.widl_script_rules.proofs.Lookups.{find_next}
use Rattle.widl_script_rules.proofs.Surrounding.{at_place}
use Rattle.widl_script_rules.proofs.overloads.Namespaces.of.Goals as goal

pub spaces-preserved : goal.spaces-preserved
spaces-preserved c = λ text.
    let all = c.args.list.now.spaces in
    let k = c.spaces.space-index in
    let is : slice_get (map space_term all) k ≡ Some (space_term c.space-item.result) =
    slice_get-map space_term all k ∙ ap (option_map space_term) (ap (λ xs. slice_get xs k) (sym c.as_slice-space-items.ensures) ∙ at_place c.as_slice-space-items.result.now k c.space-item.result c.spaces-test.true c.space-item.is) in
    subst (λ (o : Option SpaceTerm). IsSpaceOf (get_by (λ k. bytes_eq text k.now) c.add_space.new.spaces) o)
    (sym (find_next (λ (n : SpaceTerm). bytes_eq text n.name) (map space_term all) k (space_term c.space-item.result) is))
    (c.in_ok-add_space.ensures text _ (c.spaces.invariant text))
