use Rattle.std.proofs.Common.{◌≡◌, ◌∙◌, ◌||◌, ap, map, option_map, slice_get, Some, sym}
use Rattle.std.specs.Prelude.{bytes_eq}
use Rattle.std.specs.List.{list_any}
use Rattle.std.proofs.lemmas.Option.{slice_get-map}
use Rattle.widl_idl.specs.DefinitionTerms.{IfaceTerm, SpaceTerm, defs_term, iface_term, space_term}
use Rattle.widl_script_rules.specs.Surroundings.{has_key}
use Rattle.widl_script_rules.proofs.OwnerTexts.{any_next, or_moved}
use Rattle.widl_script_rules.proofs.Surrounding.{at_place}
use Rattle.widl_script_rules.proofs.owner_names.owner_names.Goals as goal

pub ifaces-preserved : goal.ifaces-preserved
ifaces-preserved c = λ text.
    let all = c.args.list.now.ifaces in
    let k = c.ifaces.iface-index in
    let is : slice_get (map iface_term all) k ≡ Some (iface_term c.iface-item.result) =
    slice_get-map iface_term all k ∙ ap (option_map iface_term) (ap (λ xs. slice_get xs k) (sym c.as_slice-iface-items.ensures) ∙ at_place c.as_slice-iface-items.result.now k c.iface-item.result c.ifaces-test.true c.iface-item.is) in
    c.in_ok-add_name.ensures text ∙ ap (λ name. has_key c.ifaces.names.keys text || bytes_eq text name) c.as_slice.ensures
    ∙ ap (λ b. b || bytes_eq text c.iface-item.result.name) (c.ifaces.invariant text)
    ∙ sym (any_next (λ (i : IfaceTerm). bytes_eq text i.name) (map iface_term all) k (iface_term c.iface-item.result) is)

pub spaces-preserved : goal.spaces-preserved
spaces-preserved c = λ text.
    let all = c.args.list.now.spaces in
    let k = c.spaces.space-index in
    let ifaces = list_any (λ (i : IfaceTerm). bytes_eq text i.name) (defs_term c.args.list.now).ifaces in
    let is : slice_get (map space_term all) k ≡ Some (space_term c.space-item.result) =
    slice_get-map space_term all k ∙ ap (option_map space_term) (ap (λ xs. slice_get xs k) (sym c.as_slice-space-items.ensures) ∙ at_place c.as_slice-space-items.result.now k c.space-item.result c.spaces-test.true c.space-item.is) in
    c.in_ok-add_name-2.ensures text ∙ ap (λ name. has_key c.spaces.names.keys text || bytes_eq text name) c.as_slice-in-spaces.ensures
    ∙ ap (λ b. b || bytes_eq text c.space-item.result.name) (c.spaces.invariant text)
    ∙ or_moved ifaces _ (bytes_eq text c.space-item.result.name)
    ∙ ap (λ b. ifaces || b) (sym (any_next (λ (n : SpaceTerm). bytes_eq text n.name) (map space_term all) k (space_term c.space-item.result) is))
