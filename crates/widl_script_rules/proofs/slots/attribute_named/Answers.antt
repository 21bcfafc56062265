use Rattle.std.proofs.Common.{◌≡◌, ◌∙◌, Bool, ap, false, true, map, option_map, slice_get, Option, Some, None, sym, if◌then◌else◌}
use Rattle.std.specs.Prelude.{bytes_eq}
use Rattle.std.specs.Option.{option_or}
use Rattle.std.proofs.lemmas.Option.{slice_get-map}
use Rattle.widl_idl.specs.DefinitionTerms.{AttrTerm, attr_term}
use Rattle.widl_script_rules.proofs.Lookups.{find_next, found_first}
use Rattle.widl_script_rules.proofs.Surrounding.{at_place}
use Rattle.widl_script_rules.proofs.slots.attribute_named.Goals as goal

pub returns-then-eq : goal.returns-then-eq
returns-then-eq c =
    let all = c.args.overload.space.now.attrs in
    let k = c.attributes.attribute-index in
    let name = c.args.name.now in
    let x = c.attribute-item.result in
    let is : slice_get (map attr_term all) k ≡ Some (attr_term x) =
    slice_get-map attr_term all k ∙ ap (option_map attr_term) (ap (λ xs. slice_get xs k) (sym c.as_slice-attribute-items.ensures) ∙ at_place c.as_slice-attribute-items.result.now k x c.attributes-test.true c.attribute-item.is) in
    let passes : bytes_eq name x.name ≡ true = ap (bytes_eq name) (sym c.as_slice.ensures) ∙ sym c.eq.ensures ∙ c.if-eq.true in
    sym (found_first (λ (a : AttrTerm). bytes_eq name a.name) (map attr_term all) k (attr_term x) is passes c.attributes.invariant)

pub attributes-preserved : goal.attributes-preserved
attributes-preserved c =
    let all = c.args.overload.space.now.attrs in
    let k = c.attributes.attribute-index in
    let name = c.args.name.now in
    let x = c.attribute-item.result in
    let is : slice_get (map attr_term all) k ≡ Some (attr_term x) =
    slice_get-map attr_term all k ∙ ap (option_map attr_term) (ap (λ xs. slice_get xs k) (sym c.as_slice-attribute-items.ensures) ∙ at_place c.as_slice-attribute-items.result.now k x c.attributes-test.true c.attribute-item.is) in
    let fails : bytes_eq name x.name ≡ false = ap (bytes_eq name) (sym c.as_slice.ensures) ∙ sym c.eq.ensures ∙ c.if-eq.false in
    find_next (λ (a : AttrTerm). bytes_eq name a.name) (map attr_term all) k (attr_term x) is
    ∙ ap (λ (o : Option AttrTerm). option_or o (if bytes_eq name x.name then Some (attr_term x) else None)) c.attributes.invariant
    ∙ ap (λ (b : Bool). if b then Some (attr_term x) else None) fails
