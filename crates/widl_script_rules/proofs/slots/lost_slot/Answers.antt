use Rattle.std.proofs.Common.{◌≡◌, ◌∷◌, ◌∙◌, [], Bool, ap, false, is_some, subst, sym, if◌then◌else◌}
use Rattle.std.specs.Borrow.{Bor}
use Rattle.widl_idl.specs.declared.attribute.Attr.{Attr}
use Rattle.widl_idl.specs.DefinitionTerms.{attr_term}
use Rattle.widl_script_rules.specs.Lookups.{overload_term}
use Rattle.widl_script_rules.specs.Slots.{attribute_named}
use Rattle.widl_script_rules.specs.Surroundings.{plain_line}
use Rattle.widl_script_rules.specs.UsedPlaces.{FirstAt}
use Rattle.widl_script_rules.proofs.Lookups.{is_mapped}
use Rattle.widl_script_rules.proofs.slots.lost_slot.Goals as goal

pub returns-else-is_some : goal.returns-else-is_some
returns-else-is_some c = λ number e.
    let lost : is_some (attribute_named (overload_term c.args.overload) c.args.name.now) ≡ false =
    ap is_some (sym c.attribute_named.ensures) ∙ is_mapped (λ (a : Bor Attr). attr_term a.now) c.attribute_named.result ∙ sym c.is_some.ensures ∙ c.if-is_some.false in
    subst (λ (b : Bool). FirstAt 12 (plain_line c.args.line.now) (if b then [] else number ∷ []) c.place_near.result) (sym lost) (c.place_near.ensures number e)
