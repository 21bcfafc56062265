-- What a type means after the annotations of the node that it is the type of, and its own.
use Rattle.std.proofs.Common.{◌≡◌, ◌++◌, List, sym, ap, ◌∙◌}
use Rattle.std.proofs.lemmas.List.Elements.{filter_map-append}
use Rattle.widl_idl.specs.PlainTrees.{PlainDefinition}
use Rattle.widl_idl.specs.PlainTypes.{PlainAttribute}
use Rattle.widl_idl.specs.Terms.{TypeTerm}
use Rattle.widl_idl.specs.WrittenTypes.{meaning_of_type, note_of, notes_of}
use Rattle.widl_names.specs.Extents.{outline}
use Rattle.widl_overload.specs.rules.TypeUses.{TypeUse}
use Rattle.widl_overload.specs.rules.OnTypes.{UseTerm, with_meaning}
use Rattle.widl_type_rules.specs.UsesListed.{outlined}

-- a type means what it means after the annotations of the node that it is the type of, and then its own
pub use_resolved : (definitions : List PlainDefinition) (u : TypeUse) (outer own : List PlainAttribute) (meaning : TypeTerm) → u.attributes ≡ outer ++ own → meaning ≡ outline (meaning_of_type definitions (notes_of outer ++ notes_of own) u.ty) → record { written = u; meaning = meaning } ≡ outlined (with_meaning definitions u)
use_resolved definitions u outer own meaning attributes is = ap with_term (is ∙ ap (λ notes. outline (meaning_of_type definitions notes u.ty)) (sym (ap notes_of attributes ∙ filter_map-append note_of outer own)))
  where
    with_term : TypeTerm → UseTerm
    with_term t = record { written = u; meaning = t }
