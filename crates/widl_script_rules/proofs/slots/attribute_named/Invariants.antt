use Rattle.std.proofs.Common.{◌≡◌, None, map, take}
use Rattle.std.specs.Prelude.{bytes_eq, find}
use Rattle.widl_idl.specs.DefinitionTerms.{AttrTerm, attr_term}
use Rattle.widl_script_rules.proofs.slots.attribute_named.Given as goal

abbrev pub invariant-attributes : goal.invariant-attributes
invariant-attributes l = find (λ (a : AttrTerm). bytes_eq l.name a.name) (take l.attribute-index (map attr_term l.overload.space.now.attrs)) ≡ None
