-- For proofs alone. Namespaces by their names.
use Rattle.std.specs.Prelude.{ℕ, bytes_eq, List, position, Option, None}
use Rattle.std.specs.Borrow.{Bor}
use Rattle.indexmap.specs.IndexMap.{IndexMap, get_by}
use Rattle.widl_idl.specs.declared.callee.Owner.{Owner}
use Rattle.widl_idl.specs.DefinitionTerms.{SpaceTerm}
use Rattle.widl_script.specs.Scripts.{owner_or}

abbrev pub owner_in : {S : Type 0} → IndexMap (Bor (List ℕ)) Owner S → List ℕ → Option Owner
owner_in table text = get_by (λ k. bytes_eq text k.now) table

-- the first namespace that has the name
abbrev pub owner_there : List SpaceTerm → List ℕ → Option Owner
owner_there spaces text = owner_or None (position (λ (n : SpaceTerm). bytes_eq text n.name) spaces)
