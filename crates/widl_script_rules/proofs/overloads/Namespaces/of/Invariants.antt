use Rattle.std.proofs.Common.{List, ℕ, map, take}
use Rattle.std.specs.Prelude.{bytes_eq}
use Rattle.indexmap.specs.IndexMap.{get_by}
use Rattle.widl_idl.specs.DefinitionTerms.{space_term}
use Rattle.widl_script_rules.specs.Lookups.{IsSpaceOf, space_there}
use Rattle.widl_script_rules.proofs.overloads.Namespaces.of.Given as goal

abbrev pub invariant-spaces : goal.invariant-spaces
invariant-spaces l = (text : List ℕ) → IsSpaceOf (get_by (λ k. bytes_eq text k.now) l.by_name) (space_there (take l.space-index (map space_term l.list.spaces)) text)
