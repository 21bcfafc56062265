use Rattle.std.proofs.Common.{◌≡◌, if◌then◌else◌, ℕ, nat_eq, nat_lt, None}
use Rattle.indexmap.specs.IndexMap.{get_by}
use Rattle.widl_idl.specs.DefinitionTerms.{defs_term}
use Rattle.widl_script_tree.specs.Tables.{key_at}
use Rattle.widl_script.specs.Owners.{owner_there}
use Rattle.widl_script.proofs.owners.owners_of_names.Given as goal

abbrev pub invariant-names : goal.invariant-names
invariant-names l = (other : ℕ) → get_by (nat_eq other) l.owners ≡ (if nat_lt other l.number then owner_there (defs_term l.list).spaces (key_at l.tables other) else None)
