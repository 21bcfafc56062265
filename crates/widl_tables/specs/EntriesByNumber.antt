-- For proofs alone. Entries by the numbers of their overloads.
use Rattle.std.specs.Prelude.{ℕ, Bool, if◌then◌else◌, nat_lt, List, [], ◌∷◌, length, drop, map, Option, None, Some}
use Rattle.widl_idl.specs.DefinitionTerms.{ArgTerm, SigTerm, IfaceTerm}
use Rattle.widl_overload.specs.sets.Entries.{entry_for, is_variadic_list, optionalities_of}
use Rattle.widl_overload.specs.sets.Sets.{TupleTerm, are_free}
use Rattle.widl_overload.specs.sets.Standing.{args_in}
use Rattle.widl_tables.specs.Kept.{telling_from}

-- the entries of the overloads with these numbers, of those that are listed, for a length
abbrev pub entries_in : List SigTerm → ℕ → List ℕ → List TupleTerm
entries_in sigs m numbers = map (λ (e : ℕ). entry_for e (args_in sigs e) m) numbers

-- the place by which a value chooses among entries of a length
abbrev pub telling_among : List IfaceTerm → ℕ → List TupleTerm → Option ℕ
telling_among ifaces m [] = None
telling_among ifaces m (t ∷ []) = None
telling_among ifaces m (t ∷ u ∷ more) = Some (telling_from ifaces (t ∷ u ∷ more) 0 m)

-- whether an overload with these arguments has an entry of a length
abbrev pub has_entry : List ArgTerm → ℕ → Bool
has_entry args m = if nat_lt (length args) m then is_variadic_list args else are_free (optionalities_of (drop m args))
