use Rattle.std.proofs.Common.{◌≡◌, ◌+◌, ◌∷◌, [], List, ℕ, map, None, take}
use Rattle.widl_idl.specs.DefinitionTerms.{space_term}
use Rattle.widl_script.specs.Owners.{owner_in, owner_there}
use Rattle.widl_script.proofs.owners.spaces_by_name.Given as goal

abbrev pub invariant-spaces : goal.invariant-spaces
invariant-spaces l =
    ((text : List ℕ) → owner_in l.owners text ≡ owner_there (take l.number (map space_term l.spaces)) text) ×
    ((unit : ℕ) → owner_there (take l.number (map space_term l.spaces)) ((65536 + unit) ∷ []) ≡ None)
