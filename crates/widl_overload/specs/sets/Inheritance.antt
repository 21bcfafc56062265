-- Which interfaces inherit from which (Web IDL, "inherited interfaces").
use Rattle.std.specs.Prelude.{ℕ, Bool, true, false, List, nat_eq, zero, suc, length, slice_get, option_and_then, Option, None, Some, if◌then◌else◌}
use Rattle.widl_idl.specs.DefinitionTerms.{IfaceTerm}

-- the interface from which one inherits directly
abbrev pub parent_of : List IfaceTerm → ℕ → Option ℕ
parent_of ifaces n = option_and_then (λ i. i.parent) (slice_get ifaces n)

-- whether an interface is the first of these or one of those from which it inherits, so many of them
abbrev pub is_among : List IfaceTerm → ℕ → ℕ → Option ℕ → Bool
is_among ifaces zero n m = false
is_among ifaces (suc links) n None = false
is_among ifaces (suc links) n (Some m) = if nat_eq m n then true else is_among ifaces links n (parent_of ifaces m)

-- m inherits from n: no way along the parents is longer than there are interfaces
abbrev pub inherits : List IfaceTerm → ℕ → ℕ → Bool
inherits ifaces m n = is_among ifaces (length ifaces) n (parent_of ifaces m)
