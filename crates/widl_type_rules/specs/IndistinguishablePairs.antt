-- For proofs alone. Pairs of flattened members that aren't distinguishable, by their kinds and by their interfaces.
use Rattle.std.specs.Prelude.{ℕ, Bool, true, false, ◌||◌, ◌&&◌, not, List, [], ◌∷◌, ⊤, nat_eq, Option, None, Some}
use Rattle.std.specs.List.{list_any}
use Rattle.widl_idl.specs.DefinitionTerms.{IfaceTerm}
use Rattle.widl_idl.specs.Terms.{TypeTerm, NullableType, UnionType}
use Rattle.widl_overload.specs.declared.category.Category.{Category}
use Rattle.widl_overload.specs.declared.category.Category.TheVariants.{Interface}
use Rattle.widl_overload.specs.sets.Distinct.{is_never, is_same, overlaps}
use Rattle.widl_overload.specs.sets.Inheritance.{inherits}

-- a type is neither nullable nor a union, as each flattened member of a union
abbrev pub IsFlat : TypeTerm → Type 0
IsFlat (NullableType t) = ⊥
IsFlat (UnionType ts) = ⊥
IsFlat t = ⊤

-- whether one of a list and a later one pass a test
abbrev pub any_pair : {X : Type 0} → (X → X → Bool) → List X → Bool
any_pair test [] = false
any_pair test (x ∷ xs) = list_any (test x) xs || any_pair test xs

abbrev pub is_interface : Category → Bool
is_interface (Interface n) = true
is_interface c = false

-- whether types of two kinds aren't distinguishable, whatever they are, where two interfaces don't count
abbrev pub clash : Category → Category → Bool
clash c d = (is_never c || is_never d) || (not (is_interface c && is_interface d) && (is_same c d || (overlaps c d || overlaps d c)))

-- whether two interfaces are one, or one inherits from the other
abbrev pub are_related : List IfaceTerm → ℕ → ℕ → Bool
are_related ifaces m n = nat_eq m n || (inherits ifaces m n || inherits ifaces n m)

-- the number of an interface
abbrev pub interface_number : Category → Option ℕ
interface_number (Interface n) = Some n
interface_number c = None

abbrev pub listed : {X : Type 0} → Option X → List X
listed None = []
listed (Some x) = x ∷ []
