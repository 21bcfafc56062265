-- The types over which scripts can be run: the members of a union, one by one.
use Rattle.std.proofs.Common.{◌≡◌, ◌&&◌, Bool, List, [], ◌∷◌, refl, ap}
use Rattle.std.specs.List.{list_all}
use Rattle.widl_idl.specs.Terms.{TypeTerm, packed}
use Rattle.widl_convert.specs.Served.{are_served_types, is_served_type}

pub served_all : (ts : List TypeTerm) → are_served_types (packed ts) ≡ list_all is_served_type ts
served_all [] = refl
served_all (t ∷ ts) = ap (λ (b : Bool). is_served_type t && b) (served_all ts)
