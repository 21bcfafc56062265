-- Worked entries: which overloads a number of arguments keeps, and the place that tells them apart.
use Rattle.std.specs.Prelude.{◌≡◌, ℕ, List, [], ◌∷◌, None, false, map, codes, refl}
use Rattle.widl_idl.specs.declared.argument.Optionality.TheVariants.{Required}
use Rattle.widl_idl.specs.declared.callee.Callee.{Callee}
use Rattle.widl_idl.specs.declared.callee.Owner.TheVariants as owners
use Rattle.widl_idl.specs.declared.callee.Part.{Part}
use Rattle.widl_idl.specs.declared.callee.Part.TheVariants as parts
use Rattle.widl_idl.specs.declared.interface.Stringify.TheVariants as stringifiers
use Rattle.widl_idl.specs.DefinitionTerms.{DefsTerm}
use Rattle.widl_idl.specs.Terms.{UndefinedType}
use Rattle.widl_overload.specs.sets.Index.{apart_at}
use Rattle.widl_overload.specs.sets.Sets.{TupleTerm}
use Rattle.widl_tables.specs.Kept.{kept_tuples, telling_place}
use Rattle.widl_steps.proofs.Worked.{place, argument, overload, f, nothing_defined}
use Rattle.widl_steps.proofs.Talks.ResolutionTalks.{long, text, optional, two, second_tells, both_tell}

abbrev Keeps : DefsTerm → Callee → ℕ → List ℕ → Type 0
Keeps list callee n overloads = map (λ (t : TupleTerm). t.overload) (kept_tuples list callee n) ≡ overloads

abbrev Tells : DefsTerm → ℕ → ℕ → Type 0
Tells list n index = telling_place list (kept_tuples list f n) ≡ index

-- 1. `f(long... a); f(DOMString s, long b);`: past the longest list the variadic overload is left

none_of_two : Keeps two f 0 (0 ∷ [])
none_of_two = refl

one_of_two : Keeps two f 1 (0 ∷ [])
one_of_two = refl

two_of_two : Keeps two f 2 (0 ∷ 1 ∷ [])
two_of_two = refl

three_of_two : Keeps two f 3 (0 ∷ [])
three_of_two = refl

first_place : Tells two 2 0
unfolding apart_at
first_place = refl

-- 2. `f(long a, optional DOMString b)`: past the longest list, where no overload is variadic, what is left is the longest

none_of_optional : Keeps optional f 0 []
none_of_optional = refl

three_of_optional : Keeps optional f 3 (0 ∷ [])
three_of_optional = refl

-- 3. The lowest place at which each two differ

second_place : Tells second_tells 2 1
unfolding apart_at
second_place = refl

lowest_place : Tells both_tell 2 0
unfolding apart_at
lowest_place = refl

-- 4. `interface I { constructor(long a); constructor(DOMString a, long b); undefined g(); undefined h(long a); }`: the overloads of its
-- constructors, and those of an operation by its name; no other part has any

abbrev with_interface : DefsTerm
with_interface = record nothing_defined {
  ifaces = record {
    at = place;
    name = codes "I";
    parent = None;
    ctors = overload UndefinedType (argument long Required None ∷ []) ∷ overload UndefinedType (argument text Required None ∷ argument long Required None ∷ []) ∷ [];
    members = record {
      ops = record { name = codes "g"; fixed = false; sigs = overload UndefinedType [] ∷ [] } ∷ record { name = codes "h"; fixed = false; sigs = overload UndefinedType (argument long Required None ∷ []) ∷ [] } ∷ [];
      attrs = [];
      consts = [];
      order = [];
    };
    text = stringifiers.No;
    pairs = None;
  } ∷ [];
}

abbrev of_interface : Part → Callee
of_interface part = record { owner = owners.Iface 0; part = part }

second_constructor : Keeps with_interface (of_interface parts.Constructor) 2 (1 ∷ [])
second_constructor = refl

no_constructor : Keeps with_interface (of_interface parts.Constructor) 0 []
no_constructor = refl

first_operation : Keeps with_interface (of_interface (parts.Op 0)) 0 (0 ∷ [])
first_operation = refl

second_operation : Keeps with_interface (of_interface (parts.Op 1)) 0 []
second_operation = refl

no_operation : Keeps with_interface (of_interface (parts.Op 2)) 0 []
no_operation = refl

no_getter : Keeps with_interface (of_interface (parts.Get 0)) 0 []
no_getter = refl

-- 5. A namespace has no constructors

no_namespace_constructor : Keeps two (record { owner = owners.Space 0; part = parts.Constructor }) 1 []
no_namespace_constructor = refl
