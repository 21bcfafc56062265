-- The eighteen objects that are there whatever the definitions are, by their numbers.
-- Source: ECMA-262, "ECMAScript Standard Built-in Objects", of which these are a part; the numbers are this program's own.
use Rattle.std.specs.Prelude.{List, [], ◌∷◌, None, codes}
use Rattle.widl_store.specs.declared.inner.Builtin.TheVariants.{Intrinsic}
use Rattle.widl_store.specs.Inners.{PlainPart, ArrayPart}
use Rattle.widl_store.specs.Plans.{Plan, method, iterator, tag, object_on, function}
use Rattle.widl_value.specs.declared.object.Shape.TheVariants as shapes

-- #0 Object.prototype to #7 ArrayIteratorPrototype, then the functions
unfoldable pub intrinsics : List Plan
intrinsics =
    record { proto = None; shape = shapes.Plain; inner = PlainPart; entries = method (codes "toString") 8 ∷ method (codes "valueOf") 9 ∷ [] }
    ∷ object_on 0 PlainPart (method (codes "toString") 15 ∷ [])
    ∷ object_on 0 ArrayPart (method (codes "toString") 10 ∷ method (codes "join") 11 ∷ method (codes "values") 12 ∷ iterator 12 ∷ [])
    ∷ object_on 0 PlainPart (method (codes "toString") 16 ∷ [])
    ∷ object_on 3 PlainPart []
    ∷ object_on 0 PlainPart (method (codes "then") 17 ∷ tag (codes "Promise") ∷ [])
    ∷ object_on 0 PlainPart (iterator 14 ∷ [])
    ∷ object_on 6 PlainPart (method (codes "next") 13 ∷ tag (codes "Array Iterator") ∷ [])
    ∷ function (Intrinsic 8) 0 (codes "toString")
    ∷ function (Intrinsic 9) 0 (codes "valueOf")
    ∷ function (Intrinsic 10) 0 (codes "toString")
    ∷ function (Intrinsic 11) 1 (codes "join")
    ∷ function (Intrinsic 12) 0 (codes "values")
    ∷ function (Intrinsic 13) 0 (codes "next")
    ∷ function (Intrinsic 14) 0 (codes "[Symbol.iterator]")
    ∷ function (Intrinsic 15) 0 (codes "toString")
    ∷ function (Intrinsic 16) 0 (codes "toString")
    ∷ function (Intrinsic 17) 2 (codes "then")
    ∷ []
