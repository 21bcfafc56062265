-- For proofs alone. The shapes of the objects of a store, which tests know.
use Rattle.std.specs.Prelude.{◌≡◌, List, length, slice_get, Some}
use Rattle.widl_store.specs.Objects.{Obj, IsLive}
use Rattle.widl_value.specs.declared.object.ObjRef.{ObjRef}
use Rattle.widl_value.specs.declared.object.Shape.{Shape}

-- the reference has a shape that is known
abbrev pub IsKnown : List Shape → ObjRef → Type 0
IsKnown shapes obj = slice_get shapes obj.id ≡ Some obj.shape

-- there are as many objects as shapes, and what is known is live
pub record AreShapes (objects : List Obj) (shapes : List Shape) : Type 0 where
  pub count : length objects ≡ length shapes
  pub live : (obj : ObjRef) → IsKnown shapes obj → IsLive objects obj
