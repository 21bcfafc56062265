-- An object that is added last is live.
use Rattle.std.proofs.Common.{◌≡◌, List, [], ◌∷◌, ◌++◌, length, Some, refl, slice_get}
use Rattle.std.specs.Option.{option_map}
use Rattle.widl_store.specs.Objects.{Obj, IsLive}

pub last_live : (objects : List Obj) (o : Obj) → IsLive (objects ++ o ∷ []) (record { id = length objects; shape = o.shape })
last_live [] o = refl
last_live (a ∷ objects) o = last_live objects o
