-- What is there once an object is added.
use Rattle.std.specs.Prelude.{◌≡◌, ◌<◌, List, length, IfSome}
use Rattle.widl_value.specs.declared.object.ObjRef.{ObjRef}
use Rattle.widl_script_tree.specs.Tables.{Tables}
use Rattle.widl_store.specs.Objects.{Obj, StoreState, with_objects, IsLive}
use Rattle.widl_store.specs.Plans.{Plan}
use Rattle.widl_runs.specs.Actions.{with_new, new_reference}
use Rattle.widl_engine.specs.declared.due.NewObject.{NewObject}
use Rattle.widl_engine.specs.declared.due.NewObject.TheVariants as new

pub record IsAdded (before after : StoreState) (object : ObjRef) (added : Plan) : Type 0 where
  pub reference : object ≡ new_reference (length before.objects) added
  pub store : after ≡ with_objects before (with_new before.objects added)

-- the prototype of a new object is there, and a new function is one of the script
abbrev pub CanBeAdded : Tables → List Obj → NewObject → Type 0
CanBeAdded s objects (new.Ordinary proto) = IfSome proto (IsLive objects)
CanBeAdded s objects (new.Function number) = number < length s.functions
CanBeAdded s objects new.Error = Unit {0}
CanBeAdded s objects (new.Asked what) = Unit {0}
