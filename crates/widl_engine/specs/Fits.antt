-- What an action that takes no unit asks for: the objects that it names are there, and there is room for what it adds.
use Rattle.std.specs.Prelude.{ℕ, ◌<◌, ◌^◌, ◌-◌, List, length}
use Rattle.widl_script_tree.specs.Tables.{Tables}
use Rattle.widl_store.specs.Objects.{Obj, IsLive}
use Rattle.widl_engine.specs.declared.due.Due.{Due}
use Rattle.widl_engine.specs.declared.due.Due.TheVariants as due
use Rattle.widl_engine.specs.Added.{CanBeAdded}
use Rattle.widl_runs.specs.Fitting.{HasPrototypes}

abbrev pub Fits : Tables → List Obj → ℕ → Due → Type 0
Fits s objects symbol (due.FindBody f this args) = IsLive objects f
Fits s objects symbol (due.FindConstructor f args) = IsLive objects f
Fits s objects symbol due.TakeSymbol = symbol < 2 ^ 32 - 1
Fits s objects symbol (due.Add new then) = (length objects < 2 ^ 32 - 1) × HasPrototypes objects × CanBeAdded s objects new
Fits s objects symbol (due.Find object key) = IsLive objects object
Fits s objects symbol (due.Put object key v) = IsLive objects object
Fits s objects symbol (due.Define object key prop) = IsLive objects object
Fits s objects symbol (due.Delete object key) = IsLive objects object
Fits s objects symbol (due.FindKeys object) = IsLive objects object
Fits s objects symbol (due.FindOwn object key) = IsLive objects object
Fits s objects symbol (due.Look object what) = IsLive objects object
Fits s objects symbol (due.Change object change) = IsLive objects object
Fits s objects symbol _ = Unit {0}
