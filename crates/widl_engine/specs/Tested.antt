-- What a test of values gives before anything is done. No rule names it.
use Rattle.std.specs.Prelude.{Option, Some, None}
use Rattle.widl_text.specs.declared.key.Key.{Key}
use Rattle.widl_value.specs.declared.object.ObjRef.{ObjRef}
use Rattle.widl_trace.specs.declared.code.Code.TheVariants as code
use Rattle.widl_runs.specs.Jobs.{Doing, fails, reaches}
use Rattle.widl_engine.specs.declared.members.Tested.{Tested}
use Rattle.widl_engine.specs.declared.members.Tested.TheVariants.{Member, Refused, Stops}

-- a member of an object is done; anything else throws or stops
abbrev pub tested_by : (ObjRef → Key → Doing) → Tested → Doing
tested_by k (Member object key) = k object key
tested_by k (Refused why) = fails why
tested_by k Stops = reaches 4

-- goes on with a function, and else throws
abbrev pub if_function : (ObjRef → Doing) → Option ObjRef → Doing
if_function k None = fails code.NotCallable
if_function k (Some object) = k object
