-- What comes after the store has answered. No rule names it.
use Rattle.std.specs.Prelude.{[]}
use Rattle.std.specs.declared.result.Result.{Result}
use Rattle.std.specs.declared.result.Result.TheVariants as results
use Rattle.widl_dialog.specs.Dialog.{End, Steps}
use Rattle.widl_value.specs.declared.object.ObjRef.{ObjRef}
use Rattle.widl_value.specs.declared.value.Value.TheVariants as values
use Rattle.widl_store.specs.declared.effects.DefineFault.{DefineFault}
use Rattle.widl_store.specs.declared.effects.DefineFault.TheVariants as defining
use Rattle.widl_store.specs.declared.effects.Put.{Put}
use Rattle.widl_store.specs.declared.effects.PutFault.{PutFault}
use Rattle.widl_store.specs.declared.effects.PutFault.TheVariants as putting
use Rattle.widl_store.specs.declared.found.Found.{Found}
use Rattle.widl_store.specs.declared.found.Found.TheVariants.{Held, Getter, NoGetter, Nothing}
use Rattle.widl_runs.specs.Ends.{Normal}
use Rattle.widl_runs.specs.Jobs.{CallValue, Doing, nothing}

abbrev pub shown : ObjRef → Found → Doing
shown of (Held at) = End (Normal at.now)
shown of (Getter getter) = Steps (CallValue (values.Obj getter) (values.Obj of) []) End
shown of NoGetter = nothing
shown of Nothing = nothing

-- the answer isn't that there was no memory
abbrev pub IsPutAnswer : Result Put PutFault → Type 0
IsPutAnswer (results.Err putting.Memory) = ⊥
IsPutAnswer _ = Unit {0}

abbrev pub IsDefineAnswer : Result (Unit {0}) DefineFault → Type 0
IsDefineAnswer (results.Err defining.Memory) = ⊥
IsDefineAnswer _ = Unit {0}
