-- For proofs and contracts alone; no step names these words. The kind of the ask whose answer a suspended call waits for.
use Rattle.widl_steps.specs.declared.ask.Look.TheVariants as looks
use Rattle.widl_steps.specs.AskTerms.{AskKind, OfGet, OfLook, OfUnit, OfNote}
use Rattle.widl_convert.specs.declared.asker.Asker.{Asker}
use Rattle.widl_calls.specs.declared.waits.CallWait.{CallWait}
use Rattle.widl_calls.specs.declared.waits.CallWait.TheVariants as waits
use Rattle.widl_calls.specs.ArrayWaits.{array_kind_for}
use Rattle.widl_calls.specs.Kinds.{kind_in}

abbrev pub call_kind_for : CallWait → AskKind
call_kind_for (waits.Inside i) = kind_in i.asker.value
call_kind_for (waits.Noted overload read) = OfNote
call_kind_for (waits.Line overload read) = OfUnit
call_kind_for (waits.Tag o) = OfGet
call_kind_for waits.Kind = OfLook looks.Kind
call_kind_for (waits.Array w) = array_kind_for w
