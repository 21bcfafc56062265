-- The kinds of asks in code. No rule names any of it.
use Rattle.widl_steps.specs.AskTerms.{AskKind, OfGet, OfCall, OfUnit, OfNote, OfOwnKeys, OfOwn, OfLook, OfNew, OfChange}
use Rattle.widl_engine.specs.declared.suspended.AskKind as kinds
use Rattle.widl_engine.specs.declared.suspended.AskKind.TheVariants as kind

abbrev pub ask_kind_of : kinds.AskKind → AskKind
ask_kind_of kind.Get = OfGet
ask_kind_of kind.Call = OfCall
ask_kind_of kind.Unit = OfUnit
ask_kind_of kind.Note = OfNote
ask_kind_of kind.OwnKeys = OfOwnKeys
ask_kind_of kind.Own = OfOwn
ask_kind_of (kind.Look what) = OfLook what
ask_kind_of (kind.New shape) = OfNew shape
ask_kind_of kind.Change = OfChange
