-- Looks: what is seen of an object by its inner part, without a line.
-- Source: ECMA-262, the built-in tags of Object.prototype.toString, "Array Iterator Objects"; Web IDL, "Default iterator objects".
use Rattle.std.specs.Prelude.{Option, None, Some}
use Rattle.widl_store.specs.Inners.{InnerTerm, ArrayPart, ErrorPart, ScriptPart, BuiltinPart, InterfacePart, PairIteratorPart, ArrayIteratorPart, PromisePart}
use Rattle.widl_steps.specs.declared.answer.CursorState.{CursorState}
use Rattle.widl_steps.specs.declared.answer.CursorState.TheVariants as cursors
use Rattle.widl_steps.specs.declared.answer.KindName.{KindName}
use Rattle.widl_steps.specs.declared.answer.KindName.TheVariants as kinds
use Rattle.widl_steps.specs.declared.ask.Look.{Look}
use Rattle.widl_steps.specs.declared.ask.Look.TheVariants as looks
use Rattle.widl_steps.specs.AskTerms.{AnswerTerm, Sight, KindSight, CursorSight}
use Rattle.widl_steps.specs.ArrayFunctions.{cursor_in}
use Rattle.widl_steps.specs.ObjectFunctions.{kind_in}

-- the kind of an object: functions of a script, built-in functions and interface objects are functions
abbrev pub kind_of_inner : InnerTerm → KindName
kind_of_inner ArrayPart = kinds.Array
kind_of_inner ErrorPart = kinds.Error
kind_of_inner (ScriptPart number) = kinds.Function
kind_of_inner (BuiltinPart function) = kinds.Function
kind_of_inner (InterfacePart iface slots) = kinds.Function
kind_of_inner (PromisePart state) = kinds.Promise
kind_of_inner _ = kinds.Other

-- how far an iterator has come; any other object is none
abbrev pub cursor_of : InnerTerm → Option CursorState
cursor_of (PairIteratorPart of kind next) = Some (cursors.Pairs of kind next)
cursor_of (ArrayIteratorPart of next turn) = Some (cursors.Array of next turn)
cursor_of _ = None

-- what a look sees
abbrev pub sight_of : Look → InnerTerm → Sight
sight_of looks.Kind inner = KindSight (kind_of_inner inner)
sight_of looks.Cursor inner = CursorSight (cursor_of inner)

-- what an answer shows
abbrev pub sight_in : Look → AnswerTerm → Sight
sight_in looks.Kind a = KindSight (kind_in a)
sight_in looks.Cursor a = CursorSight (cursor_in a)
