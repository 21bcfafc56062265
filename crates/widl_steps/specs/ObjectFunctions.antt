-- The functions of Object.prototype.
-- Source: ECMA-262, Object.prototype.toString, Object.prototype.valueOf.
use Rattle.std.specs.Prelude.{ℕ, if◌then◌else◌, nat_le, List, ◌++◌, length, codes}
use Rattle.widl_dialog.specs.Dialog.{End, Say}
use Rattle.widl_text.specs.declared.key.Key.TheVariants as keys
use Rattle.widl_value.specs.declared.object.ObjRef.{ObjRef}
use Rattle.widl_value.specs.declared.value.Value.{Value}
use Rattle.widl_value.specs.declared.value.Value.TheVariants as values
use Rattle.widl_trace.specs.declared.code.Code.TheVariants as code
use Rattle.widl_steps.specs.declared.answer.KindName.{KindName}
use Rattle.widl_steps.specs.declared.answer.KindName.TheVariants as kinds
use Rattle.widl_steps.specs.declared.ask.Look.TheVariants as looks
use Rattle.widl_steps.specs.AskTerms.{GetAsk, LookAsk, AnswerTerm, KindSight, SightAnswer}
use Rattle.widl_steps.specs.Tasks.{Profile}
use Rattle.widl_steps.specs.Words.{returns, fails, normal, primitive_this}
use Rattle.widl_steps.specs.CallTasks.{CallTalk}

-- the symbol `@toStringTag`
abbrev pub to_string_tag_symbol : ℕ
to_string_tag_symbol = 2

-- 1. Object.prototype.toString

abbrev pub kind_tag : KindName → List ℕ
kind_tag kinds.Array = codes "Array"
kind_tag kinds.Function = codes "Function"
kind_tag kinds.Error = codes "Error"
kind_tag kinds.Promise = codes "Object"
kind_tag kinds.Other = codes "Object"

-- a text that a function joins has a greatest length (this program's own)
abbrev pub most_joined_units : ℕ
most_joined_units = 65536

-- the end of the profile for a longer one
abbrev pub joins_long_text : CallTalk
joins_long_text = End (Profile 5)

abbrev pub joined : List ℕ → CallTalk
joined units = if nat_le (length units) most_joined_units then returns (values.Str units) else joins_long_text

abbrev pub tagged : List ℕ → CallTalk
tagged tag = joined (codes "[object " ++ tag ++ codes "]")

-- no other answer fits
abbrev pub kind_in : AnswerTerm → KindName
kind_in (SightAnswer (KindSight kind)) = kind
kind_in _ = kinds.Other

abbrev pub by_kind : AnswerTerm → CallTalk
by_kind a = tagged (kind_tag (kind_in a))

-- a tag that is no text gives way to that of the object's kind, which is asked for only then
abbrev pub with_tag : ObjRef → Value → CallTalk
with_tag o (values.Str tag) = tagged tag
with_tag o _ = Say (LookAsk o looks.Kind) by_kind

abbrev pub object_to_string : Value → CallTalk
object_to_string values.Undefined = tagged (codes "Undefined")
object_to_string values.Null = tagged (codes "Null")
object_to_string (values.Obj o) = Say (GetAsk o (keys.Sym to_string_tag_symbol)) (normal (with_tag o))
object_to_string _ = primitive_this

-- 2. Object.prototype.valueOf

abbrev pub object_value_of : Value → CallTalk
object_value_of values.Undefined = fails code.This
object_value_of values.Null = fails code.This
object_value_of (values.Obj o) = returns (values.Obj o)
object_value_of _ = primitive_this
