-- Tasks: the algorithms of which conversions and the choice of an overload are made, each with its arguments; and how they end.
-- Source: Web IDL, "JavaScript type mapping" and "overload resolution algorithm"; ECMA-262, "Type Conversion".
use Rattle.std.specs.Prelude.{ℕ, List, Option}
use Rattle.widl_dialog.specs.Dialog.{Dialog}
use Rattle.widl_text.specs.declared.key.Key.{Key}
use Rattle.widl_idl.specs.declared.callee.Callee.{Callee}
use Rattle.widl_idl.specs.declared.literal.Literal.{Literal}
use Rattle.widl_idl.specs.declared.text_kind.TextKind.{TextKind}
use Rattle.widl_idl.specs.Terms.{TypeTerm}
use Rattle.widl_overload.specs.sets.Sets.{TupleTerm}
use Rattle.widl_value.specs.declared.object.ObjRef.{ObjRef}
use Rattle.widl_value.specs.declared.value.Value.{Value}
use Rattle.widl_value.specs.IdlTerms.{IdlTerm, IdlTerms}
use Rattle.widl_trace.specs.declared.code.Code.{Code}
use Rattle.widl_steps.specs.declared.hint.Hint.{Hint}
use Rattle.widl_steps.specs.declared.want.Want.{Want}
use Rattle.widl_steps.specs.AskTerms.{AskTerm, AnswerTerm}
use Rattle.widl_tables.specs.MemberOrder.{DeclaredMember}

-- what is made on the way to script: an array, or an object with properties of these names
pub data Container : Type 0 where
  ArrayOf : Container
  ObjectOf : List (List ℕ) → Container

pub data Task : Type 0 where
  -- ToPrimitive; ToNumber, ToString or ToLength
  Primitive : Hint → Value → Task
  Scalar : Want → Value → Task
  -- a value to an IDL value of a type
  Convert : TypeTerm → Value → Task
  -- a sequence of elements of a type, from an object and its method `@iterator`
  SequenceFrom : TypeTerm → ObjRef → ObjRef → Task
  -- the turns of an iterator that are left, by its method `next`, and the elements before
  Turns : TypeTerm → ObjRef → ObjRef → List IdlTerm → Task
  -- the keys of an object that are left, for a record of keys and values of these types, and the entries before
  Entries : TextKind → TypeTerm → ObjRef → List Key → List (List ℕ × IdlTerm) → Task
  -- the members of a dictionary that are left, from an object if there is one, and those before
  Members : ℕ → Option ObjRef → List DeclaredMember → List (ℕ × ℕ × IdlTerm) → Task
  -- the overload resolution algorithm for these arguments
  Resolve : Callee → List Value → Task
  -- its entries that are left, and the place that tells them apart; the arguments that are left, and the values of those before
  Arguments : Callee → List TupleTerm → ℕ → List Value → List IdlTerm → Task
  -- the default value of an argument or a member of this type, or missing
  Default : TypeTerm → Option Literal → Task
  -- the values of the declared arguments that come after these of an overload
  Defaults : Callee → ℕ → List IdlTerm → Task
  -- an IDL value of a type to a value of the script
  Out : TypeTerm → IdlTerm → Task
  -- the items of a container that are left, on their way to script, and the values before
  OutItems : Container → IdlTerms → List Value → Task
  -- so many units, then the container
  OutUnits : ℕ → Container → List Value → Task

pub data TaskEnd : Type 0 where
  -- an IDL value; a value of the script; an overload with the values of its arguments
  Gives : IdlTerm → TaskEnd
  Plain : Value → TaskEnd
  Picks : ℕ → List IdlTerm → TaskEnd
  -- a new TypeError is thrown for a reason, or a value that was thrown before
  Throw : Code → TaskEnd
  Rethrow : Value → TaskEnd
  -- an end of the profile, by its number
  Profile : ℕ → TaskEnd

-- the steps of tasks, of these or of more
abbrev pub TalkOf : Type 0 → Type 0
TalkOf Job = Dialog Job AskTerm AnswerTerm TaskEnd

abbrev pub Talk : Type 0
Talk = TalkOf Task
