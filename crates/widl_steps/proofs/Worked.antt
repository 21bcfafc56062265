-- What worked conversations are made of: values, and lists of definitions with one namespace.
use Rattle.std.specs.Prelude.{ℕ, Bool, List, [], ◌∷◌, Option, None, Some, true, false, codes, pos}
use Rattle.widl_dialog.specs.Conversation.{Next}
use Rattle.widl_text.specs.declared.place.Place.{Place}
use Rattle.widl_text.specs.declared.key.Key.{Key}
use Rattle.widl_text.specs.declared.key.Key.TheVariants as keys
use Rattle.widl_idl.specs.declared.argument.Optionality.{Optionality}
use Rattle.widl_idl.specs.declared.callee.Callee.{Callee}
use Rattle.widl_idl.specs.declared.callee.Owner.TheVariants as owners
use Rattle.widl_idl.specs.declared.callee.Part.TheVariants as parts
use Rattle.widl_idl.specs.declared.int_kind.IntKind.TheVariants.{Long}
use Rattle.widl_idl.specs.declared.int_kind.Mode.TheVariants.{Wrap}
use Rattle.widl_idl.specs.declared.literal.Literal.{Literal}
use Rattle.widl_idl.specs.declared.literal.Literal.TheVariants as literals
use Rattle.widl_idl.specs.DefinitionTerms.{DefsTerm, DictTerm, MemberTerm, ArgTerm, SigTerm}
use Rattle.widl_idl.specs.Terms.{TypeTerm, IntegerType}
use Rattle.widl_value.specs.declared.flags.Flags.{Flags}
use Rattle.widl_value.specs.declared.number.Number.TheVariants as numbers
use Rattle.widl_value.specs.declared.object.ObjRef.{ObjRef}
use Rattle.widl_value.specs.declared.object.Shape.TheVariants as shapes
use Rattle.widl_value.specs.declared.value.Value.{Value}
use Rattle.widl_value.specs.declared.value.Value.TheVariants as values
use Rattle.widl_value.specs.IdlTerms.{IdlTerm, IntegerValue}
use Rattle.widl_steps.specs.AskTerms.{AskTerm, AnswerTerm, GetAsk, CallAsk, OwnKeysAsk, OwnAsk, UnitAsk, DoneAnswer, NormalAnswer, ThrownAnswer, KeysAnswer, OwnAnswer}
use Rattle.widl_steps.specs.Built.{Built, built_today}
use Rattle.widl_steps.specs.Laws.{Said, IsNext}
use Rattle.widl_steps.specs.Rules.{rule}
use Rattle.widl_steps.specs.Tasks.{Task, TaskEnd}

-- 1. Values

abbrev pub number : ℕ → Value
number n = values.Num (numbers.Whole (pos n))

abbrev pub integer : ℕ → IdlTerm
integer n = IntegerValue (pos n)

-- the object of a number: one that can't be called, and one that can
abbrev pub plain : ℕ → ObjRef
plain n = record { id = n; shape = shapes.Plain }

abbrev pub function : ℕ → ObjRef
function n = record { id = n; shape = shapes.Callable }

-- 2. Asks with their answers

abbrev pub gets : ObjRef → Key → Value → AskTerm × AnswerTerm
gets o key v = (GetAsk o key, NormalAnswer v)

abbrev pub gets_name : ObjRef → List ℕ → Value → AskTerm × AnswerTerm
gets_name o name v = gets o (keys.Name name) v

abbrev pub calls : ObjRef → Value → List Value → Value → AskTerm × AnswerTerm
calls f this args v = (CallAsk f this args, NormalAnswer v)

abbrev pub call_throws : ObjRef → Value → List Value → Value → AskTerm × AnswerTerm
call_throws f this args v = (CallAsk f this args, ThrownAnswer v)

-- the own keys of an object; an own property, which is enumerable or hidden; a unit that is taken
abbrev pub has_keys : ObjRef → List Key → AskTerm × AnswerTerm
has_keys o all = (OwnKeysAsk o, KeysAnswer all)

abbrev pub flags : Bool → Flags
flags enumerable = record { writable = true; enumerable = enumerable; configurable = true }

abbrev pub shows_own : ObjRef → Key → AskTerm × AnswerTerm
shows_own o key = (OwnAsk o key, OwnAnswer (Some (flags true)))

abbrev pub hides_own : ObjRef → Key → AskTerm × AnswerTerm
hides_own o key = (OwnAsk o key, OwnAnswer (Some (flags false)))

abbrev pub takes_unit : AskTerm × AnswerTerm
takes_unit = (UnitAsk, DoneAnswer)

-- 3. Types and lists of definitions

abbrev pub long : TypeTerm
long = IntegerType Long Wrap

abbrev pub place : Place
place = record { file = 0; at = 0 }

abbrev pub nothing_defined : DefsTerm
nothing_defined = record { ifaces = []; spaces = []; dicts = []; choices = []; callback_fns = []; callback_ifaces = [] }

-- an argument, whose name doesn't matter
abbrev pub argument : TypeTerm → Optionality → Option Literal → ArgTerm
argument t opt value = record { name = codes "a"; ty = t; opt = opt; value = value }

abbrev pub overload : TypeTerm → List ArgTerm → SigTerm
overload returned args = record { at = place; args = args; returned = returned }

-- `namespace N` with these overloads of `f`
abbrev pub with_overloads : List SigTerm → DefsTerm
with_overloads sigs = record nothing_defined {
  spaces = record { at = place; name = codes "N"; members = record { ops = record { name = codes "f"; fixed = false; sigs = sigs } ∷ []; attrs = []; consts = []; order = [] } } ∷ [];
}

abbrev pub f : Callee
f = record { owner = owners.Space 0; part = parts.Op 0 }

-- an enumeration of these values
abbrev pub with_values : List (List ℕ) → DefsTerm
with_values texts = record nothing_defined { choices = record { at = place; name = codes "E"; values = texts } ∷ [] }

-- dictionaries of these names, each with the number of the one from which it inherits, and their members
abbrev pub dictionary : List ℕ → Option ℕ → List MemberTerm → DictTerm
dictionary name parent members = record { at = place; name = name; parent = parent; members = members }

abbrev pub optional_member : List ℕ → TypeTerm → Option Literal → MemberTerm
optional_member name t value = record { at = place; name = name; ty = t; needed = false; value = value }

abbrev pub required_member : List ℕ → TypeTerm → MemberTerm
required_member name t = record { at = place; name = name; ty = t; needed = true; value = None }

abbrev pub with_dictionaries : List DictTerm → DefsTerm
with_dictionaries dicts = record nothing_defined { dicts = dicts }

-- `dictionary B { long b = 1; }; dictionary D : B { long c = 9; long a; };`
abbrev pub derived : DefsTerm
derived =
    with_dictionaries
    (dictionary (codes "B") None (optional_member (codes "b") long (Some (literals.Int (pos 1))) ∷ [])
    ∷ dictionary (codes "D") (Some 0) (optional_member (codes "c") long (Some (literals.Int (pos 9))) ∷ optional_member (codes "a") long None ∷ [])
    ∷ [])

-- 4. What is said

abbrev pub Says : DefsTerm → Task → Said → Next AskTerm TaskEnd → Type 0
Says list task said next = IsNext (rule built_today list) task said next

-- the same where everything is built
abbrev pub everything_built : Built
everything_built = record { to_type = λ t. true; to_script = λ w. true }

abbrev pub Tells : DefsTerm → Task → Said → Next AskTerm TaskEnd → Type 0
Tells list task said next = IsNext (rule everything_built list) task said next
