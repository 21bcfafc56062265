-- Values of the script to records.
-- Source: Web IDL, "Records" (JavaScript binding); ECMA-262, [[OwnPropertyKeys]], [[GetOwnProperty]].
use Rattle.std.specs.Prelude.{ℕ, Bool, false, bytes_eq, if◌then◌else◌, List, [], ◌∷◌, Option, None}
use Rattle.std.specs.Option.{option_map_or}
use Rattle.widl_dialog.specs.Dialog.{End, Say, Steps}
use Rattle.widl_text.specs.declared.key.Key.{Key}
use Rattle.widl_text.specs.declared.key.Key.TheVariants as keys
use Rattle.widl_idl.specs.declared.text_kind.TextKind.{TextKind}
use Rattle.widl_idl.specs.Terms.{TypeTerm, StringType}
use Rattle.widl_value.specs.declared.flags.Flags.{Flags}
use Rattle.widl_value.specs.declared.object.ObjRef.{ObjRef}
use Rattle.widl_value.specs.declared.value.Value.{Value}
use Rattle.widl_value.specs.declared.value.Value.TheVariants as values
use Rattle.widl_value.specs.IdlTerms.{IdlTerm, StringValue, RecordValue, packed_entries}
use Rattle.widl_trace.specs.declared.code.Code.TheVariants as code
use Rattle.widl_steps.specs.AskTerms.{GetAsk, OwnKeysAsk, OwnAsk, AnswerTerm, KeysAnswer, OwnAnswer}
use Rattle.widl_steps.specs.Tasks.{Convert, Entries, Gives, Talk, TaskEnd}
use Rattle.widl_steps.specs.Words.{gives, normal, object, given}

-- 1. Words

-- no other answer fits
abbrev pub keys_in : AnswerTerm → List Key
keys_in (KeysAnswer all) = all
keys_in _ = []

abbrev pub flags_in : AnswerTerm → Option Flags
flags_in (OwnAnswer flags) = flags
flags_in _ = None

-- the property is there, and is enumerable
abbrev pub is_enumerable : Option Flags → Bool
is_enumerable flags = option_map_or (λ (f : Flags). f.enumerable) flags false

abbrev pub key_value : Key → Value
key_value (keys.Name name) = values.Str name
key_value (keys.Sym n) = values.Sym n

-- goes on with the text that a conversion to a string type gives
abbrev pub named : (List ℕ → Talk) → TaskEnd → Talk
named k (Gives (StringValue name)) = k name
named k e = End e

-- a name that is there keeps its place, and has the new value
abbrev pub with_entry : List ℕ → IdlTerm → List (List ℕ × IdlTerm) → List (List ℕ × IdlTerm)
with_entry name w [] = (name, w) ∷ []
with_entry name w (e ∷ entries) = if bytes_eq name e.0 then (name, w) ∷ entries else e ∷ with_entry name w entries

-- 2. The keys in order. Each that is an enumerable property is converted, then the property is read by the key as it was, and its value is
-- converted.

abbrev pub entry_given : TextKind → TypeTerm → ObjRef → List Key → List (List ℕ × IdlTerm) → List ℕ → TaskEnd → Talk
entry_given kind t o left made name = given (λ w. Steps (Entries kind t o left (with_entry name w made)) End)

abbrev pub entry_value : TextKind → TypeTerm → ObjRef → List Key → List (List ℕ × IdlTerm) → List ℕ → Value → Talk
entry_value kind t o left made name v = Steps (Convert t v) (entry_given kind t o left made name)

abbrev pub named_entry : TextKind → TypeTerm → ObjRef → Key → List Key → List (List ℕ × IdlTerm) → TaskEnd → Talk
named_entry kind t o key left made = named (λ name. Say (GetAsk o key) (normal (entry_value kind t o left made name)))

abbrev pub own_entry : TextKind → TypeTerm → ObjRef → Key → List Key → List (List ℕ × IdlTerm) → AnswerTerm → Talk
own_entry kind t o key left made a =
    if is_enumerable (flags_in a)
    then Steps (Convert (StringType kind false) (key_value key)) (named_entry kind t o key left made)
    else Steps (Entries kind t o left made) End

abbrev pub entries : TextKind → TypeTerm → ObjRef → List Key → List (List ℕ × IdlTerm) → Talk
entries kind t o [] made = gives (RecordValue (packed_entries made))
entries kind t o (key ∷ left) made = Say (OwnAsk o key) (own_entry kind t o key left made)

-- 3. The record of an object

abbrev pub to_record : TextKind → TypeTerm → Value → Talk
to_record kind t = object code.NotObject (λ o. Say (OwnKeysAsk o) (λ a. Steps (Entries kind t o (keys_in a) []) End))
