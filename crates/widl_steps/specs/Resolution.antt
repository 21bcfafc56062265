-- The choice of an overload, with the conversion of the arguments.
-- Source: Web IDL, "overload resolution algorithm", by the numbers of its steps.
use Rattle.std.specs.Prelude.{ℕ, Bool, true, false, if◌then◌else◌, nat_eq, List, [], ◌∷◌, ◌++◌, length, take, slice_get, Option, None, Some}
use Rattle.std.specs.Option.{option_and_then}
use Rattle.widl_dialog.specs.Dialog.{End, Say, Steps}
use Rattle.widl_text.specs.declared.key.Key.TheVariants as keys
use Rattle.widl_idl.specs.declared.argument.Optionality.{Optionality}
use Rattle.widl_idl.specs.declared.argument.Optionality.TheVariants.{Optional}
use Rattle.widl_idl.specs.declared.callee.Callee.{Callee}
use Rattle.widl_idl.specs.declared.literal.Literal.{Literal}
use Rattle.widl_idl.specs.DefinitionTerms.{DefsTerm, ArgTerm}
use Rattle.widl_idl.specs.Terms.{TypeTerm}
use Rattle.widl_overload.specs.sets.Entries.{declared_args, optionality_at, type_at}
use Rattle.widl_overload.specs.sets.Sets.{TupleTerm}
use Rattle.widl_value.specs.Classes.{class_of}
use Rattle.widl_value.specs.declared.object.ObjRef.{ObjRef}
use Rattle.widl_value.specs.declared.value.Value.{Value}
use Rattle.widl_value.specs.declared.value.Value.TheVariants as values
use Rattle.widl_value.specs.IdlTerms.{IdlTerm}
use Rattle.widl_trace.specs.declared.code.Code.TheVariants as code
use Rattle.widl_tables.specs.declared.pick.Pick.{Pick}
use Rattle.widl_tables.specs.declared.pick.Pick.TheVariants.{Entry, Probe}
use Rattle.widl_tables.specs.Kept.{argcount_of, entry_alone, kept_tuples, telling_place}
use Rattle.widl_tables.specs.Picks.{pick_of}
use Rattle.widl_steps.specs.AskTerms.{GetAsk}
use Rattle.widl_steps.specs.Built.{Built}
use Rattle.widl_steps.specs.Sequences.{iterator_symbol, element_within, if_sequences}
use Rattle.widl_steps.specs.Tasks.{Task, SequenceFrom, Arguments, Convert, Default, Defaults, Talk, TaskEnd}
use Rattle.widl_steps.specs.Words.{fails, normal, object, method_or, given}

-- 1. Steps 1 to 10. Entries of one length are kept; where there is none, a TypeError is thrown. Where there are several, one place tells them
-- apart. No argument has its value yet.

abbrev pub with_entries : DefsTerm → Callee → List TupleTerm → List Value → Talk
with_entries list callee [] args = fails code.NoOverload
with_entries list callee entries args = Steps (Arguments callee entries (telling_place list entries) args []) End

-- the arguments beyond those that count are dropped
abbrev pub resolve : DefsTerm → Callee → List Value → Talk
resolve list callee args =
    with_entries list callee (kept_tuples list callee (length args)) (take (argcount_of list callee (length args)) args)

-- 2. Steps 11 and 15: the next argument, V, by the type and the optionality value of an entry. An optional argument that is undefined gives its
-- default value, or is missing; any other is converted.

abbrev pub takes_default : Optionality → Value → Bool
takes_default Optional values.Undefined = true
takes_default _ v = false

abbrev pub default_at : DefsTerm → Callee → ℕ → ℕ → Option Literal
default_at list callee overload place = option_and_then (λ (a : ArgTerm). a.value) (slice_get (declared_args list callee overload) place)

abbrev pub argument_task : DefsTerm → Callee → TupleTerm → ℕ → Value → Task
argument_task list callee entry place v =
    if takes_default (optionality_at entry place) v then Default (type_at entry place) (default_at list callee entry.overload place) else Convert (type_at entry place) v

-- where the algorithm stands: the place that tells entries apart, the arguments after V, and the values of those before it
module _ (list : DefsTerm) (callee : Callee) (place : ℕ) (left : List Value) (made : List IdlTerm) where
  -- V's value comes after the others, and the arguments after V follow
  abbrev pub argument_given : List TupleTerm → TaskEnd → Talk
  argument_given entries = given (λ w. Steps (Arguments callee entries place left (made ++ w ∷ [])) End)

  -- by the first entry: before the place that tells them apart all agree, and after it one is left
  abbrev pub argument : Value → List TupleTerm → Talk
  argument v [] = fails code.NoMatch
  argument v (entry ∷ more) = Steps (argument_task list callee entry (length made) v) (argument_given (entry ∷ more))

-- 3. Step 12: V at the place that tells the entries apart. The first test that one of them meets keeps this entry alone. One test looks for a
-- sequence type, and reads V's method `@iterator` first; where V has none, the tests after it decide.

-- goes on with the entry that is picked
abbrev pub by_entry : (List TupleTerm → Talk) → List TupleTerm → Pick → Talk
by_entry k entries (Entry e) = k (entry_alone e entries)
by_entry k entries _ = fails code.NoMatch

-- goes on with it, and with V and the method where there is one
abbrev pub by_pick : Built → DefsTerm → ℕ → Value → (Option (ObjRef × ObjRef) → List TupleTerm → Talk) → List TupleTerm → Pick → Talk
by_pick built list place v k entries (Probe e) =
    object code.NoMatch
    (λ o. Say (GetAsk o (keys.Sym iterator_symbol)) (normal (method_or
    (by_entry (k None) entries (pick_of list entries place (class_of v) true))
    (λ method. if_sequences built (k (Some (o, method)) (entry_alone e entries)))))) v
by_pick built list place v k entries pick = by_entry (k None) entries pick

-- 4. Steps 13 to 15: the entry that is left takes V. With a method the value is the sequence that is made from V and it, in the entry's sequence
-- type; the method isn't read again.

module _ (list : DefsTerm) (callee : Callee) (place : ℕ) (left : List Value) (made : List IdlTerm) where
  abbrev pub sequence_given : List TupleTerm → ObjRef → ObjRef → Option TypeTerm → Talk
  sequence_given entries o method (Some t) = Steps (SequenceFrom t o method) (argument_given list callee place left made entries)
  sequence_given entries o method None = fails code.NoMatch

  abbrev pub from_method : ObjRef → ObjRef → List TupleTerm → Talk
  from_method o method [] = fails code.NoMatch
  from_method o method (entry ∷ more) = sequence_given (entry ∷ more) o method (element_within (type_at entry (length made)))

  abbrev pub kept : Value → Option (ObjRef × ObjRef) → List TupleTerm → Talk
  kept v None entries = argument list callee place left made v entries
  kept v (Some found) entries = from_method found.0 found.1 entries

-- 5. The arguments in order, each of them V once. After them one entry is left, and its declared arguments beyond them follow (steps 16 and 17).

-- V, where several entries are left
abbrev pub of_several : Built → DefsTerm → Callee → ℕ → List Value → List IdlTerm → Value → List TupleTerm → Talk
of_several built list callee place left made v entries =
    if nat_eq (length made) place
    then by_pick built list place v (kept list callee place left made v) entries (pick_of list entries place (class_of v) false)
    else argument list callee place left made v entries

abbrev pub arguments : Built → DefsTerm → Callee → List TupleTerm → ℕ → List Value → List IdlTerm → Talk
arguments built list callee [] place left made = fails code.NoMatch
arguments built list callee (entry ∷ []) place [] made = Steps (Defaults callee entry.overload made) End
arguments built list callee (entry ∷ []) place (v ∷ left) made = argument list callee place left made v (entry ∷ [])
arguments built list callee (entry ∷ other ∷ more) place [] made = fails code.NoMatch
arguments built list callee (entry ∷ other ∷ more) place (v ∷ left) made = of_several built list callee place left made v (entry ∷ other ∷ more)
