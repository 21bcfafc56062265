-- Worked conversations with everything built: the functions of arrays and array iterators, and default results.
use Rattle.std.specs.Prelude.{◌≡◌, ℕ, [], ◌∷◌, None, Some, Bool, true, false, codes, refl}
use Rattle.std.specs.Fmt.{digits}
use Rattle.widl_dialog.specs.Conversation.{Asks, Comes, Ends, Next}
use Rattle.widl_dialog.proofs.Nexts.{one_next}
use Rattle.widl_text.specs.declared.key.Key.TheVariants as keys
use Rattle.widl_idl.specs.declared.text_kind.TextKind.TheVariants as texts
use Rattle.widl_idl.specs.DefinitionTerms.{DefsTerm}
use Rattle.widl_idl.specs.Terms.{TypeTerm, packed, StringType, DictionaryType, ObjectType, SequenceType, RecordType, NullableType, UnionType}
use Rattle.widl_value.specs.declared.value.Value.{Value}
use Rattle.widl_value.specs.declared.value.Value.TheVariants as values
use Rattle.widl_value.specs.IdlTerms.{NullValue, SequenceValue, RecordValue, DictionaryValue, no_values, no_entries, packed_members}
use Rattle.widl_scalar.specs.WhiteSpace.{trimmed, is_white}
use Rattle.widl_scalar.specs.NumeralWords.{exact_of, read_of, read_unsigned}
use Rattle.widl_store.specs.declared.inner.Builtin.TheVariants as builtins
use Rattle.widl_store.specs.declared.inner.PairKind.TheVariants.{Entries}
use Rattle.widl_store.specs.declared.inner.Turn.{Turn}
use Rattle.widl_store.specs.declared.inner.Turn.TheVariants.{Idle, Running, Ended}
use Rattle.widl_trace.specs.declared.code.Code.TheVariants as code
use Rattle.widl_steps.specs.declared.answer.CursorState.TheVariants as cursors
use Rattle.widl_steps.specs.declared.ask.Look.TheVariants as looks
use Rattle.widl_steps.specs.AskTerms.{AskTerm, AnswerTerm, GetAsk, NewAsk, NewObject, NewArrayIterator, LookAsk, ChangeAsk, SetCursor, NormalAnswer, ThrownAnswer, DoneAnswer, CursorSight, SightAnswer, Fits}
use Rattle.widl_steps.specs.Laws.{Said, IsNext}
use Rattle.widl_steps.specs.Tasks.{TaskEnd, Gives, Plain, Throw, Rethrow, Profile}
use Rattle.widl_steps.proofs.Worked.{number, integer, plain, function, gets_name, takes_unit, dictionary, required_member, with_dictionaries, derived, long, nothing_defined, everything_built}
use Rattle.widl_steps.specs.BuiltCalls.{BuiltCalls}
use Rattle.widl_steps.specs.CallRules.{call_rule}
use Rattle.widl_steps.specs.CallTasks.{Function}
use Rattle.widl_steps.specs.DefaultResults.{default_result}
use Rattle.widl_steps.specs.Operations.{StepsOf}

abbrev all_built : BuiltCalls
all_built = record { conversions = everything_built; functions = λ f. true }

abbrev no_steps : StepsOf
no_steps callee number = []

-- the call of the function of a number
abbrev Does : ℕ → Value → Said → Next AskTerm TaskEnd → Type 0
Does n this said next = IsNext (call_rule all_built nothing_defined no_steps) (Function (function n) (builtins.Intrinsic n) this [] false) said next

-- an array, and its iterator
abbrev array : Value
array = values.Obj (plain 21)

abbrev iterator : Value
iterator = values.Obj (plain 22)

-- how far the iterator has come; that it is set; an object that is made
abbrev stands : ℕ → Turn → AskTerm × AnswerTerm
stands next turn = (LookAsk (plain 22) looks.Cursor, SightAnswer (CursorSight (Some (cursors.Array (plain 21) next turn))))

abbrev set : ℕ → Turn → AskTerm × AnswerTerm
set next turn = (ChangeAsk (plain 22) (SetCursor next turn), DoneAnswer)

abbrev result : Value → Bool → AskTerm
result v is_done = NewAsk (NewObject ((keys.Name (codes "value"), v) ∷ (keys.Name (codes "done"), values.Bool is_done) ∷ []))

abbrev makes : AskTerm → ℕ → AskTerm × AnswerTerm
makes ask n = (ask, NormalAnswer (values.Obj (plain n)))

-- 1. `values`

makes_iterator : Does 12 array (makes (NewAsk (NewArrayIterator (plain 21))) 22 ∷ []) (Ends (Plain iterator))
makes_iterator = (60, (refl, refl, refl))

values_of_null : Does 12 values.Null [] (Ends (Throw code.This))
values_of_null = (60, refl)

values_of_text : Does 12 (values.Str []) [] (Ends (Profile 4))
values_of_text = (60, refl)

-- 2. `next` of an array of 7: a turn that gives the element, one at the end, and what comes after that

turn_begins : Does 13 iterator (stands 0 Idle ∷ []) (Asks (ChangeAsk (plain 22) (SetCursor 0 Running)))
turn_begins = (60, (refl, tt, refl))

element_is_read : Does 13 iterator (stands 0 Idle ∷ set 0 Running ∷ gets_name (plain 21) (codes "length") (number 1) ∷ []) (Asks (GetAsk (plain 21) (keys.Name (codes "0"))))
unfolding digits
element_is_read = (60, (refl, tt, (refl, tt, (refl, tt, refl))))

pub turn_is_over : Does 13 iterator (stands 0 Idle ∷ set 0 Running ∷ gets_name (plain 21) (codes "length") (number 1) ∷ gets_name (plain 21) (codes "0") (number 7) ∷ []) (Asks (ChangeAsk (plain 22) (SetCursor 1 Idle)))
unfolding digits
turn_is_over = (60, (refl, tt, (refl, tt, (refl, tt, (refl, tt, refl)))))

element_is_given : Does 13 iterator (stands 0 Idle ∷ set 0 Running ∷ gets_name (plain 21) (codes "length") (number 1) ∷ gets_name (plain 21) (codes "0") (number 7) ∷ set 1 Idle ∷ makes (result (number 7) false) 23 ∷ []) (Ends (Plain (values.Obj (plain 23))))
unfolding digits
element_is_given = (60, (refl, tt, (refl, tt, (refl, tt, (refl, tt, (refl, tt, (refl, refl, refl)))))))

end_is_told : Does 13 iterator (stands 1 Idle ∷ set 1 Running ∷ gets_name (plain 21) (codes "length") (number 1) ∷ set 1 Ended ∷ makes (result values.Undefined true) 24 ∷ []) (Ends (Plain (values.Obj (plain 24))))
end_is_told = (60, (refl, tt, (refl, tt, (refl, tt, (refl, tt, (refl, refl, refl))))))

ended_stays_so : Does 13 iterator (stands 1 Ended ∷ makes (result values.Undefined true) 25 ∷ []) (Ends (Plain (values.Obj (plain 25))))
ended_stays_so = (60, (refl, tt, (refl, refl, refl)))

tenth_element : Does 13 iterator (stands 10 Idle ∷ set 10 Running ∷ gets_name (plain 21) (codes "length") (number 12) ∷ []) (Asks (GetAsk (plain 21) (keys.Name (codes "10"))))
unfolding digits
tenth_element = (60, (refl, tt, (refl, tt, (refl, tt, refl))))

-- an object without a length is at its end
no_length : Does 13 iterator (stands 0 Idle ∷ set 0 Running ∷ gets_name (plain 21) (codes "length") values.Undefined ∷ []) (Asks (ChangeAsk (plain 22) (SetCursor 0 Ended)))
no_length = (60, (refl, tt, (refl, tt, (refl, tt, refl))))

-- 3. Faults: one in a turn ends the iterator

length_throws : Does 13 iterator (stands 0 Idle ∷ set 0 Running ∷ (GetAsk (plain 21) (keys.Name (codes "length")), ThrownAnswer (number 9)) ∷ set 0 Ended ∷ []) (Ends (Rethrow (number 9)))
length_throws = (60, (refl, tt, (refl, tt, (refl, tt, (refl, tt, refl)))))

symbol_is_no_length : Does 13 iterator (stands 0 Idle ∷ set 0 Running ∷ gets_name (plain 21) (codes "length") (values.Sym 3) ∷ set 0 Ended ∷ []) (Ends (Throw code.Symbol))
symbol_is_no_length = (60, (refl, tt, (refl, tt, (refl, tt, (refl, tt, refl)))))

object_has_no_length : Does 13 iterator (stands 0 Idle ∷ set 0 Running ∷ gets_name (plain 21) (codes "length") (values.Obj (plain 30)) ∷ (GetAsk (plain 30) (keys.Sym 1), ThrownAnswer (number 9)) ∷ set 0 Ended ∷ []) (Ends (Rethrow (number 9)))
object_has_no_length = (60, (refl, tt, (refl, tt, (refl, tt, (refl, tt, (refl, tt, refl))))))

-- an end of the profile is no exception: the run ends there
half_is_no_length : Does 13 iterator (stands 0 Idle ∷ set 0 Running ∷ gets_name (plain 21) (codes "length") (values.Str (codes "1.5")) ∷ []) (Ends (Profile 1))
unfolding trimmed is_white read_of read_unsigned exact_of
half_is_no_length = (60, (refl, tt, (refl, tt, (refl, tt, refl))))

element_throws : Does 13 iterator (stands 0 Idle ∷ set 0 Running ∷ gets_name (plain 21) (codes "length") (number 1) ∷ (GetAsk (plain 21) (keys.Name (codes "0")), ThrownAnswer (number 9)) ∷ set 0 Ended ∷ []) (Ends (Rethrow (number 9)))
unfolding digits
element_throws = (60, (refl, tt, (refl, tt, (refl, tt, (refl, tt, (refl, tt, refl))))))

pub turn_is_running : Does 13 iterator (stands 0 Running ∷ []) (Ends (Throw code.Running))
turn_is_running = (60, (refl, tt, refl))

no_iterator : Does 13 array ((LookAsk (plain 21) looks.Cursor, SightAnswer (CursorSight None)) ∷ []) (Ends (Throw code.This))
no_iterator = (60, (refl, tt, refl))

other_iterator : Does 13 iterator ((LookAsk (plain 22) looks.Cursor, SightAnswer (CursorSight (Some (cursors.Pairs (plain 21) Entries 0)))) ∷ []) (Ends (Throw code.This))
other_iterator = (60, (refl, tt, refl))

next_of_undefined : Does 13 values.Undefined [] (Ends (Throw code.This))
next_of_undefined = (60, refl)

next_of_text : Does 13 (values.Str []) [] (Ends (Throw code.This))
next_of_text = (60, refl)

-- 4. An iterator is iterated over itself

is_itself : Does 14 iterator [] (Ends (Plain iterator))
is_itself = (60, refl)

any_this : Does 14 values.Undefined [] (Ends (Plain values.Undefined))
any_this = (60, refl)

-- 5. A turn that runs is not begun again, and one that went well doesn't end the iterator
not_begun_again : Does 13 iterator (stands 0 Running ∷ []) (Asks (ChangeAsk (plain 22) (SetCursor 0 Running))) → ⊥
not_begun_again x =
    let e : ◌≡◌ {A = Next AskTerm TaskEnd} (Ends (Throw code.Running)) (Asks (ChangeAsk (plain 22) (SetCursor 0 Running))) =
    one_next (call_rule all_built nothing_defined no_steps) Fits _ _ _ _ turn_is_running x in
    absurd (cc)

not_ended : Does 13 iterator (stands 0 Idle ∷ set 0 Running ∷ gets_name (plain 21) (codes "length") (number 1) ∷ gets_name (plain 21) (codes "0") (number 7) ∷ []) (Asks (ChangeAsk (plain 22) (SetCursor 1 Ended))) → ⊥
unfolding digits
not_ended x =
    let e : ◌≡◌ {A = Next AskTerm TaskEnd} (Asks (ChangeAsk (plain 22) (SetCursor 1 Idle))) (Asks (ChangeAsk (plain 22) (SetCursor 1 Ended))) =
    one_next (call_rule all_built nothing_defined no_steps) Fits _ _ _ _ turn_is_over x in
    absurd (cc)

-- 6. Results where no line returns

abbrev Results : DefsTerm → TypeTerm → Said → Next AskTerm TaskEnd → Type 0
Results list t said next = Comes (call_rule all_built list no_steps) Fits (default_result list t) said next

null_of_nullable : Results nothing_defined (NullableType (SequenceType long)) [] (Ends (Gives NullValue))
null_of_nullable = (60, refl)

empty_sequence : Results nothing_defined (SequenceType long) [] (Ends (Gives (SequenceValue no_values)))
empty_sequence = (60, refl)

empty_record : Results nothing_defined (RecordType texts.Dom long) [] (Ends (Gives (RecordValue no_entries)))
empty_record = (60, refl)

dictionary_of_undefined : Results derived (DictionaryType 1) (takes_unit ∷ takes_unit ∷ takes_unit ∷ []) (Ends (Gives (DictionaryValue 1 (packed_members ((0, 0, integer 1) ∷ (1, 0, integer 9) ∷ [])))))
dictionary_of_undefined = (60, (refl, tt, (refl, tt, (refl, tt, refl))))

-- `dictionary B { required long x; }; dictionary D : B { };`
abbrev with_required : DefsTerm
with_required = with_dictionaries (dictionary (codes "B") None (required_member (codes "x") long ∷ []) ∷ dictionary (codes "D") (Some 0) [] ∷ [])

required_above : Results with_required (DictionaryType 1) [] (Ends (Throw code.NoDefault))
required_above = (60, refl)

none_of_union : Results nothing_defined (UnionType (packed (NullableType long ∷ StringType texts.Dom false ∷ []))) [] (Ends (Throw code.NoDefault))
none_of_union = (60, refl)

none_of_object : Results nothing_defined ObjectType [] (Ends (Throw code.NoDefault))
none_of_object = (60, refl)
