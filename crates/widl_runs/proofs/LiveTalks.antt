-- For proofs alone. Conversations hold live references alone, where their tasks and all answers do.
use Rattle.std.proofs.Common.{refl, ℕ, zero, suc, ℤ, ◌^◌, Bool, true, false, List, [], ◌∷◌, ◌++◌, Option, Some, None, length, arith, if◌then◌else◌}
use Rattle.std.proofs.lemmas.Bool.{cond_both}
use Rattle.std.specs.Prelude.{◌&&◌, All, IfSome, bytes_eq, codes, decimal, nat_abs, nat_eq, nat_le, nat_lt, slice_get, take}
use Rattle.std.specs.Option.{option_and_then, option_map_or}
use Rattle.std.specs.declared.result.Result.{Result}
use Rattle.std.specs.declared.result.Result.TheVariants as results
use Rattle.widl_dialog.specs.Dialog.{End, Say, Steps, bind}
use Rattle.widl_text.specs.declared.key.Key.{Key}
use Rattle.widl_text.specs.declared.key.Key.TheVariants as keys
use Rattle.widl_idl.specs.declared.callee.Callee.{Callee}
use Rattle.widl_idl.specs.declared.callee.Owner.{Owner}
use Rattle.widl_idl.specs.declared.callee.Owner.TheVariants as owners
use Rattle.widl_idl.specs.declared.literal.Literal.{Literal}
use Rattle.widl_idl.specs.declared.literal.Literal.TheVariants as literals
use Rattle.widl_idl.specs.declared.text_kind.TextKind.{TextKind}
use Rattle.widl_idl.specs.declared.text_kind.TextKind.TheVariants as texts
use Rattle.widl_idl.specs.DefinitionTerms.{ArgTerm, DefsTerm}
use Rattle.widl_idl.specs.Flattened.{flattened_member, flattened_members, includes_nullable_type}
use Rattle.widl_idl.specs.Terms.{AnyType, BooleanType, CallbackFunctionType, CallbackInterfaceType, DictionaryType, EnumerationType, IntegerType, InterfaceType, NullableType, ObjectType, PromiseType, RecordType, SequenceType, StringType, TypeTerm, TypeTerms, UndefinedType, UnionType}
use Rattle.widl_overload.specs.sets.Entries.{declared_args, optionality_at, type_at}
use Rattle.widl_overload.specs.sets.Sets.{TupleTerm, is_variadic}
use Rattle.widl_value.specs.Classes.{class_of}
use Rattle.widl_value.specs.declared.object.ObjRef.{ObjRef}
use Rattle.widl_value.specs.declared.value.Value.{Value}
use Rattle.widl_value.specs.declared.value.Value.TheVariants as values
use Rattle.widl_value.specs.IdlTerms.{UndefinedValue, NullValue, MissingValue, BooleanValue, IntegerValue, StringValue, EnumerationValue, ObjectValue, AnyValue, SequenceValue, RecordValue, DictionaryValue, PromiseValue, IdlTerm, IdlTerms, EntryTerms, MemberTerms, more_entries, more_members, more_values, no_entries, no_members, no_values, packed_entries, packed_members, packed_values}
use Rattle.widl_scalar.specs.declared.int.NotInRange.{NotInRange}
use Rattle.widl_scalar.specs.declared.primitives.ValueNumber.{ValueNumber}
use Rattle.widl_scalar.specs.declared.primitives.ValueNumber.TheVariants as read
use Rattle.widl_scalar.specs.declared.primitives.ValueText.{ValueText}
use Rattle.widl_scalar.specs.declared.primitives.ValueText.TheVariants as written
use Rattle.widl_scalar.specs.Enumerations.{value_place}
use Rattle.widl_scalar.specs.Primitives.{length_of, number_in, text_in, truth_of}
use Rattle.widl_scalar.specs.Scalars.{integer_of}
use Rattle.widl_store.specs.declared.inner.Builtin.{Builtin}
use Rattle.widl_store.specs.declared.inner.Builtin.TheVariants as builtins
use Rattle.widl_store.specs.declared.inner.Turn.{Turn}
use Rattle.widl_store.specs.declared.inner.Turn.TheVariants.{Idle, Running, Ended}
use Rattle.widl_store.specs.Objects.{IsLive, Obj}
use Rattle.widl_script_tree.specs.declared.steps.Source.{Source}
use Rattle.widl_script_tree.specs.declared.steps.Source.TheVariants as sources
use Rattle.widl_script_tree.specs.declared.steps.StepLine.{StepLine}
use Rattle.widl_script_tree.specs.declared.steps.StepLine.TheVariants as step_lines
use Rattle.widl_tables.specs.declared.pick.Pick.{Pick}
use Rattle.widl_tables.specs.declared.pick.Pick.TheVariants.{Entry, Probe, Refuse}
use Rattle.widl_tables.specs.Kept.{argcount_of, entry_alone, kept_tuples}
use Rattle.widl_tables.specs.Picks.{pick_of, pick_member_of}
use Rattle.widl_tables.specs.Tests.{is_null_or_undefined}
use Rattle.widl_trace.specs.declared.code.Code.TheVariants as code
use Rattle.widl_steps.specs.declared.answer.CursorState.{CursorState}
use Rattle.widl_steps.specs.declared.answer.CursorState.TheVariants as cursors
use Rattle.widl_steps.specs.declared.hint.Hint.{Hint}
use Rattle.widl_steps.specs.declared.hint.Hint.TheVariants.{PrefersNumber, PrefersString}
use Rattle.widl_steps.specs.declared.want.Want.{Want}
use Rattle.widl_steps.specs.declared.want.Want.TheVariants as wants
use Rattle.widl_steps.specs.AskTerms.{GetAsk, CallAsk, AnswerTerm, BeginAnswer, DoneAnswer, NormalAnswer, ThrownAnswer, KeysAnswer, OwnAnswer, SightAnswer}
use Rattle.widl_steps.specs.Built.{built_today, is_built_type}
use Rattle.widl_steps.specs.Defaults.{default, defaults_from, enumeration_among, literal_value, null_of, value_of_text}
use Rattle.widl_steps.specs.Dictionaries.{member_given, member_value, members, requires_member, to_dictionary, undefined_member, with_value}
use Rattle.widl_tables.specs.MemberOrder.{DeclaredMember}
use Rattle.widl_steps.specs.Nullables.{to_nullable}
use Rattle.widl_steps.specs.Primitives.{call_method, found_method, found_ordinary, object_to_primitive, ordinary, primitive_result, to_primitive, tried, try_method}
use Rattle.widl_steps.specs.Records.{entries, entry_value, flags_in, is_enumerable, key_value, named, named_entry, own_entry, to_record, with_entry}
use Rattle.widl_steps.specs.Resolution.{argument, arguments, by_entry, by_pick, default_at, from_method, kept, sequence_given, takes_default, with_entries}
use Rattle.widl_steps.specs.Results.{entry_items, member_items, out, out_items, out_units, properties}
use Rattle.widl_steps.specs.Rules.{rule as task_rule}
use Rattle.widl_steps.specs.Scalars.{convert, convert_plain, enumeration_result, integer_result, is_bytes, null_or_string, string_result, to_number, to_scalar, to_plain, to_string, to_text, to_type}
use Rattle.widl_steps.specs.Sequences.{element, element_of, element_within, found_iterator_method, sequence_from, to_sequence, told_done, turn_given, turns, with_next}
use Rattle.widl_steps.specs.Tasks.{Task, Primitive, Scalar, Convert, SequenceFrom, Turns, Entries, Members, Resolve, Arguments, Default, Defaults, Out, OutItems, OutUnits, Container, ArrayOf, ObjectOf, TaskEnd, Gives, Plain, Picks, Throw, Rethrow, Profile, Talk as TaskTalk}
use Rattle.widl_steps.specs.Unions.{member_from, member_picked, member_probed, to_member, to_union, without_iterator}
use Rattle.widl_steps.specs.Words.{fails, gives, normal, not_built, number, returns, text}
use Rattle.widl_steps.specs.ArrayFunctions.{array_iterator_next, array_values, by_cursor, by_turn, cursor_in, element_read, ends_iterator, given_in_turn, iterator_result, length_read, read_in_turn, with_length}
use Rattle.widl_steps.specs.BuiltCalls.{calls_built_today, is_built_function}
use Rattle.widl_steps.specs.CallRules.{call_rule, function, intrinsic}
use Rattle.widl_steps.specs.CallTasks.{CallTalk, CallTask, Of, Function}
use Rattle.widl_steps.specs.DefaultResults.{default_result}
use Rattle.widl_steps.specs.ObjectFunctions.{by_kind, joined, kind_in, kind_tag, most_joined_units, object_to_string, object_value_of, with_tag}
use Rattle.widl_steps.specs.Operations.{StepsOf, chosen, owned_operation, result_type, returns_promise, steps_of}
use Rattle.widl_steps.specs.StepLines.{argument_value, line, lines, return_line}
use Rattle.widl_runs.specs.Fitting.{ThrowsPlain}
use Rattle.widl_runs.specs.Actions.{data_properties}
use Rattle.widl_runs.proofs.LiveParts.{LiveValue, LiveValues, LiveTerm, LiveTerms, LiveEntries, LiveMembers, LivePart, LiveTermList, LiveTaskEnd, LiveAnswer, LiveCursor, LiveProps, live_cursor_in}
use Rattle.widl_runs.proofs.LiveJobs.{LiveMade, LiveRecord, LiveTask, LiveCall, live_append, live_plain}
use Rattle.widl_runs.proofs.LiveStores.{live_items}
use Rattle.widl_runs.proofs.SafeTalks.{SafeTalk, safe_rename, safe_normal, safe_object, safe_object_or, safe_callable_or, safe_method_or, safe_given, safe_returned, safe_number, safe_text, safe_if}

-- 1. Conversions

module _ (list : DefsTerm) (objects : List Obj) where
  abbrev Conv : TaskTalk → Type 0
  Conv d = SafeTalk objects (LiveTask objects) d

  abbrev LiveT : Task → Type 0
  LiveT t = LiveTask objects t

  abbrev Alive : Value → Type 0
  Alive v = LiveValue objects v

  more_terms : (ws : List IdlTerm) (w : IdlTerm) → LiveTermList objects ws → LiveTerm objects w → LiveTermList objects (ws ++ w ∷ [])
  more_terms [] w ls l = (l, tt)
  more_terms (x ∷ ws) w ls l = (ls.0, more_terms ws w ls.1 l)

  live_packed : (ws : List IdlTerm) → LiveTermList objects ws → LiveTerms objects (packed_values ws)
  live_packed [] l = tt
  live_packed (w ∷ ws) l = (l.0, live_packed ws l.1)

  live_take : (n : ℕ) (vs : List Value) → LiveValues objects vs → LiveValues objects (take n vs)
  live_take zero vs ls = tt
  live_take (suc n) [] ls = tt
  live_take (suc n) (v ∷ vs) ls = (ls.0, live_take n vs ls.1)

  -- scalars

  safe_tried : (other : TaskTalk) → Conv other → (v : Value) → Alive v → Conv (tried other v)
  safe_tried other x = safe_object_or objects LiveT (returns {Job = Task}) (λ o. other) (λ v l. l) (λ o l. x)

  safe_found_ordinary : (o : ObjRef) (other : TaskTalk) → IsLive objects o → Conv other → (v : Value) → Alive v → Conv (found_ordinary o other v)
  safe_found_ordinary o other l x =
      safe_callable_or objects LiveT other (λ f. Say (CallAsk f (values.Obj o) []) (normal (tried other))) x (λ f lf. ((lf, l, tt, omega arith), safe_normal objects LiveT (tried other) (safe_tried other x)))

  safe_method : (o : ObjRef) (name : List ℕ) (other : TaskTalk) → IsLive objects o → Conv other → Conv (try_method o name other)
  safe_method o name other l x = (l, safe_normal objects LiveT (found_ordinary o other) (safe_found_ordinary o other l x))

  safe_ordinary : (hint : Hint) (o : ObjRef) → IsLive objects o → Conv (ordinary hint o)
  safe_ordinary PrefersNumber o l = safe_method o (codes "valueOf") (try_method o (codes "toString") (fails code.Primitive)) l (safe_method o (codes "toString") (fails code.Primitive) l tt)
  safe_ordinary PrefersString o l = safe_method o (codes "toString") (try_method o (codes "valueOf") (fails code.Primitive)) l (safe_method o (codes "valueOf") (fails code.Primitive) l tt)

  safe_result : (v : Value) → Alive v → Conv (primitive_result v)
  safe_result = safe_object_or objects LiveT (returns {Job = Task}) (λ o. fails code.Primitive) (λ v l. l) (λ o l. tt)

  safe_found_method : (hint : Hint) (o : ObjRef) → IsLive objects o → (v : Value) → Alive v → Conv (found_method hint o v)
  safe_found_method hint o l = safe_method_or objects LiveT (ordinary hint o) (call_method hint o) (safe_ordinary hint o l) (λ f lf. ((lf, l, (tt, tt), omega arith), safe_normal objects LiveT primitive_result safe_result))

  safe_primitive : (hint : Hint) (v : Value) → Alive v → Conv (to_primitive hint v)
  safe_primitive hint = safe_object_or objects LiveT (returns {Job = Task}) (object_to_primitive hint) (λ v l. l) (λ o l. (l, safe_normal objects LiveT (found_method hint o) (safe_found_method hint o l)))

  safe_to_number : (v : Value) (n : ValueNumber) → Alive v → Conv (to_number v n)
  safe_to_number v (read.Number n) l = tt
  safe_to_number v read.OutOfProfile l = tt
  safe_to_number v read.Symbol l = tt
  safe_to_number v read.Object l = (l, λ r lr. safe_returned objects LiveT _ (λ x lx. (lx, λ s ls. ls)) r lr)

  safe_to_text : (v : Value) (t : ValueText) → Alive v → Conv (to_text v t)
  safe_to_text v (written.Text units) l = tt
  safe_to_text v written.Symbol l = tt
  safe_to_text v written.Object l = (l, λ r lr. safe_returned objects LiveT _ (λ x lx. (lx, λ s ls. ls)) r lr)

  safe_scalar : (want : Want) (v : Value) → Alive v → Conv (to_scalar want v)
  safe_scalar wants.Number v l = safe_to_number v (number_in v) l
  safe_scalar wants.Text v l = safe_to_text v (text_in v) l
  safe_scalar wants.Length v l = (l, λ r lr. safe_number objects LiveT _ (λ x. tt) r lr)

  safe_integer : (r : Result ℤ NotInRange) → Conv (integer_result r)
  safe_integer (results.Ok n) = tt
  safe_integer (results.Err e) = tt

  safe_units : (kind : TextKind) (units : List ℕ) → Conv (string_result kind units)
  safe_units texts.Dom units = tt
  safe_units texts.Usv units = tt
  safe_units texts.Byte units = safe_if objects LiveT (is_bytes units) _ _ tt tt

  safe_string : (kind : TextKind) (v : Value) → Alive v → Conv (to_string kind v)
  safe_string kind v l = (l, λ r lr. safe_text objects LiveT _ (safe_units kind) r lr)

  safe_null_or : (null_empty : Bool) (kind : TextKind) (v : Value) → Alive v → Conv (null_or_string null_empty kind v)
  safe_null_or null_empty kind values.Undefined l = safe_string kind values.Undefined l
  safe_null_or null_empty kind values.Null l = safe_if objects LiveT null_empty _ _ tt (safe_string kind values.Null tt)
  safe_null_or null_empty kind (values.Bool b) l = safe_string kind (values.Bool b) l
  safe_null_or null_empty kind (values.Num x) l = safe_string kind (values.Num x) l
  safe_null_or null_empty kind (values.Str units) l = safe_string kind (values.Str units) l
  safe_null_or null_empty kind (values.Sym id) l = safe_string kind (values.Sym id) l
  safe_null_or null_empty kind (values.Obj o) l = safe_string kind (values.Obj o) l

  safe_enumeration : (n : ℕ) (place : Option ℕ) → Conv (enumeration_result n place)
  safe_enumeration n None = tt
  safe_enumeration n (Some place) = tt

  -- sequences, records and dictionaries begin with one ask of an object

  safe_found : (t : TypeTerm) (o : ObjRef) → IsLive objects o → (v : Value) → Alive v → Conv (found_iterator_method t o v)
  safe_found t o l = safe_method_or objects LiveT _ _ tt (λ method lm. ((l, lm), λ r lr. lr))

  safe_to_sequence : (t : TypeTerm) (v : Value) → Alive v → Conv (to_sequence t v)
  safe_to_sequence t = safe_object objects LiveT _ _ (λ o lo. (lo, λ a la. safe_normal objects LiveT (found_iterator_method t o) (safe_found t o lo) a la))

  safe_to_record : (kind : TextKind) (t : TypeTerm) (v : Value) → Alive v → Conv (to_record kind t v)
  safe_to_record kind t = safe_object objects LiveT _ _ (λ o lo. (lo, λ a la. ((lo, tt), λ r lr. lr)))

  safe_to_dictionary : (n : ℕ) (v : Value) → Alive v → Conv (to_dictionary list n v)
  safe_to_dictionary n values.Undefined l = ((tt, tt), λ r lr. lr)
  safe_to_dictionary n values.Null l = ((tt, tt), λ r lr. lr)
  safe_to_dictionary n (values.Bool b) l = tt
  safe_to_dictionary n (values.Num x) l = tt
  safe_to_dictionary n (values.Str units) l = tt
  safe_to_dictionary n (values.Sym id) l = tt
  safe_to_dictionary n (values.Obj o) l = ((l, tt), λ r lr. lr)

  -- a type that is neither nullable nor a union
  safe_plain : (t : TypeTerm) (v : Value) → Alive v → Conv (to_plain list t v)
  safe_plain AnyType v l = l
  safe_plain UndefinedType v l = tt
  safe_plain BooleanType v l = tt
  safe_plain (IntegerType kind mode) v l = (l, λ r lr. safe_number objects LiveT _ (λ x. safe_integer (integer_of x kind mode)) r lr)
  safe_plain (StringType kind null_empty) v l = safe_null_or null_empty kind v l
  safe_plain (EnumerationType n) v l = (l, λ r lr. safe_text objects LiveT _ (λ units. safe_enumeration n (value_place list.choices n units)) r lr)
  safe_plain (InterfaceType n) v l = tt
  safe_plain (CallbackFunctionType n) v l = tt
  safe_plain (CallbackInterfaceType n) v l = tt
  safe_plain (DictionaryType n) v l = safe_to_dictionary n v l
  safe_plain ObjectType v l = safe_object objects LiveT _ _ (λ o x. x) v l
  safe_plain (SequenceType t) v l = safe_to_sequence t v l
  safe_plain (RecordType key t) v l = safe_to_record key t v l
  safe_plain (PromiseType t) v l = tt
  safe_plain (NullableType t) v l = tt
  safe_plain (UnionType ts) v l = tt

  safe_if_built : (t : TypeTerm) (d : TaskTalk) → Conv d → Conv (if is_built_type t then d else not_built)
  safe_if_built t d x = safe_if objects LiveT (is_built_type t) d not_built x tt

  safe_member_of : (t : Option TypeTerm) (v : Value) → Alive v → Conv (to_member (convert_plain built_today list) t v)
  safe_member_of None v l = tt
  safe_member_of (Some t) v l = safe_if_built t (to_plain list t v) (safe_plain t v l)

  safe_without_iterator : (ts : TypeTerms) (v : Value) (pick : Pick) → Alive v → Conv (without_iterator (convert_plain built_today list) ts v pick)
  safe_without_iterator ts v (Entry place) l = safe_member_of (slice_get (flattened_members ts) place) v l
  safe_without_iterator ts v (Probe place) l = tt
  safe_without_iterator ts v Refuse l = tt

  safe_member_from : (o method : ObjRef) (t : Option TypeTerm) → IsLive objects o → IsLive objects method → Conv (member_from o method t)
  safe_member_from o method None l lm = tt
  safe_member_from o method (Some t) l lm = ((l, lm), λ r lr. lr)

  safe_member_probed : (ts : TypeTerms) (place : ℕ) (o : ObjRef) → IsLive objects o → (v : Value) → Alive v → Conv (member_probed (convert_plain built_today list) built_today list ts place o v)
  safe_member_probed ts place o l =
      safe_method_or objects LiveT _ _ (safe_without_iterator ts (values.Obj o) (pick_member_of list ts (class_of (values.Obj o)) true) l)
      (λ method lm. safe_member_from o method (option_and_then element_of (slice_get (flattened_members ts) place)) l lm)

  safe_member_picked : (ts : TypeTerms) (v : Value) (pick : Pick) → Alive v → Conv (member_picked (convert_plain built_today list) built_today list ts v pick)
  safe_member_picked ts v (Entry place) l = safe_member_of (slice_get (flattened_members ts) place) v l
  safe_member_picked ts v (Probe place) l = safe_object objects LiveT _ _ (λ o lo. (lo, λ a la. safe_normal objects LiveT _ (safe_member_probed ts place o lo) a la)) v l
  safe_member_picked ts v Refuse l = tt

  safe_union : (ts : TypeTerms) (v : Value) → Alive v → Conv (to_union (convert_plain built_today list) built_today list ts v)
  safe_union ts v l = safe_if objects LiveT (includes_nullable_type (UnionType ts) && is_null_or_undefined (class_of v)) _ _ tt (safe_member_picked ts v (pick_member_of list ts (class_of v) false) l)

  safe_nullable : (inner : Value → TaskTalk) → ((v : Value) → Alive v → Conv (inner v)) → (v : Value) → Alive v → Conv (to_nullable inner v)
  safe_nullable inner each values.Undefined l = tt
  safe_nullable inner each values.Null l = tt
  safe_nullable inner each (values.Bool b) l = each (values.Bool b) l
  safe_nullable inner each (values.Num x) l = each (values.Num x) l
  safe_nullable inner each (values.Str units) l = each (values.Str units) l
  safe_nullable inner each (values.Sym id) l = each (values.Sym id) l
  safe_nullable inner each (values.Obj o) l = each (values.Obj o) l

  safe_type : (t : TypeTerm) (v : Value) → Alive v → Conv (to_type built_today list t v)
  safe_type AnyType v l = safe_plain AnyType v l
  safe_type UndefinedType v l = safe_plain UndefinedType v l
  safe_type BooleanType v l = safe_plain BooleanType v l
  safe_type (IntegerType kind mode) v l = safe_plain (IntegerType kind mode) v l
  safe_type (StringType kind null_empty) v l = safe_plain (StringType kind null_empty) v l
  safe_type (EnumerationType n) v l = safe_plain (EnumerationType n) v l
  safe_type (InterfaceType n) v l = safe_plain (InterfaceType n) v l
  safe_type (CallbackFunctionType n) v l = safe_plain (CallbackFunctionType n) v l
  safe_type (CallbackInterfaceType n) v l = safe_plain (CallbackInterfaceType n) v l
  safe_type (DictionaryType n) v l = safe_plain (DictionaryType n) v l
  safe_type ObjectType v l = safe_plain ObjectType v l
  safe_type (SequenceType t) v l = safe_plain (SequenceType t) v l
  safe_type (RecordType key t) v l = safe_plain (RecordType key t) v l
  safe_type (PromiseType t) v l = safe_plain (PromiseType t) v l
  safe_type (NullableType t) v l = safe_nullable (to_type built_today list t) (safe_type t) v l
  safe_type (UnionType ts) v l = safe_union ts v l

  safe_convert : (t : TypeTerm) (v : Value) → Alive v → Conv (convert built_today list t v)
  safe_convert t v l = safe_if_built t (to_type built_today list t v) (safe_type t v l)

  -- sequences and records

  safe_next : (t : TypeTerm) (iterator : ObjRef) → IsLive objects iterator → (v : Value) → Alive v → Conv (with_next t iterator v)
  safe_next t iterator l = safe_callable_or objects LiveT _ _ tt (λ next ln. ((l, ln, tt), λ r lr. lr))

  safe_sequence_from : (t : TypeTerm) (o method : ObjRef) → IsLive objects o → IsLive objects method → Conv (sequence_from t o method)
  safe_sequence_from t o method l lm =
      ((lm, l, tt, omega arith), λ a la. safe_normal objects LiveT _ (safe_object objects LiveT _ _ (λ iterator li. (li, λ b lb. safe_normal objects LiveT _ (safe_next t iterator li) b lb))) a la)

  safe_element : (t : TypeTerm) (iterator next : ObjRef) (made : List IdlTerm) → IsLive objects iterator → IsLive objects next → LiveTermList objects made → (v : Value) → Alive v → Conv (element t iterator next made v)
  safe_element t iterator next made li ln lm v l = (l, λ r lr. safe_given objects LiveT _ (λ w lw. ((li, ln, more_terms made w lm lw), λ s ls. ls)) r lr)

  -- of one turn: the object that it gave, and whether the iterator is done
  module _ (t : TypeTerm) (iterator next : ObjRef) (made : List IdlTerm) (li : IsLive objects iterator) (ln : IsLive objects next) (lm : LiveTermList objects made) where
    safe_told : (turn : ObjRef) → IsLive objects turn → (v : Value) → Alive v → Conv (told_done t iterator next made turn v)
    safe_told turn lt v lv =
        safe_if objects LiveT (truth_of v) (gives (SequenceValue (packed_values made))) (Say (GetAsk turn (keys.Name (codes "value"))) (normal (element t iterator next made))) (live_packed made lm)
        (lt, safe_normal objects LiveT (element t iterator next made) (safe_element t iterator next made li ln lm))

    safe_turn_given : (v : Value) → Alive v → Conv (turn_given t iterator next made v)
    safe_turn_given =
        safe_object objects LiveT code.Result (λ turn. Say (GetAsk turn (keys.Name (codes "done"))) (normal (told_done t iterator next made turn))) (λ turn lt. (lt, safe_normal objects LiveT (told_done t iterator next made turn) (safe_told turn lt)))

    safe_turns : Conv (turns t iterator next made)
    safe_turns = ((ln, li, tt, omega arith), safe_normal objects LiveT (turn_given t iterator next made) safe_turn_given)

  live_entry : (name : List ℕ) (w : IdlTerm) (es : List (List ℕ × IdlTerm)) → LiveTerm objects w → LiveRecord objects es → LiveRecord objects (with_entry name w es)
  live_entry name w [] l ls = (l, tt)
  live_entry name w (e ∷ es) l ls = cond_both (bytes_eq name e.0) ((name, w) ∷ es) (e ∷ with_entry name w es) (LiveRecord objects) (λ i. (l, ls.1)) (λ i. (ls.0, live_entry name w es l ls.1))

  live_record : (es : List (List ℕ × IdlTerm)) → LiveRecord objects es → LiveEntries objects (packed_entries es)
  live_record [] l = tt
  live_record (e ∷ es) l = (l.0, live_record es l.1)

  live_key : (key : Key) → Alive (key_value key)
  live_key (keys.Name name) = tt
  live_key (keys.Sym n) = tt

  safe_named : (k : List ℕ → TaskTalk) → ((name : List ℕ) → Conv (k name)) → (r : TaskEnd) → LiveTaskEnd objects r → Conv (named k r)
  safe_named k each (Gives UndefinedValue) l = l
  safe_named k each (Gives NullValue) l = l
  safe_named k each (Gives MissingValue) l = l
  safe_named k each (Gives (BooleanValue b)) l = l
  safe_named k each (Gives (IntegerValue n)) l = l
  safe_named k each (Gives (StringValue name)) l = each name
  safe_named k each (Gives (EnumerationValue n place)) l = l
  safe_named k each (Gives (ObjectValue o)) l = l
  safe_named k each (Gives (AnyValue v)) l = l
  safe_named k each (Gives (SequenceValue ws)) l = l
  safe_named k each (Gives (RecordValue es)) l = l
  safe_named k each (Gives (DictionaryValue n ms)) l = l
  safe_named k each (Gives (PromiseValue o)) l = l
  safe_named k each (Plain v) l = l
  safe_named k each (Picks overload ws) l = l
  safe_named k each (Throw why) l = l
  safe_named k each (Rethrow v) l = l
  safe_named k each (Profile end) l = l

  -- an entry of a record
  module _ (kind : TextKind) (t : TypeTerm) (o : ObjRef) (key : Key) (left : List Key) (made : List (List ℕ × IdlTerm)) (l : IsLive objects o) (ls : LiveRecord objects made) where
    safe_entry_value : (name : List ℕ) (v : Value) → Alive v → Conv (entry_value kind t o left made name v)
    safe_entry_value name v lv = (lv, safe_given objects LiveT (λ w. Steps (Entries kind t o left (with_entry name w made)) End) (λ w lw. ((l, live_entry name w made lw ls), λ u lu. lu)))

    safe_own_entry : (a : AnswerTerm) → Conv (own_entry kind t o key left made a)
    safe_own_entry a =
        safe_if objects LiveT (is_enumerable (flags_in a)) (Steps (Convert (StringType kind false) (key_value key)) (named_entry kind t o key left made)) (Steps (Entries kind t o left made) End)
        (live_key key, safe_named (λ name. Say (GetAsk o key) (normal (entry_value kind t o left made name))) (λ name. (l, safe_normal objects LiveT (entry_value kind t o left made name) (safe_entry_value name))))
        ((l, ls), λ r lr. lr)

  safe_entries : (kind : TextKind) (t : TypeTerm) (o : ObjRef) (left : List Key) (made : List (List ℕ × IdlTerm)) → IsLive objects o → LiveRecord objects made → Conv (entries kind t o left made)
  safe_entries kind t o [] made l ls = live_record made ls
  safe_entries kind t o (key ∷ left) made l ls = (l, λ a la. safe_own_entry kind t o key left made l ls a)

  -- dictionaries

  more_made : (made : List (ℕ × ℕ × IdlTerm)) (m : DeclaredMember) (w : IdlTerm) → LiveMade objects made → LiveTerm objects w → LiveMade objects (with_value m w made)
  more_made [] m w ls l = (l, tt)
  more_made (e ∷ made) m w ls l = (ls.0, more_made made m w ls.1 l)

  live_members : (made : List (ℕ × ℕ × IdlTerm)) → LiveMade objects made → LiveMembers objects (packed_members made)
  live_members [] l = tt
  live_members (e ∷ made) l = (l.0, live_members made l.1)

  -- a member
  module _ (n : ℕ) (o : Option ObjRef) (m : DeclaredMember) (left : List DeclaredMember) (made : List (ℕ × ℕ × IdlTerm)) (l : LivePart objects o) (ls : LiveMade objects made) where
    safe_member_given : (r : TaskEnd) → LiveTaskEnd objects r → Conv (member_given n o m left made r)
    safe_member_given = safe_given objects LiveT (λ w. Steps (Members n o left (with_value m w made)) End) (λ w lw. ((l, more_made made m w ls lw), λ r lr. lr))

    safe_undefined_member : (x : Option Literal) → Conv (undefined_member n o m left made x)
    safe_undefined_member (Some x) = (tt, safe_member_given)
    safe_undefined_member None = safe_if objects LiveT m.member.needed (fails code.Required) (Steps (Members n o left made) End) tt ((l, ls), λ r lr. lr)

    safe_member_value : (v : Value) → Alive v → Conv (member_value n o m left made v)
    safe_member_value values.Undefined lv = safe_undefined_member m.member.value
    safe_member_value values.Null lv = (lv, safe_member_given)
    safe_member_value (values.Bool b) lv = (lv, safe_member_given)
    safe_member_value (values.Num x) lv = (lv, safe_member_given)
    safe_member_value (values.Str units) lv = (lv, safe_member_given)
    safe_member_value (values.Sym id) lv = (lv, safe_member_given)
    safe_member_value (values.Obj x) lv = (lv, safe_member_given)

  safe_members : (n : ℕ) (o : Option ObjRef) (left : List DeclaredMember) (made : List (ℕ × ℕ × IdlTerm)) → LivePart objects o → LiveMade objects made → Conv (members n o left made)
  safe_members n o [] made l ls = live_members made ls
  safe_members n None (m ∷ left) made l ls = (tt, λ a la. safe_member_value n None m left made l ls values.Undefined tt)
  safe_members n (Some o) (m ∷ left) made l ls = (l, safe_normal objects LiveT (member_value n (Some o) m left made) (safe_member_value n (Some o) m left made l ls))

  -- to script

  safe_items : (container : Container) (left : IdlTerms) (made : List Value) → LiveTerms objects left → LiveValues objects made → Conv (out_items container left made)
  safe_items container no_values made l ls = (ls, λ r lr. lr)
  safe_items container (more_values w left) made l ls = (l.0, λ r lr. safe_returned objects LiveT _ (λ v lv. ((l.1, live_append objects made v ls lv), λ s x. x)) r lr)

  live_properties : (names : List (List ℕ)) (made : List Value) → LiveValues objects made → LiveProps objects (data_properties (properties names made))
  live_properties [] made l = tt
  live_properties (name ∷ names) [] l = tt
  live_properties (name ∷ names) (v ∷ made) l = (l.0, live_properties names made l.1)

  safe_container : (container : Container) (made : List Value) → LiveValues objects made → Conv (out_units 0 container made)
  safe_container ArrayOf made l = (record { other = refl; items = (tt, live_items objects 0 made l) }, safe_normal objects LiveT (returns {Job = Task}) (λ v lv. lv))
  safe_container (ObjectOf names) made l = (record { other = refl; items = (tt, live_properties names made l) }, safe_normal objects LiveT (returns {Job = Task}) (λ v lv. lv))

  safe_out_units : (left : ℕ) (container : Container) (made : List Value) → LiveValues objects made → Conv (out_units left container made)
  safe_out_units zero container made l = safe_container container made l
  safe_out_units (suc left) container made l = (tt, λ a la. (l, λ r lr. lr))

  live_entry_items : (entries : EntryTerms) → LiveEntries objects entries → LiveTerms objects (entry_items entries)
  live_entry_items no_entries l = tt
  live_entry_items (more_entries name w entries) l = (l.0, live_entry_items entries l.1)

  live_member_items : (members : MemberTerms) → LiveMembers objects members → LiveTerms objects (member_items members)
  live_member_items no_members l = tt
  live_member_items (more_members dictionary number w members) l = (l.0, live_member_items members l.1)

  safe_out : (t : TypeTerm) (w : IdlTerm) → LiveTerm objects w → Conv (out built_today list t w)
  safe_out t UndefinedValue l = tt
  safe_out t NullValue l = tt
  safe_out t MissingValue l = tt
  safe_out t (BooleanValue b) l = tt
  safe_out t (IntegerValue n) l = safe_if objects LiveT (nat_le (nat_abs n) (2 ^ 64)) _ _ tt tt
  safe_out t (StringValue units) l = tt
  safe_out t (EnumerationValue n place) l = tt
  safe_out t (ObjectValue o) l = l
  safe_out t (AnyValue v) l = l
  safe_out t (SequenceValue items) l = ((l, tt), λ r lr. lr)
  safe_out t (RecordValue es) l = ((live_entry_items es l, tt), λ r lr. lr)
  safe_out t (DictionaryValue n ms) l = ((live_member_items ms l, tt), λ r lr. lr)
  safe_out t (PromiseValue o) l = tt

  -- defaults

  live_null : (t : TypeTerm) → LiveTerm objects (null_of t)
  live_null AnyType = tt
  live_null _ = tt

  live_text : (n : Option ℕ) (units : List ℕ) → LiveTerm objects (option_map_or (λ (m : ℕ). value_of_text list m units) n (StringValue units))
  live_text None units = tt
  live_text (Some n) units = tt

  safe_literal : (t : TypeTerm) (x : Literal) → Conv (literal_value list t x)
  safe_literal t literals.Null = live_null t
  safe_literal t literals.Undefined = tt
  safe_literal t (literals.Bool b) = tt
  safe_literal t (literals.Int n) = tt
  safe_literal t (literals.Text units) = live_text (enumeration_among (flattened_member t)) units
  safe_literal t literals.EmptyList = tt
  safe_literal t literals.EmptyDict = (tt, λ r lr. lr)

  safe_default : (t : TypeTerm) (x : Option Literal) → Conv (default list t x)
  safe_default t None = tt
  safe_default t (Some x) = safe_literal t x

  safe_defaults_from : (callee : Callee) (overload : ℕ) (made : List IdlTerm) (a : Option ArgTerm) → LiveTermList objects made → Conv (defaults_from callee overload made a)
  safe_defaults_from callee overload made None l = l
  safe_defaults_from callee overload made (Some a) l = safe_if objects LiveT (is_variadic a.opt) _ _ l (tt, λ r lr. safe_given objects LiveT _ (λ w lw. (more_terms made w l lw, λ s ls. ls)) r lr)

  -- arguments

  live_task_for : (b : Bool) (t : TypeTerm) (x : Option Literal) (v : Value) → Alive v → LiveTask objects (if b then Default t x else Convert t v)
  live_task_for true t x v l = tt
  live_task_for false t x v l = l

  safe_argument : (callee : Callee) (place : ℕ) (left : List Value) (made : List IdlTerm) → LiveValues objects left → LiveTermList objects made → (v : Value) → Alive v → (es : List TupleTerm) → Conv (argument list callee place left made v es)
  safe_argument callee place left made ls lm v l [] = tt
  safe_argument callee place left made ls lm v l (entry ∷ more) =
      (live_task_for (takes_default (optionality_at entry (length made)) v) (type_at entry (length made)) (default_at list callee entry.overload (length made)) v l, λ r lr. safe_given objects LiveT _ (λ w lw. ((ls, more_terms made w lm lw), λ s lS. lS)) r lr)

  safe_sequence_given : (callee : Callee) (place : ℕ) (left : List Value) (made : List IdlTerm) → LiveValues objects left → LiveTermList objects made → (es : List TupleTerm) (o f : ObjRef) → IsLive objects o → IsLive objects f → (t : Option TypeTerm) → Conv (sequence_given list callee place left made es o f t)
  safe_sequence_given callee place left made ls lm es o f l lf None = tt
  safe_sequence_given callee place left made ls lm es o f l lf (Some t) = ((l, lf), λ r lr. safe_given objects LiveT _ (λ w lw. ((ls, more_terms made w lm lw), λ s lS. lS)) r lr)

  safe_from : (callee : Callee) (place : ℕ) (left : List Value) (made : List IdlTerm) → LiveValues objects left → LiveTermList objects made → (o f : ObjRef) → IsLive objects o → IsLive objects f → (es : List TupleTerm) → Conv (from_method list callee place left made o f es)
  safe_from callee place left made ls lm o f l lf [] = tt
  safe_from callee place left made ls lm o f l lf (entry ∷ more) = safe_sequence_given callee place left made ls lm (entry ∷ more) o f l lf (element_within (type_at entry (length made)))

  -- a value with its method, where there is one
  abbrev LiveFound : Option (ObjRef × ObjRef) → Type 0
  LiveFound None = Unit {0}
  LiveFound (Some found) = IsLive objects found.0 × IsLive objects found.1

  safe_kept : (callee : Callee) (place : ℕ) (left : List Value) (made : List IdlTerm) → LiveValues objects left → LiveTermList objects made → (v : Value) → Alive v → (found : Option (ObjRef × ObjRef)) → LiveFound found → (es : List TupleTerm) → Conv (kept list callee place left made v found es)
  safe_kept callee place left made ls lm v l None lf es = safe_argument callee place left made ls lm v l es
  safe_kept callee place left made ls lm v l (Some found) lf es = safe_from callee place left made ls lm found.0 found.1 lf.0 lf.1 es

  safe_by_entry : (k : List TupleTerm → TaskTalk) → ((es : List TupleTerm) → Conv (k es)) → (es : List TupleTerm) (pick : Pick) → Conv (by_entry k es pick)
  safe_by_entry k all es (Entry e) = all (entry_alone e es)
  safe_by_entry k all es (Probe e) = tt
  safe_by_entry k all es Refuse = tt

  safe_by_pick : (place : ℕ) (v : Value) → Alive v → (k : Option (ObjRef × ObjRef) → List TupleTerm → TaskTalk) → ((found : Option (ObjRef × ObjRef)) → LiveFound found → (es : List TupleTerm) → Conv (k found es)) → (es : List TupleTerm) (pick : Pick) → Conv (by_pick built_today list place v k es pick)
  safe_by_pick place v l k all es (Entry e) = all None tt (entry_alone e es)
  safe_by_pick place v l k all es (Probe e) =
      safe_object objects LiveT _ _ (λ o lo. (
        lo,
        λ a la. safe_normal objects LiveT _
            (safe_method_or objects LiveT _ _ (safe_by_entry (k None) (all None tt) es (pick_of list es place (class_of v) true)) (λ f lf. all (Some (o, f)) (lo, lf) (entry_alone e es))) a la,
      )) v l
  safe_by_pick place v l k all es Refuse = tt

  safe_arguments : (callee : Callee) (es : List TupleTerm) (place : ℕ) (left : List Value) (made : List IdlTerm) → LiveValues objects left → LiveTermList objects made → Conv (arguments built_today list callee es place left made)
  safe_arguments callee [] place left made ls lm = tt
  safe_arguments callee (entry ∷ []) place [] made ls lm = (lm, λ r lr. lr)
  safe_arguments callee (entry ∷ []) place (v ∷ left) made ls lm = safe_argument callee place left made ls.1 lm v ls.0 (entry ∷ [])
  safe_arguments callee (entry ∷ other ∷ more) place [] made ls lm = tt
  safe_arguments callee (entry ∷ other ∷ more) place (v ∷ left) made ls lm =
      let es : List TupleTerm = entry ∷ other ∷ more in
      safe_if objects LiveT (nat_eq (length made) place) _ _
      (safe_by_pick place v ls.0 _ (safe_kept callee place left made ls.1 lm v ls.0) es (pick_of list es place (class_of v) false))
      (safe_argument callee place left made ls.1 lm v ls.0 es)

  safe_entries_of : (callee : Callee) (es : List TupleTerm) (args : List Value) → LiveValues objects args → Conv (with_entries list callee es args)
  safe_entries_of callee [] args l = tt
  safe_entries_of callee (entry ∷ more) args l = ((l, tt), λ r lr. lr)

  safe_task : (t : Task) → LiveTask objects t → Conv (task_rule built_today list t)
  safe_task (Primitive hint v) l = safe_primitive hint v l
  safe_task (Scalar want v) l = safe_scalar want v l
  safe_task (Convert t v) l = safe_convert t v l
  safe_task (SequenceFrom t o method) l = safe_sequence_from t o method l.0 l.1
  safe_task (Turns t iterator next made) l = safe_turns t iterator next made l.0 l.1 l.2
  safe_task (Entries key t o left made) l = safe_entries key t o left made l.0 l.1
  safe_task (Members n o left made) l = safe_members n o left made l.0 l.1
  safe_task (Resolve callee args) l = safe_entries_of callee (kept_tuples list callee (length args)) (take (argcount_of list callee (length args)) args) (live_take (argcount_of list callee (length args)) args l)
  safe_task (Arguments callee es place left made) l = safe_arguments callee es place left made l.0 l.1
  safe_task (Default t x) l = safe_default t x
  safe_task (Defaults callee overload made) l = safe_defaults_from callee overload made (slice_get (declared_args list callee overload) (length made)) l
  safe_task (Out t w) l = safe_out t w l
  safe_task (OutItems container left made) l = safe_items container left made l.0 l.1
  safe_task (OutUnits left container made) l = safe_out_units left container made l

-- 2. Calls

module _ (list : DefsTerm) (steps : StepsOf) (plain : (callee : Callee) (overload : ℕ) → All ThrowsPlain (steps callee overload)) (objects : List Obj) where
  abbrev IsCall : CallTalk → Type 0
  IsCall d = SafeTalk objects (LiveCall objects) d

  abbrev LiveC : CallTask → Type 0
  LiveC t = LiveCall objects t

  -- step lines

  live_slice : (ws : List IdlTerm) (n : ℕ) → LiveTermList objects ws → IfSome (slice_get ws n) (LiveTerm objects)
  live_slice [] n l = tt
  live_slice (w ∷ ws) zero l = l.0
  live_slice (w ∷ ws) (suc n) l = live_slice ws n l.1

  safe_value : (w : Option IdlTerm) → IfSome w (LiveTerm objects) → IsCall (argument_value w)
  safe_value None l = tt
  safe_value (Some UndefinedValue) l = l
  safe_value (Some NullValue) l = l
  safe_value (Some MissingValue) l = l
  safe_value (Some (BooleanValue b)) l = l
  safe_value (Some (IntegerValue n)) l = l
  safe_value (Some (StringValue text)) l = l
  safe_value (Some (EnumerationValue n place)) l = l
  safe_value (Some (ObjectValue o)) l = l
  safe_value (Some (AnyValue v)) l = l
  safe_value (Some (SequenceValue ws)) l = l
  safe_value (Some (RecordValue es)) l = l
  safe_value (Some (DictionaryValue n ms)) l = l
  safe_value (Some (PromiseValue o)) l = l

  safe_return : (t : TypeTerm) (ws : List IdlTerm) (source : Source) → LiveTermList objects ws → IsCall (return_line t ws source)
  safe_return t ws (sources.Arg number) l = safe_value (slice_get ws number) (live_slice ws number l)
  safe_return t ws sources.This l = tt
  safe_return t ws (sources.Slot slot) l = tt
  safe_return t ws (sources.Literal x) l = (tt, λ r lr. lr)

  safe_line : (t : TypeTerm) (ws : List IdlTerm) (x : StepLine) → LiveTermList objects ws → ThrowsPlain x → IsCall (line t ws x)
  safe_line t ws (step_lines.Return source) l throws = safe_return t ws source l
  safe_line t ws (step_lines.ReturnInvoke invoke) l throws = tt
  safe_line t ws (step_lines.SetSlot slot source) l throws = tt
  safe_line t ws (step_lines.Append key v) l throws = tt
  safe_line t ws step_lines.Clear l throws = tt
  safe_line t ws (step_lines.Throw v) l throws = live_plain objects v throws
  safe_line t ws (step_lines.Invoke invoke) l throws = tt

  safe_default_result : (t : TypeTerm) → IsCall (default_result list t)
  safe_default_result AnyType = tt
  safe_default_result UndefinedType = tt
  safe_default_result BooleanType = tt
  safe_default_result (IntegerType kind mode) = tt
  safe_default_result (StringType kind null_empty) = tt
  safe_default_result (EnumerationType n) = tt
  safe_default_result (InterfaceType n) = tt
  safe_default_result (CallbackFunctionType n) = tt
  safe_default_result (CallbackInterfaceType n) = tt
  safe_default_result (DictionaryType n) = safe_if objects LiveC (requires_member list n) (fails code.NoDefault) (Steps (Of (Convert (DictionaryType n) values.Undefined)) End) tt (tt, λ r lr. lr)
  safe_default_result ObjectType = tt
  safe_default_result (SequenceType t) = tt
  safe_default_result (RecordType key t) = tt
  safe_default_result (PromiseType t) = tt
  safe_default_result (NullableType t) = tt
  safe_default_result (UnionType ts) = tt

  safe_lines : (t : TypeTerm) (ws : List IdlTerm) (ls : List StepLine) → LiveTermList objects ws → All ThrowsPlain ls → IsCall (lines list t ws ls)
  safe_lines t ws [] l each = safe_default_result t
  safe_lines t ws (x ∷ more) l each = (tt, λ a la. safe_line t ws x l (each 0 x (omega arith)))

  -- operations

  safe_then : (d : CallTalk) (k : TaskEnd → CallTalk) → IsCall d → ((r : TaskEnd) → LiveTaskEnd objects r → IsCall (k r)) → IsCall (bind d k)
  safe_then (End r) k x all = all r x
  safe_then (Say q f) k x all = (x.0, λ a l. safe_then (f a) k (x.1 a l) all)
  safe_then (Steps j f) k x all = (x.0, λ r l. safe_then (f r) k (x.1 r l) all)

  safe_steps : (callee : Callee) (overload : ℕ) (ws : List IdlTerm) → LiveTermList objects ws → IsCall (steps_of list steps callee overload ws)
  safe_steps callee overload ws l =
      safe_then (lines list (result_type list callee overload) ws (steps callee overload)) _ (safe_lines (result_type list callee overload) ws (steps callee overload) l (plain callee overload))
      (λ r lr. safe_given objects LiveC _ (λ w lw. (lw, λ s ls. ls)) r lr)

  safe_chosen : (callee : Callee) (r : TaskEnd) → LiveTaskEnd objects r → IsCall (chosen list steps callee r)
  safe_chosen callee (Gives w) l = l
  safe_chosen callee (Plain v) l = l
  safe_chosen callee (Picks overload ws) l = (tt, λ a la. safe_steps callee overload ws l)
  safe_chosen callee (Throw why) l = l
  safe_chosen callee (Rethrow v) l = l
  safe_chosen callee (Profile end) l = l

  safe_owned : (callee : Callee) (args : List Value) (owner : Owner) → LiveValues objects args → IsCall (owned_operation list steps callee args owner)
  safe_owned callee args (owners.Space n) l = safe_if objects LiveC (returns_promise list callee) _ _ tt (l, λ r lr. safe_chosen callee r lr)
  safe_owned callee args (owners.Iface n) l = tt

  -- functions of objects, arrays and iterators

  safe_joined : (units : List ℕ) → IsCall (joined units)
  safe_joined units = safe_if objects LiveC (nat_le (length units) most_joined_units) _ _ tt tt

  safe_kind : (a : AnswerTerm) → IsCall (by_kind a)
  safe_kind a = safe_joined (codes "[object " ++ kind_tag (kind_in a) ++ codes "]")

  safe_tag : (o : ObjRef) → IsLive objects o → (v : Value) → LiveValue objects v → IsCall (with_tag o v)
  safe_tag o lo values.Undefined l = (lo, λ a la. safe_kind a)
  safe_tag o lo values.Null l = (lo, λ a la. safe_kind a)
  safe_tag o lo (values.Bool b) l = (lo, λ a la. safe_kind a)
  safe_tag o lo (values.Num x) l = (lo, λ a la. safe_kind a)
  safe_tag o lo (values.Str units) l = safe_joined (codes "[object " ++ units ++ codes "]")
  safe_tag o lo (values.Sym id) l = (lo, λ a la. safe_kind a)
  safe_tag o lo (values.Obj x) l = (lo, λ a la. safe_kind a)

  safe_to_string : (this : Value) → LiveValue objects this → IsCall (object_to_string this)
  safe_to_string values.Undefined l = safe_joined (codes "[object " ++ codes "Undefined" ++ codes "]")
  safe_to_string values.Null l = safe_joined (codes "[object " ++ codes "Null" ++ codes "]")
  safe_to_string (values.Bool b) l = tt
  safe_to_string (values.Num x) l = tt
  safe_to_string (values.Str units) l = tt
  safe_to_string (values.Sym id) l = tt
  safe_to_string (values.Obj o) l = (l, safe_normal objects LiveC (with_tag o) (safe_tag o l))

  safe_value_of : (this : Value) → LiveValue objects this → IsCall (object_value_of this)
  safe_value_of values.Undefined l = tt
  safe_value_of values.Null l = tt
  safe_value_of (values.Bool b) l = tt
  safe_value_of (values.Num x) l = tt
  safe_value_of (values.Str units) l = tt
  safe_value_of (values.Sym id) l = tt
  safe_value_of (values.Obj o) l = l

  safe_values : (this : Value) → LiveValue objects this → IsCall (array_values this)
  safe_values values.Undefined l = tt
  safe_values values.Null l = tt
  safe_values (values.Bool b) l = tt
  safe_values (values.Num x) l = tt
  safe_values (values.Str units) l = tt
  safe_values (values.Sym id) l = tt
  safe_values (values.Obj o) l = (record { other = refl; items = (l, tt) }, safe_normal objects LiveC (returns {Job = CallTask}) (λ v lv. lv))

  -- what a turn of an iterator does: the iterator and the object whose elements it gives are live
  module _ (iterator of : ObjRef) (next : ℕ) (li : IsLive objects iterator) (lo : IsLive objects of) where
    safe_ended : (d : CallTalk) → IsCall d → IsCall (ends_iterator iterator next d)
    safe_ended d x = ((li, tt), λ a la. x)

    safe_read : (k : Value → CallTalk) → ((v : Value) → LiveValue objects v → IsCall (k v)) → (a : AnswerTerm) → LiveAnswer objects a → IsCall (read_in_turn iterator next k a)
    safe_read k each BeginAnswer l = each values.Undefined tt
    safe_read k each DoneAnswer l = each values.Undefined tt
    safe_read k each (NormalAnswer v) l = each v l
    safe_read k each (ThrownAnswer v) l = ((li, tt), λ a la. l)
    safe_read k each (KeysAnswer all) l = each values.Undefined tt
    safe_read k each (OwnAnswer flags) l = each values.Undefined tt
    safe_read k each (SightAnswer sight) l = each values.Undefined tt

    safe_given_in : (k : TaskEnd → CallTalk) → ((r : TaskEnd) → LiveTaskEnd objects r → IsCall (k r)) → (r : TaskEnd) → LiveTaskEnd objects r → IsCall (given_in_turn iterator next k r)
    safe_given_in k each (Gives w) l = each (Gives w) l
    safe_given_in k each (Plain v) l = each (Plain v) l
    safe_given_in k each (Picks overload ws) l = each (Picks overload ws) l
    safe_given_in k each (Throw why) l = ((li, tt), λ a la. l)
    safe_given_in k each (Rethrow v) l = ((li, tt), λ a la. l)
    safe_given_in k each (Profile end) l = each (Profile end) l

    safe_result_object : (v : Value) (b : Bool) → LiveValue objects v → IsCall (iterator_result v b)
    safe_result_object v b l = (record { other = refl; items = (tt, (l, (tt, tt))) }, safe_normal objects LiveC (returns {Job = CallTask}) (λ w lw. lw))

    safe_element_read : (v : Value) → LiveValue objects v → IsCall (element_read iterator next v)
    safe_element_read v l = ((li, tt), λ a la. safe_result_object v false l)

    safe_with_length : (count : ℕ) → IsCall (with_length iterator of next count)
    safe_with_length count =
        safe_if objects LiveC (nat_lt next count) (Say (GetAsk of (keys.Name (decimal next))) (read_in_turn iterator next (element_read iterator next))) (ends_iterator iterator next (iterator_result values.Undefined true))
        (lo, safe_read (element_read iterator next) safe_element_read) (safe_ended (iterator_result values.Undefined true) (safe_result_object values.Undefined true tt))

    safe_length_read : (v : Value) → LiveValue objects v → IsCall (length_read iterator of next v)
    safe_length_read v l =
        (l, safe_given_in (number (λ x. with_length iterator of next (length_of x))) (safe_number objects LiveC (λ x. with_length iterator of next (length_of x)) (λ x. safe_with_length (length_of x))))

    safe_turn : (turn : Turn) → IsCall (by_turn iterator of next turn)
    safe_turn Idle = ((li, tt), λ a la. (lo, safe_read (length_read iterator of next) safe_length_read))
    safe_turn Running = tt
    safe_turn Ended = safe_result_object values.Undefined true tt

  safe_cursor : (iterator : ObjRef) (state : Option CursorState) → IsLive objects iterator → IfSome state (LiveCursor objects) → IsCall (by_cursor iterator state)
  safe_cursor iterator None li l = tt
  safe_cursor iterator (Some (cursors.Pairs of kind next)) li l = tt
  safe_cursor iterator (Some (cursors.Array of next turn)) li l = safe_turn iterator of next li l turn

  safe_next_of : (this : Value) → LiveValue objects this → IsCall (array_iterator_next this)
  safe_next_of = safe_object objects LiveC _ _ (λ iterator li. (li, λ a la. safe_cursor iterator (cursor_in a) li (live_cursor_in objects a la)))

  safe_intrinsic : (number : ℕ) (this : Value) → LiveValue objects this → IsCall (intrinsic number this)
  safe_intrinsic number this l =
      safe_if objects LiveC (nat_eq number 8) _ _ (safe_to_string this l)
      (safe_if objects LiveC (nat_eq number 9) _ _ (safe_value_of this l)
      (safe_if objects LiveC (nat_eq number 12) _ _ (safe_values this l)
      (safe_if objects LiveC (nat_eq number 13) _ _ (safe_next_of this l)
      (safe_if objects LiveC (nat_eq number 14) _ _ l
      (safe_if objects LiveC (nat_eq number 15) _ _ tt (safe_if objects LiveC (nat_eq number 16) _ _ tt (safe_if objects LiveC (nat_eq number 17) _ _ tt tt)))))))

  safe_function : (what : Builtin) (this : Value) (args : List Value) → LiveValue objects this → LiveValues objects args → IsCall (function list steps what this args)
  safe_function (builtins.Intrinsic number) this args l ls = safe_intrinsic number this l
  safe_function (builtins.Callee callee) this args l ls = safe_owned callee args callee.owner ls
  safe_function (builtins.InterfaceObject iface) this args l ls = tt
  safe_function (builtins.Pairs iface what) this args l ls = tt

  pub safe_call_task : (task : CallTask) → LiveCall objects task → IsCall (call_rule calls_built_today list steps task)
  safe_call_task (Of t) l = safe_rename objects (task_rule built_today list t) (safe_task list objects t l)
  safe_call_task (Function f what this args construct) l = safe_if objects LiveC (is_built_function what) _ _ (safe_function what this args l.0 l.1) tt
