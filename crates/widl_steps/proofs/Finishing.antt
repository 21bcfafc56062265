-- Each task ends in some conversation, and so it does after each answer that fits and each end of a task that it goes through.
use Rattle.std.proofs.Common.{◌≡◌, ℕ, zero, suc, ◌+◌, ◌≤◌, Bool, true, false, ◌&&◌, if◌then◌else◌, List, [], ◌∷◌, ◌++◌, length, Option, None, Some, Result, refl, sym, subst, arith}
use Rattle.std.specs.Prelude.{◌^◌, ℤ, nat_abs, nat_eq, nat_le, slice_get, Contains}
use Rattle.std.specs.List.{AllByRecursion}
use Rattle.std.specs.Option.{option_and_then}
use Rattle.std.proofs.lemmas.List.Elements.{Contains-append_left, Contains-append_right}
use Rattle.std.proofs.lemmas.List.{length-append}
use Rattle.std.proofs.lemmas.Option.{slice_get_past}
use Rattle.std.specs.declared.result.Result.TheVariants as results
use Rattle.widl_dialog.specs.Dialog.{End, Say, Steps}
use Rattle.widl_dialog.specs.Conversation.{Finishes}
use Rattle.widl_dialog.proofs.Wholes.{Fine, fine_end, fine_say, fine_steps, fine_goes, asks_go_on}
use Rattle.widl_text.specs.declared.key.Key.{Key}
use Rattle.widl_text.specs.Limits.{most_chained_dictionaries}
use Rattle.widl_idl.specs.declared.callee.Callee.{Callee}
use Rattle.widl_idl.specs.declared.int_kind.IntKind.{IntKind}
use Rattle.widl_idl.specs.declared.int_kind.Mode.{Mode}
use Rattle.widl_idl.specs.declared.int_kind.Mode.TheVariants.{Wrap}
use Rattle.widl_idl.specs.declared.literal.Literal.{Literal}
use Rattle.widl_idl.specs.declared.literal.Literal.TheVariants as literals
use Rattle.widl_idl.specs.declared.text_kind.TextKind.{TextKind}
use Rattle.widl_idl.specs.declared.text_kind.TextKind.TheVariants as texts
use Rattle.widl_idl.specs.DefinitionTerms.{DefsTerm, ArgTerm}
use Rattle.widl_idl.specs.Flattened.{flattened_member, flattened_members, includes_nullable_type}
use Rattle.widl_idl.specs.Terms.{TypeTerm, TypeTerms, no_types, more_types, AnyType, UndefinedType, BooleanType, IntegerType, StringType, EnumerationType, InterfaceType, CallbackFunctionType, CallbackInterfaceType, DictionaryType, ObjectType, SequenceType, RecordType, PromiseType, NullableType, UnionType}
use Rattle.widl_overload.specs.rules.Dictionaries.{BeginsChain, alone as alone_in_chain, after, dictionaries_in, dictionaries_in_all}
use Rattle.widl_overload.specs.sets.Entries.{declared_args, type_at, optionality_at}
use Rattle.widl_overload.specs.sets.Sets.{TupleTerm, is_variadic}
use Rattle.widl_value.specs.Classes.{class_of}
use Rattle.widl_value.specs.declared.number.Number.{Number}
use Rattle.widl_value.specs.declared.object.ObjRef.{ObjRef}
use Rattle.widl_value.specs.declared.object.Shape.TheVariants as shapes
use Rattle.widl_value.specs.declared.value.Value.{Value}
use Rattle.widl_value.specs.declared.value.Value.TheVariants as values
use Rattle.widl_value.specs.IdlTerms.{IdlTerm, IdlTerms, EntryTerms, MemberTerms, no_values, more_values, no_entries, more_entries, no_members, more_members, UndefinedValue, NullValue, MissingValue, BooleanValue, IntegerValue, StringValue, EnumerationValue, ObjectValue, AnyValue, SequenceValue, RecordValue, DictionaryValue, PromiseValue}
use Rattle.widl_scalar.specs.declared.int.NotInRange.{NotInRange}
use Rattle.widl_scalar.specs.declared.numerals.Read.{Read}
use Rattle.widl_scalar.specs.declared.numerals.Read.TheVariants as reads
use Rattle.widl_scalar.specs.declared.primitives.ValueNumber.{ValueNumber}
use Rattle.widl_scalar.specs.declared.primitives.ValueNumber.TheVariants as read
use Rattle.widl_scalar.specs.declared.primitives.ValueText.{ValueText}
use Rattle.widl_scalar.specs.declared.primitives.ValueText.TheVariants as written
use Rattle.widl_scalar.specs.Enumerations.{value_place}
use Rattle.widl_scalar.specs.NumeralWords.{read_of}
use Rattle.widl_scalar.specs.Primitives.{given_by, number_in, text_in, truth_of}
use Rattle.widl_scalar.specs.Scalars.{integer_of}
use Rattle.widl_scalar.specs.WhiteSpace.{trimmed}
use Rattle.widl_trace.specs.declared.code.Code.{Code}
use Rattle.widl_trace.specs.declared.code.Code.TheVariants as code
use Rattle.widl_tables.specs.declared.pick.Pick.{Pick}
use Rattle.widl_tables.specs.declared.pick.Pick.TheVariants.{Entry, Probe, Refuse}
use Rattle.widl_tables.specs.Kept.{entry_alone, telling_place}
use Rattle.widl_tables.specs.Picks.{pick_of, pick_member_of}
use Rattle.widl_tables.specs.Tests.{is_null_or_undefined}
use Rattle.widl_steps.specs.declared.hint.Hint.{Hint}
use Rattle.widl_steps.specs.declared.hint.Hint.TheVariants.{PrefersNumber, PrefersString}
use Rattle.widl_steps.specs.declared.want.Want.{Want}
use Rattle.widl_steps.specs.declared.want.Want.TheVariants as wants
use Rattle.widl_steps.specs.AskTerms.{AskTerm, UnitAsk, OwnKeysAsk, OwnAsk, AnswerTerm, DoneAnswer, NormalAnswer, ThrownAnswer, KeysAnswer, OwnAnswer, Fits}
use Rattle.widl_steps.specs.Built.{Built}
use Rattle.widl_steps.specs.Defaults.{default, literal_value, defaults_from}
use Rattle.widl_steps.specs.Dictionaries.{with_value, undefined_member, member_value, member, members, to_dictionary}
use Rattle.widl_steps.specs.Laws.{AsksAreTalked, ChainsEnd}
use Rattle.widl_tables.specs.MemberOrder.{DeclaredMember, members_in_order}
use Rattle.widl_steps.specs.Nullables.{inner_type, to_nullable}
use Rattle.widl_steps.specs.Primitives.{tried, found_ordinary, try_method, ordinary, primitive_result, found_method, object_to_primitive, to_primitive}
use Rattle.widl_steps.specs.Resolution.{with_entries, default_at, takes_default, argument_task, argument, by_entry, by_pick, sequence_given, from_method, kept, of_several}
use Rattle.widl_steps.specs.Records.{is_enumerable, flags_in, keys_in, key_value, with_entry, entry_value, own_entry, entries, to_record}
use Rattle.widl_steps.specs.Results.{entry_names, entry_items, member_names, member_items, container_ask, item_task, out_items, out_units, to_script}
use Rattle.widl_steps.specs.Rules.{rule}
use Rattle.widl_steps.specs.Scalars.{to_number, to_text, to_scalar, integer_result, string_result, is_bytes, to_string, null_or_string, enumeration_result, to_integer, to_enumeration, to_plain, convert_plain, to_type, convert}
use Rattle.widl_steps.specs.Sequences.{element, told_done, turn_given, turns, with_next, with_iterator, sequence_from, found_iterator_method, to_sequence, element_of, element_within}
use Rattle.widl_steps.specs.Tasks.{Container, ArrayOf, ObjectOf, OutItems, OutUnits, SequenceFrom, Turns, Entries, Members, Task, Primitive, Scalar, Convert, Resolve, Arguments, Default, Defaults, Out, TaskEnd, Gives, Plain, Throw, Rethrow, Talk, TalkOf}
use Rattle.widl_steps.specs.Unions.{to_member, without_iterator, member_from, member_probed, member_picked, to_union}
use Rattle.widl_steps.proofs.WordCases.{of_if, of_normal, of_object, of_object_or, of_callable, of_method, of_given, of_returned, of_number, of_text, of_named}
use Rattle.widl_steps.proofs.MemberChains.{HeldBy, all_held, all_weaker}
use Rattle.widl_steps.specs.Words.{returns, fails, not_built, normal, object, object_or, callable_or, method_or, given, returned, number, text}

-- 1. The words, for all sets of tasks

module _ {Job : Type 0} (steps : Job → TalkOf Job) where
  abbrev pub IsFine : TalkOf Job → Type 0
  IsFine d = Fine steps Fits d

  pub fine : (r : TaskEnd) → IsFine (End r)
  fine r = fine_end steps Fits r

  pub fine_if : (b : Bool) (d e : TalkOf Job) → IsFine d → IsFine e → IsFine (if b then d else e)
  fine_if = of_if IsFine fine

  pub fine_normal : (k : Value → TalkOf Job) → ((v : Value) → IsFine (k v)) → (a : AnswerTerm) → IsFine (normal k a)
  fine_normal = of_normal IsFine fine

  -- an ask that may throw
  pub fine_ask : (q : AskTerm) (k : Value → TalkOf Job) → Fits q (ThrownAnswer values.Undefined) → ((v : Value) → IsFine (k v)) → IsFine (Say q (normal k))
  fine_ask q k throws all = fine_say steps Fits q (normal k) (ThrownAnswer values.Undefined) throws (λ a f. fine_normal k all a)

  pub fine_object : (c : Code) (k : ObjRef → TalkOf Job) → ((o : ObjRef) → IsFine (k o)) → (v : Value) → IsFine (object c k v)
  fine_object = of_object IsFine fine

  pub fine_object_or : (d : Value → TalkOf Job) (k : ObjRef → TalkOf Job) → ((v : Value) → IsFine (d v)) → ((o : ObjRef) → IsFine (k o)) → (v : Value) → IsFine (object_or d k v)
  fine_object_or = of_object_or IsFine fine

  pub fine_callable : (d : TalkOf Job) (k : ObjRef → TalkOf Job) → IsFine d → ((o : ObjRef) → IsFine (k o)) → (v : Value) → IsFine (callable_or d k v)
  fine_callable = of_callable IsFine fine

  pub fine_method : (d : TalkOf Job) (k : ObjRef → TalkOf Job) → IsFine d → ((o : ObjRef) → IsFine (k o)) → (v : Value) → IsFine (method_or d k v)
  fine_method = of_method IsFine fine

  pub fine_given : (k : IdlTerm → TalkOf Job) → ((w : IdlTerm) → IsFine (k w)) → (r : TaskEnd) → IsFine (given k r)
  fine_given = of_given IsFine fine

  pub fine_returned : (k : Value → TalkOf Job) → ((v : Value) → IsFine (k v)) → (r : TaskEnd) → IsFine (returned k r)
  fine_returned = of_returned IsFine fine

  pub fine_number : (k : Number → TalkOf Job) → ((n : Number) → IsFine (k n)) → (r : TaskEnd) → IsFine (number k r)
  fine_number = of_number IsFine fine

  pub fine_text : (k : List ℕ → TalkOf Job) → ((units : List ℕ) → IsFine (k units)) → (r : TaskEnd) → IsFine (text k r)
  fine_text = of_text IsFine fine

-- 2. The rules, the lowest first

module _ (built : Built) (list : DefsTerm) (chains_end : ChainsEnd built list) where
  abbrev steps : Task → Talk
  steps = rule built list

  abbrev Is : Talk → Type 0
  Is d = IsFine steps d

  goes : (j : Task) → Finishes steps Fits (steps j) → Is (Steps j End)
  goes j x = fine_goes steps Fits j x

  through : (j : Task) (k : TaskEnd → Talk) → Finishes steps Fits (steps j) → ((r : TaskEnd) → Is (k r)) → Is (Steps j k)
  through j k x all = fine_steps steps Fits j k x all

  an_end : (r : TaskEnd) → Is (End r)
  an_end r = fine steps r

  -- 2.1 Primitive values

  fine_try : (o : ObjRef) (name : List ℕ) (d : Talk) → Is d → Is (try_method o name d)
  fine_try o name d x =
      fine_ask steps _ (found_ordinary o d) tt (fine_callable steps d _ x (λ f. fine_ask steps _ (tried d) tt (fine_object_or steps returns (λ p. d) (λ v. an_end (Plain v)) (λ p. x))))

  fine_ordinary : (hint : Hint) (o : ObjRef) → Is (ordinary hint o)
  fine_ordinary PrefersNumber o = fine_try o _ _ (fine_try o _ _ (an_end _))
  fine_ordinary PrefersString o = fine_try o _ _ (fine_try o _ _ (an_end _))

  fine_primitive : (hint : Hint) (v : Value) → Is (to_primitive hint v)
  fine_primitive hint v =
      fine_object_or steps returns (object_to_primitive hint) (λ p. an_end (Plain p))
      (λ o. fine_ask steps _ (found_method hint o) tt
      (fine_method steps (ordinary hint o) _ (fine_ordinary hint o)
      (λ f. fine_ask steps _ primitive_result tt (fine_object_or steps returns (λ p. fails code.Primitive) (λ p. an_end (Plain p)) (λ p. an_end (Throw code.Primitive)))))) v

  -- 2.2 Scalars: an object's conversion may be thrown out of at once

  ends_read : (v : Value) (r : Read) → Finishes steps Fits (to_number v (given_by r))
  ends_read v (reads.Number n) = (an_end _).ends
  ends_read v reads.OutOfProfile = (an_end _).ends

  ends_number : (v : Value) → Finishes steps Fits (to_number v (number_in v))
  ends_number values.Undefined = (an_end _).ends
  ends_number values.Null = (an_end _).ends
  ends_number (values.Bool b) = (an_end _).ends
  ends_number (values.Num n) = (an_end _).ends
  ends_number (values.Str units) = ends_read (values.Str units) (read_of (trimmed units))
  ends_number (values.Sym n) = (an_end _).ends
  ends_number (values.Obj o) = ((_, ThrownAnswer values.Undefined) ∷ [], Rethrow values.Undefined, (3, (refl, tt, refl)))

  ends_text : (v : Value) → Finishes steps Fits (to_text v (text_in v))
  ends_text values.Undefined = (an_end _).ends
  ends_text values.Null = (an_end _).ends
  ends_text (values.Bool b) = (an_end _).ends
  ends_text (values.Num n) = (an_end _).ends
  ends_text (values.Str units) = (an_end _).ends
  ends_text (values.Sym n) = (an_end _).ends
  ends_text (values.Obj o) = ((_, ThrownAnswer values.Undefined) ∷ [], Rethrow values.Undefined, (3, (refl, tt, refl)))

  fine_to_number : (v : Value) (r : ValueNumber) → Is (to_number v r)
  fine_to_number v (read.Number n) = an_end _
  fine_to_number v read.OutOfProfile = an_end _
  fine_to_number v read.Symbol = an_end _
  fine_to_number v read.Object = through (Primitive PrefersNumber v) _ (fine_primitive PrefersNumber v).ends (fine_returned steps _ (λ p. goes (Scalar wants.Number p) (ends_number p)))

  fine_to_text : (v : Value) (r : ValueText) → Is (to_text v r)
  fine_to_text v (written.Text units) = an_end _
  fine_to_text v written.Symbol = an_end _
  fine_to_text v written.Object = through (Primitive PrefersString v) _ (fine_primitive PrefersString v).ends (fine_returned steps _ (λ p. goes (Scalar wants.Text p) (ends_text p)))

  fine_scalar : (want : Want) (v : Value) → Is (to_scalar want v)
  fine_scalar wants.Number v = fine_to_number v (number_in v)
  fine_scalar wants.Text v = fine_to_text v (text_in v)
  fine_scalar wants.Length v = through (Scalar wants.Number v) _ (ends_number v) (fine_number steps _ (λ n. an_end _))

  -- 2.3 Types

  fine_integer_result : (r : Result ℤ NotInRange) → Is (integer_result r)
  fine_integer_result (results.Ok n) = an_end _
  fine_integer_result (results.Err e) = an_end _

  fine_string_result : (kind : TextKind) (units : List ℕ) → Is (string_result kind units)
  fine_string_result texts.Dom units = an_end _
  fine_string_result texts.Usv units = an_end _
  fine_string_result texts.Byte units = fine_if steps (is_bytes units) _ _ (an_end _) (an_end _)

  fine_string : (kind : TextKind) (v : Value) → Is (to_string kind v)
  fine_string kind v = through (Scalar wants.Text v) _ (ends_text v) (fine_text steps _ (fine_string_result kind))

  fine_null_or_string : (null_empty : Bool) (kind : TextKind) (v : Value) → Is (null_or_string null_empty kind v)
  fine_null_or_string null_empty kind values.Null = fine_if steps null_empty _ _ (an_end _) (fine_string kind values.Null)
  fine_null_or_string null_empty kind values.Undefined = fine_string kind _
  fine_null_or_string null_empty kind (values.Bool b) = fine_string kind _
  fine_null_or_string null_empty kind (values.Num n) = fine_string kind _
  fine_null_or_string null_empty kind (values.Str units) = fine_string kind _
  fine_null_or_string null_empty kind (values.Sym n) = fine_string kind _
  fine_null_or_string null_empty kind (values.Obj o) = fine_string kind _

  fine_enumeration_result : (n : ℕ) (place : Option ℕ) → Is (enumeration_result n place)
  fine_enumeration_result n (Some place) = an_end _
  fine_enumeration_result n None = an_end _

  fine_integer : (kind : IntKind) (mode : Mode) (v : Value) → Is (to_integer kind mode v)
  fine_integer kind mode v = through (Scalar wants.Number v) _ (ends_number v) (fine_number steps _ (λ n. fine_integer_result (integer_of n kind mode)))

  fine_enumeration : (n : ℕ) (v : Value) → Is (to_enumeration list n v)
  fine_enumeration n v = through (Scalar wants.Text v) _ (ends_text v) (fine_text steps _ (λ units. fine_enumeration_result n (value_place list.choices n units)))

  -- 2.4 Sequences: what begins with a read or a call may be thrown out of at once

  thrown_out : (q : AskTerm) (k : Value → Talk) → Fits q (ThrownAnswer values.Undefined) → Finishes steps Fits (Say q (normal k))
  thrown_out q k throws = ((q, ThrownAnswer values.Undefined) ∷ [], Rethrow values.Undefined, (2, (refl, throws, refl)))

  ends_turns : (t : TypeTerm) (iterator next : ObjRef) (made : List IdlTerm) → Finishes steps Fits (turns t iterator next made)
  ends_turns t iterator next made = thrown_out _ (turn_given t iterator next made) tt

  fine_sequence_from : (t : TypeTerm) (o method : ObjRef) → Is (sequence_from t o method)
  fine_sequence_from t o method =
      fine_ask steps _ (with_iterator t) tt
      (fine_object steps _ _ (λ iterator. fine_ask steps _ (with_next t iterator) tt (fine_callable steps _ _ (an_end _) (λ next. goes (Turns t iterator next []) (ends_turns t iterator next [])))))

  fine_sequence : (t : TypeTerm) (v : Value) → Is (to_sequence t v)
  fine_sequence t v =
      fine_object steps _ _ (λ o. fine_ask steps _ (found_iterator_method t o) tt (fine_method steps _ _ (an_end _) (λ method. goes (SequenceFrom t o method) (fine_sequence_from t o method).ends))) v

  -- 2.5 Each conversion ends

  finishes_if : (b : Bool) (d e : Talk) → Finishes steps Fits d → Finishes steps Fits e → Finishes steps Fits (if b then d else e)
  finishes_if true d e x y = x
  finishes_if false d e x y = y

  abbrev Converts : TypeTerm → Type 0
  Converts t = (v : Value) → Finishes steps Fits (steps (Convert t v))

  -- where a type is built, by its steps
  converts_by : (t : TypeTerm) → ((v : Value) → Finishes steps Fits (to_type built list t v)) → Converts t
  converts_by t all v = finishes_if (built.to_type t) _ _ (all v) (an_end _).ends

  -- a dictionary can be made of no object
  abbrev IsMade : ℕ → Type 0
  IsMade n = (made : List (ℕ × ℕ × IdlTerm)) → Finishes steps Fits (steps (Members n None (members_in_order list n) made))

  abbrev AreMade : TypeTerm → Type 0
  AreMade t = (n : ℕ) → Contains (dictionaries_in t) n → IsMade n

  ends_record : (key : TextKind) (t : TypeTerm) (v : Value) → Finishes steps Fits (to_record key t v)
  ends_record key t (values.Obj o) = ((OwnKeysAsk o, KeysAnswer []) ∷ [], Gives _, (4, (refl, tt, refl)))
  ends_record key t values.Undefined = (an_end _).ends
  ends_record key t values.Null = (an_end _).ends
  ends_record key t (values.Bool b) = (an_end _).ends
  ends_record key t (values.Num n) = (an_end _).ends
  ends_record key t (values.Str units) = (an_end _).ends
  ends_record key t (values.Sym n) = (an_end _).ends

  ends_members_of : (n : ℕ) (o : ObjRef) (left : List DeclaredMember) (made : List (ℕ × ℕ × IdlTerm)) → Finishes steps Fits (steps (Members n (Some o) left made))
  ends_members_of n o [] made = finishes_if (built.to_type (DictionaryType n)) _ _ (an_end _).ends (an_end _).ends
  ends_members_of n o (m ∷ left) made = finishes_if (built.to_type (DictionaryType n)) _ _ (thrown_out _ (member_value n (Some o) m left made) tt) (an_end _).ends

  ends_dictionary : (n : ℕ) → IsMade n → (v : Value) → Finishes steps Fits (to_dictionary list n v)
  ends_dictionary n made values.Undefined = (goes (Members n None (members_in_order list n) []) (made [])).ends
  ends_dictionary n made values.Null = (goes (Members n None (members_in_order list n) []) (made [])).ends
  ends_dictionary n made (values.Obj o) = (goes (Members n (Some o) (members_in_order list n) []) (ends_members_of n o (members_in_order list n) [])).ends
  ends_dictionary n made (values.Bool b) = (an_end _).ends
  ends_dictionary n made (values.Num i) = (an_end _).ends
  ends_dictionary n made (values.Str units) = (an_end _).ends
  ends_dictionary n made (values.Sym i) = (an_end _).ends

  ends_nullable : (inner : Value → Talk) → ((v : Value) → Finishes steps Fits (inner v)) → (v : Value) → Finishes steps Fits (to_nullable inner v)
  ends_nullable inner all values.Undefined = (an_end _).ends
  ends_nullable inner all values.Null = (an_end _).ends
  ends_nullable inner all (values.Bool b) = all _
  ends_nullable inner all (values.Num n) = all _
  ends_nullable inner all (values.Str units) = all _
  ends_nullable inner all (values.Sym n) = all _
  ends_nullable inner all (values.Obj o) = all _

  -- 2.5.1 Types that are neither nullable nor unions; of these two it has no steps

  ends_plain : (t : TypeTerm) → AreMade t → (v : Value) → Finishes steps Fits (to_plain list t v)
  ends_plain AnyType made v = (an_end _).ends
  ends_plain UndefinedType made v = (an_end _).ends
  ends_plain BooleanType made v = (an_end _).ends
  ends_plain (IntegerType kind mode) made v = (fine_integer kind mode v).ends
  ends_plain (StringType kind null_empty) made v = (fine_null_or_string null_empty kind v).ends
  ends_plain (EnumerationType n) made v = (fine_enumeration n v).ends
  ends_plain ObjectType made v = (fine_object steps _ _ (λ o. an_end _) v).ends
  ends_plain (InterfaceType n) made v = (an_end _).ends
  ends_plain (CallbackFunctionType n) made v = (an_end _).ends
  ends_plain (CallbackInterfaceType n) made v = (an_end _).ends
  ends_plain (DictionaryType n) made v = ends_dictionary n (made n (0, (omega arith), refl)) v
  ends_plain (SequenceType t) made v = (fine_sequence t v).ends
  ends_plain (RecordType key t) made v = ends_record key t v
  ends_plain (PromiseType t) made v = (an_end _).ends
  ends_plain (NullableType t) made v = (an_end _).ends
  ends_plain (UnionType ts) made v = (an_end _).ends

  abbrev ConvertsPlain : TypeTerm → Type 0
  ConvertsPlain t = (v : Value) → Finishes steps Fits (convert_plain built list t v)

  ends_convert_plain : (t : TypeTerm) → AreMade t → ConvertsPlain t
  ends_convert_plain t made v = finishes_if (built.to_type t) _ _ (ends_plain t made v) (an_end _).ends

  -- 2.5.2 Unions: a conversion by a member ends, and so does one that asks, where the answer is thrown

  ends_to_member : (types : List TypeTerm) → AllByRecursion ConvertsPlain types → (place : ℕ) (v : Value) → Finishes steps Fits (to_member (convert_plain built list) (slice_get types place) v)
  ends_to_member [] all place v = (an_end _).ends
  ends_to_member (t ∷ types) all zero v = all.0 v
  ends_to_member (t ∷ types) all (suc place) v = ends_to_member types all.1 place v

  ends_to_probe : (ts : TypeTerms) (place : ℕ) (v : Value) → Finishes steps Fits (member_picked (convert_plain built list) built list ts v (Probe place))
  ends_to_probe ts place (values.Obj o) = thrown_out _ (member_probed (convert_plain built list) built list ts place o) tt
  ends_to_probe ts place values.Undefined = (an_end _).ends
  ends_to_probe ts place values.Null = (an_end _).ends
  ends_to_probe ts place (values.Bool b) = (an_end _).ends
  ends_to_probe ts place (values.Num n) = (an_end _).ends
  ends_to_probe ts place (values.Str units) = (an_end _).ends
  ends_to_probe ts place (values.Sym n) = (an_end _).ends

  ends_member_picked : (ts : TypeTerms) → AllByRecursion ConvertsPlain (flattened_members ts) → (v : Value) (p : Pick) → Finishes steps Fits (member_picked (convert_plain built list) built list ts v p)
  ends_member_picked ts all v (Entry place) = ends_to_member (flattened_members ts) all place v
  ends_member_picked ts all v (Probe place) = ends_to_probe ts place v
  ends_member_picked ts all v Refuse = (an_end _).ends

  ends_union : (ts : TypeTerms) → AllByRecursion ConvertsPlain (flattened_members ts) → (v : Value) → Finishes steps Fits (to_union (convert_plain built list) built list ts v)
  ends_union ts all v =
      finishes_if (includes_nullable_type (UnionType ts) && is_null_or_undefined (class_of v)) _ _ (an_end _).ends (ends_member_picked ts all v (pick_member_of list ts (class_of v) false))

  all_appended : (types more : List TypeTerm) → AllByRecursion ConvertsPlain types → AllByRecursion ConvertsPlain more → AllByRecursion ConvertsPlain (types ++ more)
  all_appended [] more x y = y
  all_appended (t ∷ types) more x y = (x.0, all_appended types more x.1 y)

  mutual
    ends_flat : (t : TypeTerm) → AreMade t → AllByRecursion ConvertsPlain (flattened_member t)
    ends_flat (NullableType t) made = ends_flat t made
    ends_flat (UnionType ts) made = ends_flats ts made
    ends_flat AnyType made = (ends_convert_plain AnyType made, tt)
    ends_flat UndefinedType made = (ends_convert_plain UndefinedType made, tt)
    ends_flat BooleanType made = (ends_convert_plain BooleanType made, tt)
    ends_flat (IntegerType kind mode) made = (ends_convert_plain (IntegerType kind Wrap) made, tt)
    ends_flat (StringType kind null_empty) made = (ends_convert_plain (StringType kind false) made, tt)
    ends_flat (EnumerationType n) made = (ends_convert_plain (EnumerationType n) made, tt)
    ends_flat ObjectType made = (ends_convert_plain ObjectType made, tt)
    ends_flat (InterfaceType n) made = (ends_convert_plain (InterfaceType n) made, tt)
    ends_flat (CallbackFunctionType n) made = (ends_convert_plain (CallbackFunctionType n) made, tt)
    ends_flat (CallbackInterfaceType n) made = (ends_convert_plain (CallbackInterfaceType n) made, tt)
    ends_flat (DictionaryType n) made = (ends_convert_plain (DictionaryType n) made, tt)
    ends_flat (SequenceType t) made = (ends_convert_plain (SequenceType t) made, tt)
    ends_flat (RecordType key t) made = (ends_convert_plain (RecordType key t) made, tt)
    ends_flat (PromiseType t) made = (ends_convert_plain (PromiseType t) made, tt)

    ends_flats : (ts : TypeTerms) → ((n : ℕ) → Contains (dictionaries_in_all ts) n → IsMade n) → AllByRecursion ConvertsPlain (flattened_members ts)
    ends_flats no_types made = tt
    ends_flats (more_types t ts) made =
        all_appended (flattened_member t) (flattened_members ts)
        (ends_flat t (λ n inside. made n (Contains-append_left (dictionaries_in t) (dictionaries_in_all ts) n inside)))
        (ends_flats ts (λ n inside. made n (Contains-append_right (dictionaries_in t) (dictionaries_in_all ts) n inside)))

  -- 2.5.3 All types

  ends_type : (t : TypeTerm) → AreMade t → (v : Value) → Finishes steps Fits (to_type built list t v)
  ends_type (NullableType t) made v = ends_nullable (to_type built list t) (ends_type t made) v
  ends_type (UnionType ts) made v = ends_union ts (ends_flats ts made) v
  ends_type t made v = ends_plain t made v

  converts : (t : TypeTerm) → AreMade t → Converts t
  converts t made = converts_by t (ends_type t made)

  -- 2.6 Default values and the members of dictionaries

  converts_inner : (t : TypeTerm) → AreMade t → Converts (inner_type t)
  converts_inner (NullableType t) made = converts t made
  converts_inner t made = converts t made

  fine_literal : (t : TypeTerm) (l : Literal) → AreMade t → Is (literal_value list t l)
  fine_literal t literals.Null made = an_end _
  fine_literal t literals.Undefined made = an_end _
  fine_literal t (literals.Bool b) made = an_end _
  fine_literal t (literals.Int n) made = an_end _
  fine_literal t (literals.Text units) made = an_end _
  fine_literal t literals.EmptyList made = an_end _
  fine_literal t literals.EmptyDict made = goes (Convert (inner_type t) values.Undefined) (converts_inner t made values.Undefined)

  fine_undefined_member : (n : ℕ) (o : Option ObjRef) (m : DeclaredMember) (left : List DeclaredMember) (made : List (ℕ × ℕ × IdlTerm)) (l : Option Literal) → AreMade m.member.ty → ((made : List (ℕ × ℕ × IdlTerm)) → Finishes steps Fits (steps (Members n o left made))) → Is (undefined_member n o m left made l)
  fine_undefined_member n o m left made (Some l) all later =
      through (Default m.member.ty (Some l)) _ (fine_literal m.member.ty l all).ends (fine_given steps _ (λ w. goes (Members n o left (with_value m w made)) (later (with_value m w made))))
  fine_undefined_member n o m left made None all later = fine_if steps m.member.needed _ _ (an_end _) (goes (Members n o left made) (later made))

  fine_member_value : (n : ℕ) (o : Option ObjRef) (m : DeclaredMember) (left : List DeclaredMember) (made : List (ℕ × ℕ × IdlTerm)) → AreMade m.member.ty → ((made : List (ℕ × ℕ × IdlTerm)) → Finishes steps Fits (steps (Members n o left made))) → (v : Value) → Is (member_value n o m left made v)
  fine_member_value n o m left made all later values.Undefined = fine_undefined_member n o m left made m.member.value all later
  fine_member_value n o m left made all later values.Null = through (Convert m.member.ty _) _ (converts m.member.ty all _) (fine_given steps _ (λ w. goes (Members n o left (with_value m w made)) (later (with_value m w made))))
  fine_member_value n o m left made all later (values.Bool b) = through (Convert m.member.ty _) _ (converts m.member.ty all _) (fine_given steps _ (λ w. goes (Members n o left (with_value m w made)) (later (with_value m w made))))
  fine_member_value n o m left made all later (values.Num i) = through (Convert m.member.ty _) _ (converts m.member.ty all _) (fine_given steps _ (λ w. goes (Members n o left (with_value m w made)) (later (with_value m w made))))
  fine_member_value n o m left made all later (values.Str units) = through (Convert m.member.ty _) _ (converts m.member.ty all _) (fine_given steps _ (λ w. goes (Members n o left (with_value m w made)) (later (with_value m w made))))
  fine_member_value n o m left made all later (values.Sym i) = through (Convert m.member.ty _) _ (converts m.member.ty all _) (fine_given steps _ (λ w. goes (Members n o left (with_value m w made)) (later (with_value m w made))))
  fine_member_value n o m left made all later (values.Obj p) = through (Convert m.member.ty _) _ (converts m.member.ty all _) (fine_given steps _ (λ w. goes (Members n o left (with_value m w made)) (later (with_value m w made))))

  fine_one_member : (n : ℕ) (o : Option ObjRef) (m : DeclaredMember) (left : List DeclaredMember) (made : List (ℕ × ℕ × IdlTerm)) → AreMade m.member.ty → ((made : List (ℕ × ℕ × IdlTerm)) → Finishes steps Fits (steps (Members n o left made))) → Is (member n o m left made)
  fine_one_member n (Some o) m left made all later = fine_ask steps _ (member_value n (Some o) m left made) tt (fine_member_value n (Some o) m left made all later)
  fine_one_member n None m left made all later = fine_say steps Fits UnitAsk _ DoneAnswer tt (λ a f. fine_member_value n None m left made all later values.Undefined)

  fine_members : (n : ℕ) (o : Option ObjRef) (left : List DeclaredMember) → AllByRecursion (λ (m : DeclaredMember). AreMade m.member.ty) left → (made : List (ℕ × ℕ × IdlTerm)) → Is (steps (Members n o left made))
  fine_members n o [] all made = fine_if steps (built.to_type (DictionaryType n)) _ _ (an_end _) (an_end _)
  fine_members n o (m ∷ left) all made =
      fine_if steps (built.to_type (DictionaryType n)) _ _ (fine_one_member n o m left made all.0 (λ more. (fine_members n o left all.1 more).ends)) (an_end _)

  -- no chain of so many dictionaries begins with this one
  made_below : (count n : ℕ) → ((c : ℕ) → c ≡ count + 1 → BeginsChain list.dicts c n → ⊥) → IsMade n
  made_below zero n none made = absurd (none 1 (omega arith) alone_in_chain)
  made_below (suc count) n none made =
      (fine_members n None (members_in_order list n)
      (all_weaker (λ (m : DeclaredMember) (holds : HeldBy list.dicts n m). λ k inside. made_below count k (λ c e chain. none (c + 1) (omega (arith, e)) (after (holds k inside) chain))) (members_in_order list n) (all_held list n)) made).ends

  is_made : (n : ℕ) → IsMade n
  is_made n made = by_built (built.to_type (DictionaryType n)) refl
    where
      by_built : (b : Bool) → built.to_type (DictionaryType n) ≡ b → Finishes steps Fits (steps (Members n None (members_in_order list n) made))
      by_built true e = made_below most_chained_dictionaries n (λ c is chain. chains_end n e (subst (λ (x : ℕ). BeginsChain list.dicts x n) is chain)) made
      by_built false e = subst (λ (b : Bool). Finishes steps Fits (if b then members n None (members_in_order list n) made else not_built)) (sym e) (an_end _).ends

  all_made : (t : TypeTerm) → AreMade t
  all_made t n inside = is_made n

  all_convert : (t : TypeTerm) → Converts t
  all_convert t = converts t (all_made t)

  all_members_made : (left : List DeclaredMember) → AllByRecursion (λ (m : DeclaredMember). AreMade m.member.ty) left
  all_members_made [] = tt
  all_members_made (m ∷ left) = (all_made m.member.ty, all_members_made left)

  -- 2.7 Records

  fine_entries : (key : TextKind) (t : TypeTerm) (o : ObjRef) (left : List Key) (made : List (List ℕ × IdlTerm)) → Is (entries key t o left made)
  fine_entries key t o [] made = an_end _
  fine_entries key t o (k ∷ left) made =
      fine_say steps Fits (OwnAsk o k) (own_entry key t o k left made) (OwnAnswer None) tt
      (λ a f. fine_if steps (is_enumerable (flags_in a)) _ _
      (through (Convert (StringType key false) (key_value k)) _ (all_convert (StringType key false) (key_value k))
      (of_named Is an_end _ (λ name. fine_ask steps _ (entry_value key t o left made name) tt
      (λ v. through (Convert t v) _ (all_convert t v) (fine_given steps _ (λ w. goes (Entries key t o left (with_entry name w made)) (fine_entries key t o left (with_entry name w made)).ends))))))
      (goes (Entries key t o left made) (fine_entries key t o left made).ends))

  fine_record : (key : TextKind) (t : TypeTerm) (v : Value) → Is (to_record key t v)
  fine_record key t v =
      fine_object steps _ _ (λ o. fine_say steps Fits (OwnKeysAsk o) _ (KeysAnswer []) tt (λ a f. goes (Entries key t o (keys_in a) []) (fine_entries key t o (keys_in a) []).ends)) v

  -- 2.8 All types

  fine_turns : (t : TypeTerm) (iterator next : ObjRef) (made : List IdlTerm) → Is (turns t iterator next made)
  fine_turns t iterator next made =
      fine_ask steps _ (turn_given t iterator next made) tt
      (fine_object steps _ _ (λ turn. fine_ask steps _ (told_done t iterator next made turn) tt
      (λ d. fine_if steps (truth_of d) _ _ (an_end _)
      (fine_ask steps _ (element t iterator next made) tt
      (λ v. through (Convert t v) _ (all_convert t v) (fine_given steps _ (λ w. goes (Turns t iterator next (made ++ w ∷ [])) (ends_turns t iterator next (made ++ w ∷ [])))))))))

  fine_dictionary : (n : ℕ) (v : Value) → Is (to_dictionary list n v)
  fine_dictionary n values.Undefined = goes (Members n None (members_in_order list n) []) (is_made n [])
  fine_dictionary n values.Null = goes (Members n None (members_in_order list n) []) (is_made n [])
  fine_dictionary n (values.Obj o) = goes (Members n (Some o) (members_in_order list n) []) (ends_members_of n o (members_in_order list n) [])
  fine_dictionary n (values.Bool b) = an_end _
  fine_dictionary n (values.Num i) = an_end _
  fine_dictionary n (values.Str units) = an_end _
  fine_dictionary n (values.Sym i) = an_end _

  fine_plain : (t : TypeTerm) (v : Value) → Is (to_plain list t v)
  fine_plain AnyType v = an_end _
  fine_plain UndefinedType v = an_end _
  fine_plain BooleanType v = an_end _
  fine_plain (IntegerType kind mode) v = fine_integer kind mode v
  fine_plain (StringType kind null_empty) v = fine_null_or_string null_empty kind v
  fine_plain (EnumerationType n) v = fine_enumeration n v
  fine_plain ObjectType v = fine_object steps _ _ (λ o. an_end _) v
  fine_plain (InterfaceType n) v = an_end _
  fine_plain (CallbackFunctionType n) v = an_end _
  fine_plain (CallbackInterfaceType n) v = an_end _
  fine_plain (DictionaryType n) v = fine_dictionary n v
  fine_plain (SequenceType t) v = fine_sequence t v
  fine_plain (RecordType key t) v = fine_record key t v
  fine_plain (PromiseType t) v = an_end _
  fine_plain (NullableType t) v = an_end _
  fine_plain (UnionType ts) v = an_end _

  fine_to_member : (t : Option TypeTerm) (v : Value) → Is (to_member (convert_plain built list) t v)
  fine_to_member (Some t) v = fine_if steps (built.to_type t) _ _ (fine_plain t v) (an_end _)
  fine_to_member None v = an_end _

  fine_without_iterator : (ts : TypeTerms) (v : Value) (p : Pick) → Is (without_iterator (convert_plain built list) ts v p)
  fine_without_iterator ts v (Entry place) = fine_to_member (slice_get (flattened_members ts) place) v
  fine_without_iterator ts v (Probe place) = an_end _
  fine_without_iterator ts v Refuse = an_end _

  fine_member_from : (o method : ObjRef) (t : Option TypeTerm) → Is (member_from o method t)
  fine_member_from o method (Some t) = goes (SequenceFrom t o method) (fine_sequence_from t o method).ends
  fine_member_from o method None = an_end _

  fine_member_picked : (ts : TypeTerms) (v : Value) (p : Pick) → Is (member_picked (convert_plain built list) built list ts v p)
  fine_member_picked ts v (Entry place) = fine_to_member (slice_get (flattened_members ts) place) v
  fine_member_picked ts v (Probe place) =
      fine_object steps _ _ (λ o. fine_ask steps _ (member_probed (convert_plain built list) built list ts place o) tt
      (fine_method steps _ _ (fine_without_iterator ts (values.Obj o) (pick_member_of list ts (class_of (values.Obj o)) true))
      (λ method. fine_if steps (built.to_type (SequenceType AnyType)) _ _ (fine_member_from o method (option_and_then element_of (slice_get (flattened_members ts) place))) (an_end _)))) v
  fine_member_picked ts v Refuse = an_end _

  fine_union : (ts : TypeTerms) (v : Value) → Is (to_union (convert_plain built list) built list ts v)
  fine_union ts v = fine_if steps (includes_nullable_type (UnionType ts) && is_null_or_undefined (class_of v)) _ _ (an_end _) (fine_member_picked ts v (pick_member_of list ts (class_of v) false))

  fine_nullable : (inner : Value → Talk) → ((v : Value) → Is (inner v)) → (v : Value) → Is (to_nullable inner v)
  fine_nullable inner all values.Undefined = an_end _
  fine_nullable inner all values.Null = an_end _
  fine_nullable inner all (values.Bool b) = all _
  fine_nullable inner all (values.Num n) = all _
  fine_nullable inner all (values.Str units) = all _
  fine_nullable inner all (values.Sym n) = all _
  fine_nullable inner all (values.Obj o) = all _

  fine_type : (t : TypeTerm) (v : Value) → Is (to_type built list t v)
  fine_type (NullableType t) v = fine_nullable (to_type built list t) (fine_type t) v
  fine_type (UnionType ts) v = fine_union ts v
  fine_type t v = fine_plain t v

  fine_convert : (t : TypeTerm) (v : Value) → Is (convert built list t v)
  fine_convert t v = fine_if steps (built.to_type t) _ _ (fine_type t v) (an_end _)

  -- 2.9 Declared arguments that a call doesn't have

  fine_default : (t : TypeTerm) (l : Option Literal) → Is (default list t l)
  fine_default t None = an_end _
  fine_default t (Some l) = fine_literal t l (all_made t)

  fine_defaults_from : (c : Callee) (e : ℕ) (made : List IdlTerm) (a : Option ArgTerm) → ((w : IdlTerm) → Finishes steps Fits (steps (Defaults c e (made ++ w ∷ [])))) → Is (defaults_from c e made a)
  fine_defaults_from c e made None later = an_end _
  fine_defaults_from c e made (Some a) later =
      fine_if steps (is_variadic a.opt) _ _ (an_end _) (through (Default a.ty a.value) _ (fine_default a.ty a.value).ends (fine_given steps _ (λ w. goes (Defaults c e (made ++ w ∷ [])) (later w))))

  -- so many declared arguments are left, at most
  fine_defaults : (left : ℕ) (c : Callee) (e : ℕ) (made : List IdlTerm) → length (declared_args list c e) ≤ length made + left → Is (steps (Defaults c e made))
  fine_defaults zero c e made h =
      let past : slice_get (declared_args list c e) (length made) ≡ None = slice_get_past (declared_args list c e) (length made) (omega (arith, h)) in
      subst (λ (a : Option ArgTerm). Is (defaults_from c e made a)) (sym past) (an_end _)
  fine_defaults (suc left) c e made h =
      fine_defaults_from c e made (slice_get (declared_args list c e) (length made)) (λ w. (fine_defaults left c e (made ++ w ∷ []) (omega (arith, h, length-append made (w ∷ [])))).ends)

  fine_all_defaults : (c : Callee) (e : ℕ) (made : List IdlTerm) → Is (steps (Defaults c e made))
  fine_all_defaults c e made = fine_defaults (length (declared_args list c e)) c e made (omega arith)

  -- 2.10 Arguments

  ends_argument_task : (b : Bool) (t : TypeTerm) (l : Option Literal) (v : Value) → Finishes steps Fits (steps (if b then Default t l else Convert t v))
  ends_argument_task true t l v = (fine_default t l).ends
  ends_argument_task false t l v = (fine_convert t v).ends

  -- the conversations of the arguments that are left
  abbrev Later : Callee → ℕ → List Value → Type 0
  Later c d left = (entries : List TupleTerm) (made : List IdlTerm) → Finishes steps Fits (steps (Arguments c entries d left made))

  fine_argument : (c : Callee) (d : ℕ) (left : List Value) (made : List IdlTerm) → Later c d left → (v : Value) (entries : List TupleTerm) → Is (argument list c d left made v entries)
  fine_argument c d left made later v [] = an_end _
  fine_argument c d left made later v (entry ∷ more) =
      through (argument_task list c entry (length made) v) _
      (ends_argument_task (takes_default (optionality_at entry (length made)) v) (type_at entry (length made)) (default_at list c entry.overload (length made)) v)
      (fine_given steps _ (λ w. goes (Arguments c (entry ∷ more) d left (made ++ w ∷ [])) (later (entry ∷ more) (made ++ w ∷ []))))

  fine_sequence_given : (c : Callee) (d : ℕ) (left : List Value) (made : List IdlTerm) → Later c d left → (entries : List TupleTerm) (o method : ObjRef) (t : Option TypeTerm) → Is (sequence_given list c d left made entries o method t)
  fine_sequence_given c d left made later entries o method (Some t) =
      through (SequenceFrom t o method) _ (fine_sequence_from t o method).ends (fine_given steps _ (λ w. goes (Arguments c entries d left (made ++ w ∷ [])) (later entries (made ++ w ∷ []))))
  fine_sequence_given c d left made later entries o method None = an_end _

  fine_from_method : (c : Callee) (d : ℕ) (left : List Value) (made : List IdlTerm) → Later c d left → (o method : ObjRef) (entries : List TupleTerm) → Is (from_method list c d left made o method entries)
  fine_from_method c d left made later o method [] = an_end _
  fine_from_method c d left made later o method (entry ∷ more) = fine_sequence_given c d left made later (entry ∷ more) o method (element_within (type_at entry (length made)))

  fine_kept : (c : Callee) (d : ℕ) (left : List Value) (made : List IdlTerm) → Later c d left → (v : Value) (found : Option (ObjRef × ObjRef)) (entries : List TupleTerm) → Is (kept list c d left made v found entries)
  fine_kept c d left made later v None entries = fine_argument c d left made later v entries
  fine_kept c d left made later v (Some found) entries = fine_from_method c d left made later found.0 found.1 entries

  fine_by_entry : (k : List TupleTerm → Talk) → ((entries : List TupleTerm) → Is (k entries)) → (entries : List TupleTerm) (p : Pick) → Is (by_entry k entries p)
  fine_by_entry k each entries (Entry e) = each (entry_alone e entries)
  fine_by_entry k each entries (Probe e) = an_end _
  fine_by_entry k each entries Refuse = an_end _

  fine_by_pick : (d : ℕ) (v : Value) (k : Option (ObjRef × ObjRef) → List TupleTerm → Talk) → ((found : Option (ObjRef × ObjRef)) (entries : List TupleTerm) → Is (k found entries)) → (entries : List TupleTerm) (p : Pick) → Is (by_pick built list d v k entries p)
  fine_by_pick d v k each entries (Entry e) = each None (entry_alone e entries)
  fine_by_pick d v k each entries (Probe e) =
      fine_object steps _ _ (λ o. fine_ask steps _ _ tt
      (fine_method steps _ _ (fine_by_entry (k None) (each None) entries (pick_of list entries d (class_of v) true))
      (λ method. fine_if steps (built.to_type (SequenceType AnyType)) _ _ (each (Some (o, method)) (entry_alone e entries)) (an_end _)))) v
  fine_by_pick d v k each entries Refuse = an_end _

  fine_several : (c : Callee) (d : ℕ) (left : List Value) (made : List IdlTerm) → Later c d left → (v : Value) (entries : List TupleTerm) → Is (of_several built list c d left made v entries)
  fine_several c d left made later v entries =
      fine_if steps (nat_eq (length made) d) _ _ (fine_by_pick d v _ (fine_kept c d left made later v) entries (pick_of list entries d (class_of v) false)) (fine_argument c d left made later v entries)

  fine_arguments : (c : Callee) (entries : List TupleTerm) (d : ℕ) (left : List Value) (made : List IdlTerm) → Is (steps (Arguments c entries d left made))
  fine_arguments c [] d left made = an_end _
  fine_arguments c (entry ∷ []) d [] made = goes (Defaults c entry.overload made) (fine_all_defaults c entry.overload made).ends
  fine_arguments c (entry ∷ []) d (v ∷ left) made = fine_argument c d left made (λ entries m. (fine_arguments c entries d left m).ends) v (entry ∷ [])
  fine_arguments c (entry ∷ other ∷ more) d [] made = an_end _
  fine_arguments c (entry ∷ other ∷ more) d (v ∷ left) made = fine_several c d left made (λ entries m. (fine_arguments c entries d left m).ends) v (entry ∷ other ∷ more)

  fine_entries_kept : (c : Callee) (entries : List TupleTerm) (args : List Value) → Is (with_entries list c entries args)
  fine_entries_kept c [] args = an_end _
  fine_entries_kept c (entry ∷ more) args = goes (Arguments c (entry ∷ more) (telling_place list (entry ∷ more)) args []) (fine_arguments c (entry ∷ more) (telling_place list (entry ∷ more)) args []).ends

  -- 2.11 Results

  -- an answer that fits the ask for a container
  fits_container : (container : Container) (made : List Value) → Fits (container_ask container made) (NormalAnswer (values.Obj (record { id = 0; shape = shapes.Plain })))
  fits_container ArrayOf made = refl
  fits_container (ObjectOf names) made = refl

  fine_out_units : (left : ℕ) (container : Container) (made : List Value) → Is (out_units left container made)
  fine_out_units zero container made = fine_say steps Fits (container_ask container made) (normal returns) _ (fits_container container made) (λ a f. fine_normal steps returns (λ v. an_end _) a)
  fine_out_units (suc left) container made = fine_say steps Fits UnitAsk _ DoneAnswer tt (λ a f. goes (OutUnits left container made) (fine_out_units left container made).ends)

  fine_item : (container : Container) (w : IdlTerm) (left : IdlTerms) (made : List Value) → Is (to_script list w) → ((made : List Value) → Is (out_items container left made)) → Is (out_items container (more_values w left) made)
  fine_item container w left made x later =
      through (item_task w) _ (finishes_if (built.to_script w) _ _ x.ends (an_end _).ends) (fine_returned steps _ (λ v. goes (OutItems container left (made ++ v ∷ [])) (later (made ++ v ∷ [])).ends))

  fine_units_of : (container : Container) (made : List Value) → Is (out_items container no_values made)
  fine_units_of container made = goes (OutUnits (length made) container made) (fine_out_units (length made) container made).ends

  mutual
    fine_script : (w : IdlTerm) → Is (to_script list w)
    fine_script UndefinedValue = an_end _
    fine_script NullValue = an_end _
    fine_script MissingValue = an_end _
    fine_script (BooleanValue b) = an_end _
    fine_script (IntegerValue n) = fine_if steps (nat_le (nat_abs n) (2 ^ 64)) _ _ (an_end _) (an_end _)
    fine_script (StringValue units) = an_end _
    fine_script (EnumerationValue n place) = an_end _
    fine_script (ObjectValue o) = an_end _
    fine_script (AnyValue v) = an_end _
    fine_script (SequenceValue items) = goes (OutItems ArrayOf items []) (fine_items ArrayOf items []).ends
    fine_script (RecordValue es) = goes (OutItems (ObjectOf (entry_names es)) (entry_items es) []) (fine_entry_items (ObjectOf (entry_names es)) es []).ends
    fine_script (DictionaryValue n ms) = goes (OutItems (ObjectOf (member_names list ms)) (member_items ms) []) (fine_member_items (ObjectOf (member_names list ms)) ms []).ends
    fine_script (PromiseValue o) = an_end _

    fine_items : (container : Container) (left : IdlTerms) (made : List Value) → Is (out_items container left made)
    fine_items container no_values made = fine_units_of container made
    fine_items container (more_values w left) made = fine_item container w left made (fine_script w) (fine_items container left)

    fine_entry_items : (container : Container) (left : EntryTerms) (made : List Value) → Is (out_items container (entry_items left) made)
    fine_entry_items container no_entries made = fine_units_of container made
    fine_entry_items container (more_entries name w left) made = fine_item container w (entry_items left) made (fine_script w) (fine_entry_items container left)

    fine_member_items : (container : Container) (left : MemberTerms) (made : List Value) → Is (out_items container (member_items left) made)
    fine_member_items container no_members made = fine_units_of container made
    fine_member_items container (more_members dictionary number w left) made = fine_item container w (member_items left) made (fine_script w) (fine_member_items container left)

  -- 3. All tasks

  pub fine_rule : (t : Task) → IsFine (rule built list) (rule built list t)
  fine_rule (Primitive hint v) = fine_primitive hint v
  fine_rule (Scalar want v) = fine_scalar want v
  fine_rule (Convert t v) = fine_convert t v
  fine_rule (SequenceFrom t o method) = fine_sequence_from t o method
  fine_rule (Turns t iterator next made) = fine_turns t iterator next made
  fine_rule (Entries key t o left made) = fine_entries key t o left made
  fine_rule (Members n o left made) = fine_members n o left (all_members_made left) made
  fine_rule (Resolve c args) = fine_entries_kept c _ _
  fine_rule (Arguments c entries d left made) = fine_arguments c entries d left made
  fine_rule (Default t l) = fine_default t l
  fine_rule (Defaults c e made) = fine_all_defaults c e made
  fine_rule (Out t w) = fine_if steps (built.to_script w) _ _ (fine_script w) (an_end _)
  fine_rule (OutItems container left made) = fine_items container left made
  fine_rule (OutUnits left container made) = fine_out_units left container made

  pub all_talked : AsksAreTalked (rule built list)
  all_talked = asks_go_on (rule built list) Fits (λ j. (fine_rule j).good)
