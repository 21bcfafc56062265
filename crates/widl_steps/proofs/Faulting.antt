-- After a thrown answer a conversation ends with the value that was thrown.
use Rattle.std.proofs.Common.{◌≡◌, ℕ, zero, suc, Bool, true, false, ◌&&◌, if◌then◌else◌, List, [], ◌∷◌, ◌++◌, length, Option, None, Some, Result, refl, sym, ap, subst, ◌∙◌}
use Rattle.std.specs.Prelude.{◌^◌, ℤ, nat_abs, nat_eq, nat_le, slice_get}
use Rattle.std.specs.Option.{option_and_then}
use Rattle.std.specs.declared.result.Result.TheVariants as results
use Rattle.widl_dialog.specs.Dialog.{End, Say, Steps, bind}
use Rattle.widl_dialog.specs.Conversation.{Asks, Ends, Reads, Comes}
use Rattle.widl_text.specs.declared.key.Key.{Key}
use Rattle.widl_idl.specs.declared.callee.Callee.{Callee}
use Rattle.widl_idl.specs.declared.literal.Literal.{Literal}
use Rattle.widl_idl.specs.declared.literal.Literal.TheVariants as literals
use Rattle.widl_idl.specs.declared.text_kind.TextKind.{TextKind}
use Rattle.widl_idl.specs.declared.text_kind.TextKind.TheVariants as texts
use Rattle.widl_idl.specs.DefinitionTerms.{DefsTerm, ArgTerm}
use Rattle.widl_idl.specs.Flattened.{flattened_members, includes_nullable_type}
use Rattle.widl_idl.specs.Terms.{TypeTerm, TypeTerms, AnyType, UndefinedType, BooleanType, IntegerType, StringType, EnumerationType, InterfaceType, CallbackFunctionType, CallbackInterfaceType, DictionaryType, ObjectType, SequenceType, RecordType, PromiseType, NullableType, UnionType}
use Rattle.widl_overload.specs.sets.Entries.{declared_args, type_at}
use Rattle.widl_overload.specs.sets.Sets.{TupleTerm, is_variadic}
use Rattle.widl_value.specs.Classes.{class_of}
use Rattle.widl_value.specs.declared.number.Number.{Number}
use Rattle.widl_value.specs.declared.object.ObjRef.{ObjRef}
use Rattle.widl_value.specs.declared.value.Value.{Value}
use Rattle.widl_value.specs.declared.value.Value.TheVariants as values
use Rattle.widl_value.specs.IdlTerms.{IdlTerm, IdlTerms, no_values, more_values, UndefinedValue, NullValue, MissingValue, BooleanValue, IntegerValue, StringValue, EnumerationValue, ObjectValue, AnyValue, SequenceValue, RecordValue, DictionaryValue, PromiseValue}
use Rattle.widl_scalar.specs.declared.int.NotInRange.{NotInRange}
use Rattle.widl_scalar.specs.declared.primitives.ValueNumber.{ValueNumber}
use Rattle.widl_scalar.specs.declared.primitives.ValueNumber.TheVariants as read
use Rattle.widl_scalar.specs.declared.primitives.ValueText.{ValueText}
use Rattle.widl_scalar.specs.declared.primitives.ValueText.TheVariants as written
use Rattle.widl_scalar.specs.Enumerations.{value_place}
use Rattle.widl_scalar.specs.Primitives.{number_in, text_in, truth_of}
use Rattle.widl_scalar.specs.Scalars.{integer_of}
use Rattle.widl_trace.specs.declared.code.Code.{Code}
use Rattle.widl_trace.specs.declared.code.Code.TheVariants as code
use Rattle.widl_tables.specs.declared.pick.Pick.{Pick}
use Rattle.widl_tables.specs.declared.pick.Pick.TheVariants.{Entry, Probe, Refuse}
use Rattle.widl_tables.specs.Kept.{entry_alone, telling_place}
use Rattle.widl_tables.specs.Picks.{pick_of, pick_member_of}
use Rattle.widl_tables.specs.Tests.{is_null_or_undefined}
use Rattle.widl_steps.specs.declared.hint.Hint.{Hint}
use Rattle.widl_steps.specs.declared.hint.Hint.TheVariants.{PrefersNumber, PrefersString}
use Rattle.widl_steps.specs.declared.want.Want.{Want}
use Rattle.widl_steps.specs.declared.want.Want.TheVariants as wants
use Rattle.widl_steps.specs.AskTerms.{AskTerm, UnitAsk, OwnKeysAsk, OwnAsk, AnswerTerm, ThrownAnswer, Fits}
use Rattle.widl_steps.specs.Built.{Built}
use Rattle.widl_steps.specs.Defaults.{default, literal_value, defaults_from}
use Rattle.widl_steps.specs.Dictionaries.{with_value, undefined_member, member_value, member, members, to_dictionary}
use Rattle.widl_steps.specs.Laws.{Said, FaultsEnd}
use Rattle.widl_tables.specs.MemberOrder.{DeclaredMember, members_in_order}
use Rattle.widl_steps.specs.Nullables.{inner_type, to_nullable}
use Rattle.widl_steps.specs.Primitives.{tried, found_ordinary, try_method, ordinary, primitive_result, found_method, object_to_primitive, to_primitive}
use Rattle.widl_steps.specs.Records.{is_enumerable, flags_in, keys_in, key_value, named, with_entry, entry_value, own_entry, entries, to_record}
use Rattle.widl_steps.specs.Resolution.{with_entries, argument_task, argument, by_entry, by_pick, sequence_given, from_method, kept, arguments}
use Rattle.widl_steps.specs.Results.{entry_names, entry_items, member_names, member_items, container_ask, item_task, out_items, out_units, to_script}
use Rattle.widl_steps.specs.Rules.{rule}
use Rattle.widl_steps.specs.Scalars.{to_number, to_text, to_scalar, integer_result, string_result, is_bytes, to_string, null_or_string, enumeration_result, to_plain, convert_plain, to_type}
use Rattle.widl_steps.specs.Sequences.{element, told_done, turn_given, turns, with_next, with_iterator, sequence_from, found_iterator_method, to_sequence, element_of, element_within}
use Rattle.widl_steps.specs.Tasks.{Container, ArrayOf, ObjectOf, Task, Primitive, Scalar, Convert, SequenceFrom, Turns, Entries, Members, Resolve, Arguments, Default, Defaults, Out, OutItems, OutUnits, TaskEnd, Rethrow, Talk, TalkOf}
use Rattle.widl_steps.specs.Unions.{to_member, without_iterator, member_from, member_probed, member_picked}
use Rattle.widl_steps.proofs.WordCases.{of_if, of_normal, of_object, of_object_or, of_callable, of_method, of_given, of_returned, of_number, of_text, of_named}
use Rattle.widl_steps.specs.Words.{returns, fails, normal, object, object_or, callable_or, method_or, given, returned, number, text}

-- 1. Generic: of steps that pass on what is thrown

module _ {Job : Type 0} where
  -- a continuation passes on what a task threw
  abbrev pub PassesOn : (TaskEnd → TalkOf Job) → Type 0
  PassesOn k = (v : Value) → k (Rethrow v) ≡ End (Rethrow v)

  abbrev pub Passes : TalkOf Job → Type 0
  Passes (End r) = Unit {0}
  Passes (Say q k) = ((v : Value) → Fits q (ThrownAnswer v) → k (ThrownAnswer v) ≡ End (Rethrow v)) × ((a : AnswerTerm) → Fits q a → Passes (k a))
  Passes (Steps j k) = PassesOn k × ((r : TaskEnd) → Passes (k r))

  passes_bind : (d : TalkOf Job) (k : TaskEnd → TalkOf Job) → Passes d → PassesOn k → ((r : TaskEnd) → Passes (k r)) → Passes (bind d k)
  passes_bind (End r) k x on all = all r
  passes_bind (Say q g) k x on all = (λ v f. ap (λ (d : TalkOf Job). bind d k) (x.0 v f) ∙ on v, λ a f. passes_bind (g a) k (x.1 a f) on all)
  passes_bind (Steps j g) k x on all = (λ v. ap (λ (d : TalkOf Job). bind d k) (x.0 v) ∙ on v, λ r. passes_bind (g r) k (x.1 r) on all)

  module _ (steps : Job → TalkOf Job) (all_pass : (j : Job) → Passes (steps j)) where
    ends_so : (m : ℕ) (d : TalkOf Job) (said : Said) (q : AskTerm) (v : Value) → Passes d → Fits q (ThrownAnswer v) → Reads steps Fits m d said (Asks q) → Comes steps Fits d (said ++ (q, ThrownAnswer v) ∷ []) (Ends (Rethrow v))
    ends_so zero d said q v x f read = absurd read
    ends_so (suc m) (End r) [] q v x f read = absurd (cc)
    ends_so (suc m) (End r) (p ∷ said) q v x f read = absurd read
    ends_so (suc m) (Say o k) [] q v x f read =
        let same : q ≡ o = cc in
        let fits : Fits o (ThrownAnswer v) = subst (λ (p : AskTerm). Fits p (ThrownAnswer v)) same f in
        (2, (same, fits, subst (λ (d : TalkOf Job). Reads steps Fits 1 d [] (Ends (Rethrow v))) (sym (x.0 v fits)) refl))
    ends_so (suc m) (Say o k) (p ∷ said) q v x f read =
        let y = ends_so m (k p.1) said q v (x.1 p.1 read.1) f read.2 in (suc y.0, (read.0, read.1, y.1))
    ends_so (suc m) (Steps j k) said q v x f read =
        let y = ends_so m (bind (steps j) k) said q v (passes_bind (steps j) k (all_pass j) x.0 x.1) f read in (suc y.0, y.1)

    pub faults_end : FaultsEnd steps
    faults_end task said q v x f = ends_so x.0 (steps task) said q v (all_pass task) f x.1

  -- 2. The words

  pub record Is (d : TalkOf Job) : Type 0 where
    pub on : Passes d

  pass_end : (r : TaskEnd) → Is (End r)
  pass_end r = record { on = tt }

  pass_if : (b : Bool) (d e : TalkOf Job) → Is d → Is e → Is (if b then d else e)
  pass_if = of_if Is pass_end

  pass_ask : (q : AskTerm) (k : Value → TalkOf Job) → ((v : Value) → Is (k v)) → Is (Say q (normal k))
  pass_ask q k all = record { on = (λ v f. refl, λ a f. (of_normal Is pass_end k all a).on) }

  -- an ask that doesn't throw
  pass_say : (q : AskTerm) (k : AnswerTerm → TalkOf Job) → ((v : Value) → Fits q (ThrownAnswer v) → ⊥) → ((a : AnswerTerm) → Is (k a)) → Is (Say q k)
  pass_say q k never all = record { on = (λ v f. absurd (never v f), λ a f. (all a).on) }

  pass_object : (c : Code) (k : ObjRef → TalkOf Job) → ((o : ObjRef) → Is (k o)) → (v : Value) → Is (object c k v)
  pass_object = of_object Is pass_end

  pass_object_or : (d : Value → TalkOf Job) (k : ObjRef → TalkOf Job) → ((v : Value) → Is (d v)) → ((o : ObjRef) → Is (k o)) → (v : Value) → Is (object_or d k v)
  pass_object_or = of_object_or Is pass_end

  pass_callable : (d : TalkOf Job) (k : ObjRef → TalkOf Job) → Is d → ((o : ObjRef) → Is (k o)) → (v : Value) → Is (callable_or d k v)
  pass_callable = of_callable Is pass_end

  pass_method : (d : TalkOf Job) (k : ObjRef → TalkOf Job) → Is d → ((o : ObjRef) → Is (k o)) → (v : Value) → Is (method_or d k v)
  pass_method = of_method Is pass_end

  pass_given : (j : Job) (k : IdlTerm → TalkOf Job) → ((w : IdlTerm) → Is (k w)) → Is (Steps j (given k))
  pass_given j k all = record { on = (λ v. refl, λ r. (of_given Is pass_end k all r).on) }

  pass_returned : (j : Job) (k : Value → TalkOf Job) → ((v : Value) → Is (k v)) → Is (Steps j (returned k))
  pass_returned j k all = record { on = (λ v. refl, λ r. (of_returned Is pass_end k all r).on) }

  pass_number : (j : Job) (k : Number → TalkOf Job) → ((n : Number) → Is (k n)) → Is (Steps j (number k))
  pass_number j k all = record { on = (λ v. refl, λ r. (of_number Is pass_end k all r).on) }

  pass_text : (j : Job) (k : List ℕ → TalkOf Job) → ((units : List ℕ) → Is (k units)) → Is (Steps j (text k))
  pass_text j k all = record { on = (λ v. refl, λ r. (of_text Is pass_end k all r).on) }

  pass_on : (j : Job) → Is (Steps j End)
  pass_on j = record { on = (λ v. refl, λ r. tt) }

-- 3. The rules

module _ (built : Built) (list : DefsTerm) where
  pass_try : (o : ObjRef) (name : List ℕ) (d : Talk) → Is d → Is (try_method o name d)
  pass_try o name d x =
      pass_ask _ (found_ordinary o d) (pass_callable d _ x (λ f. pass_ask _ (tried d) (pass_object_or returns (λ p. d) (λ v. pass_end _) (λ p. x))))

  pass_ordinary : (hint : Hint) (o : ObjRef) → Is (ordinary hint o)
  pass_ordinary PrefersNumber o = pass_try o _ _ (pass_try o _ _ (pass_end _))
  pass_ordinary PrefersString o = pass_try o _ _ (pass_try o _ _ (pass_end _))

  pass_primitive : (hint : Hint) (v : Value) → Is (to_primitive hint v)
  pass_primitive hint v =
      pass_object_or returns (object_to_primitive hint) (λ p. pass_end _)
      (λ o. pass_ask _ (found_method hint o)
      (pass_method (ordinary hint o) _ (pass_ordinary hint o)
      (λ f. pass_ask _ primitive_result (pass_object_or returns (λ p. fails code.Primitive) (λ p. pass_end _) (λ p. pass_end _))))) v

  pass_to_number : (v : Value) (r : ValueNumber) → Is (to_number v r)
  pass_to_number v (read.Number n) = pass_end _
  pass_to_number v read.OutOfProfile = pass_end _
  pass_to_number v read.Symbol = pass_end _
  pass_to_number v read.Object = pass_returned (Primitive PrefersNumber v) _ (λ p. pass_on (Scalar wants.Number p))

  pass_to_text : (v : Value) (r : ValueText) → Is (to_text v r)
  pass_to_text v (written.Text units) = pass_end _
  pass_to_text v written.Symbol = pass_end _
  pass_to_text v written.Object = pass_returned (Primitive PrefersString v) _ (λ p. pass_on (Scalar wants.Text p))

  pass_scalar : (want : Want) (v : Value) → Is (to_scalar want v)
  pass_scalar wants.Number v = pass_to_number v (number_in v)
  pass_scalar wants.Text v = pass_to_text v (text_in v)
  pass_scalar wants.Length v = pass_number (Scalar wants.Number v) _ (λ n. pass_end _)

  pass_integer_result : (r : Result ℤ NotInRange) → Is (integer_result r)
  pass_integer_result (results.Ok n) = pass_end _
  pass_integer_result (results.Err e) = pass_end _

  pass_string_result : (kind : TextKind) (units : List ℕ) → Is (string_result kind units)
  pass_string_result texts.Dom units = pass_end _
  pass_string_result texts.Usv units = pass_end _
  pass_string_result texts.Byte units = pass_if (is_bytes units) _ _ (pass_end _) (pass_end _)

  pass_string : (kind : TextKind) (v : Value) → Is (to_string kind v)
  pass_string kind v = pass_text (Scalar wants.Text v) _ (pass_string_result kind)

  pass_null_or_string : (null_empty : Bool) (kind : TextKind) (v : Value) → Is (null_or_string null_empty kind v)
  pass_null_or_string null_empty kind values.Null = pass_if null_empty _ _ (pass_end _) (pass_string kind values.Null)
  pass_null_or_string null_empty kind values.Undefined = pass_string kind _
  pass_null_or_string null_empty kind (values.Bool b) = pass_string kind _
  pass_null_or_string null_empty kind (values.Num n) = pass_string kind _
  pass_null_or_string null_empty kind (values.Str units) = pass_string kind _
  pass_null_or_string null_empty kind (values.Sym n) = pass_string kind _
  pass_null_or_string null_empty kind (values.Obj o) = pass_string kind _

  pass_enumeration_result : (n : ℕ) (place : Option ℕ) → Is (enumeration_result n place)
  pass_enumeration_result n (Some place) = pass_end _
  pass_enumeration_result n None = pass_end _

  -- 3.1 Containers, nullable types and unions

  pass_turns : (t : TypeTerm) (iterator next : ObjRef) (made : List IdlTerm) → Is (turns t iterator next made)
  pass_turns t iterator next made =
      pass_ask _ (turn_given t iterator next made)
      (pass_object _ _ (λ turn. pass_ask _ (told_done t iterator next made turn)
      (λ d. pass_if (truth_of d) _ _ (pass_end _)
      (pass_ask _ (element t iterator next made) (λ v. pass_given (Convert t v) _ (λ w. pass_on (Turns t iterator next (made ++ w ∷ []))))))))

  pass_sequence_from : (t : TypeTerm) (o method : ObjRef) → Is (sequence_from t o method)
  pass_sequence_from t o method =
      pass_ask _ (with_iterator t) (pass_object _ _ (λ iterator. pass_ask _ (with_next t iterator) (pass_callable _ _ (pass_end _) (λ next. pass_on (Turns t iterator next [])))))

  pass_sequence : (t : TypeTerm) (v : Value) → Is (to_sequence t v)
  pass_sequence t v = pass_object _ _ (λ o. pass_ask _ (found_iterator_method t o) (pass_method _ _ (pass_end _) (λ method. pass_on (SequenceFrom t o method)))) v

  pass_named : (j : Task) (k : List ℕ → Talk) → ((name : List ℕ) → Is (k name)) → Is (Steps j (named k))
  pass_named j k all = record { on = (λ v. refl, λ r. (of_named Is pass_end k all r).on) }

  pass_entries : (key : TextKind) (t : TypeTerm) (o : ObjRef) (left : List Key) (made : List (List ℕ × IdlTerm)) → Is (entries key t o left made)
  pass_entries key t o [] made = pass_end _
  pass_entries key t o (k ∷ left) made =
      pass_say (OwnAsk o k) (own_entry key t o k left made) (λ v f. f)
      (λ a. pass_if (is_enumerable (flags_in a)) _ _
      (pass_named (Convert (StringType key false) (key_value k)) _
      (λ name. pass_ask _ (entry_value key t o left made name) (λ v. pass_given (Convert t v) _ (λ w. pass_on (Entries key t o left (with_entry name w made))))))
      (pass_on (Entries key t o left made)))

  pass_record : (key : TextKind) (t : TypeTerm) (v : Value) → Is (to_record key t v)
  pass_record key t v = pass_object _ _ (λ o. pass_say (OwnKeysAsk o) _ (λ v f. f) (λ a. pass_on (Entries key t o (keys_in a) []))) v

  pass_undefined_member : (n : ℕ) (o : Option ObjRef) (m : DeclaredMember) (left : List DeclaredMember) (made : List (ℕ × ℕ × IdlTerm)) (l : Option Literal) → Is (undefined_member n o m left made l)
  pass_undefined_member n o m left made (Some l) = pass_given (Default m.member.ty (Some l)) _ (λ w. pass_on (Members n o left (with_value m w made)))
  pass_undefined_member n o m left made None = pass_if m.member.needed _ _ (pass_end _) (pass_on (Members n o left made))

  pass_member_value : (n : ℕ) (o : Option ObjRef) (m : DeclaredMember) (left : List DeclaredMember) (made : List (ℕ × ℕ × IdlTerm)) (v : Value) → Is (member_value n o m left made v)
  pass_member_value n o m left made values.Undefined = pass_undefined_member n o m left made m.member.value
  pass_member_value n o m left made values.Null = pass_given (Convert m.member.ty _) _ (λ w. pass_on (Members n o left (with_value m w made)))
  pass_member_value n o m left made (values.Bool b) = pass_given (Convert m.member.ty _) _ (λ w. pass_on (Members n o left (with_value m w made)))
  pass_member_value n o m left made (values.Num i) = pass_given (Convert m.member.ty _) _ (λ w. pass_on (Members n o left (with_value m w made)))
  pass_member_value n o m left made (values.Str units) = pass_given (Convert m.member.ty _) _ (λ w. pass_on (Members n o left (with_value m w made)))
  pass_member_value n o m left made (values.Sym i) = pass_given (Convert m.member.ty _) _ (λ w. pass_on (Members n o left (with_value m w made)))
  pass_member_value n o m left made (values.Obj p) = pass_given (Convert m.member.ty _) _ (λ w. pass_on (Members n o left (with_value m w made)))

  pass_member : (n : ℕ) (o : Option ObjRef) (m : DeclaredMember) (left : List DeclaredMember) (made : List (ℕ × ℕ × IdlTerm)) → Is (member n o m left made)
  pass_member n (Some o) m left made = pass_ask _ (member_value n (Some o) m left made) (pass_member_value n (Some o) m left made)
  pass_member n None m left made = pass_say UnitAsk _ (λ v f. f) (λ a. pass_member_value n None m left made values.Undefined)

  pass_members : (n : ℕ) (o : Option ObjRef) (left : List DeclaredMember) (made : List (ℕ × ℕ × IdlTerm)) → Is (members n o left made)
  pass_members n o [] made = pass_end _
  pass_members n o (m ∷ left) made = pass_member n o m left made

  pass_dictionary : (n : ℕ) (v : Value) → Is (to_dictionary list n v)
  pass_dictionary n values.Undefined = pass_on (Members n None (members_in_order list n) [])
  pass_dictionary n values.Null = pass_on (Members n None (members_in_order list n) [])
  pass_dictionary n (values.Bool b) = pass_end _
  pass_dictionary n (values.Num i) = pass_end _
  pass_dictionary n (values.Str units) = pass_end _
  pass_dictionary n (values.Sym i) = pass_end _
  pass_dictionary n (values.Obj o) = pass_on (Members n (Some o) (members_in_order list n) [])

  pass_nullable : (inner : Value → Talk) → ((v : Value) → Is (inner v)) → (v : Value) → Is (to_nullable inner v)
  pass_nullable inner all values.Undefined = pass_end _
  pass_nullable inner all values.Null = pass_end _
  pass_nullable inner all (values.Bool b) = all _
  pass_nullable inner all (values.Num n) = all _
  pass_nullable inner all (values.Str units) = all _
  pass_nullable inner all (values.Sym n) = all _
  pass_nullable inner all (values.Obj o) = all _

  -- 3.2 All types, and default values

  pass_plain : (t : TypeTerm) (v : Value) → Is (to_plain list t v)
  pass_plain AnyType v = pass_end _
  pass_plain UndefinedType v = pass_end _
  pass_plain BooleanType v = pass_end _
  pass_plain (IntegerType kind mode) v = pass_number (Scalar wants.Number v) _ (λ n. pass_integer_result (integer_of n kind mode))
  pass_plain (StringType kind null_empty) v = pass_null_or_string null_empty kind v
  pass_plain (EnumerationType n) v = pass_text (Scalar wants.Text v) _ (λ units. pass_enumeration_result n (value_place list.choices n units))
  pass_plain ObjectType v = pass_object _ _ (λ o. pass_end _) v
  pass_plain (InterfaceType n) v = pass_end _
  pass_plain (CallbackFunctionType n) v = pass_end _
  pass_plain (CallbackInterfaceType n) v = pass_end _
  pass_plain (DictionaryType n) v = pass_dictionary n v
  pass_plain (SequenceType t) v = pass_sequence t v
  pass_plain (RecordType key t) v = pass_record key t v
  pass_plain (PromiseType t) v = pass_end _
  pass_plain (NullableType t) v = pass_end _
  pass_plain (UnionType ts) v = pass_end _

  pass_convert_plain : (t : TypeTerm) (v : Value) → Is (convert_plain built list t v)
  pass_convert_plain t v = pass_if (built.to_type t) _ _ (pass_plain t v) (pass_end _)

  pass_to_member : (t : Option TypeTerm) (v : Value) → Is (to_member (convert_plain built list) t v)
  pass_to_member (Some t) v = pass_convert_plain t v
  pass_to_member None v = pass_end _

  pass_without_iterator : (ts : TypeTerms) (v : Value) (p : Pick) → Is (without_iterator (convert_plain built list) ts v p)
  pass_without_iterator ts v (Entry place) = pass_to_member (slice_get (flattened_members ts) place) v
  pass_without_iterator ts v (Probe place) = pass_end _
  pass_without_iterator ts v Refuse = pass_end _

  pass_member_from : (o method : ObjRef) (t : Option TypeTerm) → Is (member_from o method t)
  pass_member_from o method (Some t) = pass_on (SequenceFrom t o method)
  pass_member_from o method None = pass_end _

  pass_member_picked : (ts : TypeTerms) (v : Value) (p : Pick) → Is (member_picked (convert_plain built list) built list ts v p)
  pass_member_picked ts v (Entry place) = pass_to_member (slice_get (flattened_members ts) place) v
  pass_member_picked ts v (Probe place) =
      pass_object _ _ (λ o. pass_ask _ (member_probed (convert_plain built list) built list ts place o)
      (pass_method _ _ (pass_without_iterator ts (values.Obj o) (pick_member_of list ts (class_of (values.Obj o)) true))
      (λ method. pass_if (built.to_type (SequenceType AnyType)) _ _ (pass_member_from o method (option_and_then element_of (slice_get (flattened_members ts) place))) (pass_end _)))) v
  pass_member_picked ts v Refuse = pass_end _

  pass_type : (t : TypeTerm) (v : Value) → Is (to_type built list t v)
  pass_type (NullableType t) v = pass_nullable (to_type built list t) (pass_type t) v
  pass_type (UnionType ts) v = pass_if (includes_nullable_type (UnionType ts) && is_null_or_undefined (class_of v)) _ _ (pass_end _) (pass_member_picked ts v (pick_member_of list ts (class_of v) false))
  pass_type t v = pass_plain t v

  pass_literal : (t : TypeTerm) (l : Literal) → Is (literal_value list t l)
  pass_literal t literals.Null = pass_end _
  pass_literal t literals.Undefined = pass_end _
  pass_literal t (literals.Bool b) = pass_end _
  pass_literal t (literals.Int n) = pass_end _
  pass_literal t (literals.Text units) = pass_end _
  pass_literal t literals.EmptyList = pass_end _
  pass_literal t literals.EmptyDict = pass_on (Convert (inner_type t) values.Undefined)

  pass_default : (t : TypeTerm) (l : Option Literal) → Is (default list t l)
  pass_default t None = pass_end _
  pass_default t (Some l) = pass_literal t l

  pass_defaults : (c : Callee) (e : ℕ) (made : List IdlTerm) (a : Option ArgTerm) → Is (defaults_from c e made a)
  pass_defaults c e made None = pass_end _
  pass_defaults c e made (Some a) = pass_if (is_variadic a.opt) _ _ (pass_end _) (pass_given (Default a.ty a.value) _ (λ w. pass_on (Defaults c e (made ++ w ∷ []))))

  -- 3.3 Arguments

  pass_argument : (c : Callee) (d : ℕ) (left : List Value) (made : List IdlTerm) (v : Value) (entries : List TupleTerm) → Is (argument list c d left made v entries)
  pass_argument c d left made v [] = pass_end _
  pass_argument c d left made v (entry ∷ more) = pass_given (argument_task list c entry (length made) v) _ (λ w. pass_on (Arguments c (entry ∷ more) d left (made ++ w ∷ [])))

  pass_sequence_given : (c : Callee) (d : ℕ) (left : List Value) (made : List IdlTerm) (entries : List TupleTerm) (o method : ObjRef) (t : Option TypeTerm) → Is (sequence_given list c d left made entries o method t)
  pass_sequence_given c d left made entries o method (Some t) = pass_given (SequenceFrom t o method) _ (λ w. pass_on (Arguments c entries d left (made ++ w ∷ [])))
  pass_sequence_given c d left made entries o method None = pass_end _

  pass_from_method : (c : Callee) (d : ℕ) (left : List Value) (made : List IdlTerm) (o method : ObjRef) (entries : List TupleTerm) → Is (from_method list c d left made o method entries)
  pass_from_method c d left made o method [] = pass_end _
  pass_from_method c d left made o method (entry ∷ more) = pass_sequence_given c d left made (entry ∷ more) o method (element_within (type_at entry (length made)))

  pass_kept : (c : Callee) (d : ℕ) (left : List Value) (made : List IdlTerm) (v : Value) (found : Option (ObjRef × ObjRef)) (entries : List TupleTerm) → Is (kept list c d left made v found entries)
  pass_kept c d left made v None entries = pass_argument c d left made v entries
  pass_kept c d left made v (Some found) entries = pass_from_method c d left made found.0 found.1 entries

  pass_by_entry : (k : List TupleTerm → Talk) → ((entries : List TupleTerm) → Is (k entries)) → (entries : List TupleTerm) (p : Pick) → Is (by_entry k entries p)
  pass_by_entry k each entries (Entry e) = each (entry_alone e entries)
  pass_by_entry k each entries (Probe e) = pass_end _
  pass_by_entry k each entries Refuse = pass_end _

  pass_by_pick : (d : ℕ) (v : Value) (k : Option (ObjRef × ObjRef) → List TupleTerm → Talk) → ((found : Option (ObjRef × ObjRef)) (entries : List TupleTerm) → Is (k found entries)) → (entries : List TupleTerm) (p : Pick) → Is (by_pick built list d v k entries p)
  pass_by_pick d v k each entries (Entry e) = each None (entry_alone e entries)
  pass_by_pick d v k each entries (Probe e) =
      pass_object _ _ (λ o. pass_ask _ _
      (pass_method _ _ (pass_by_entry (k None) (each None) entries (pick_of list entries d (class_of v) true))
      (λ method. pass_if (built.to_type (SequenceType AnyType)) _ _ (each (Some (o, method)) (entry_alone e entries)) (pass_end _)))) v
  pass_by_pick d v k each entries Refuse = pass_end _

  pass_arguments : (c : Callee) (entries : List TupleTerm) (d : ℕ) (left : List Value) (made : List IdlTerm) → Is (arguments built list c entries d left made)
  pass_arguments c [] d left made = pass_end _
  pass_arguments c (entry ∷ []) d [] made = pass_on (Defaults c entry.overload made)
  pass_arguments c (entry ∷ []) d (v ∷ left) made = pass_argument c d left made v (entry ∷ [])
  pass_arguments c (entry ∷ other ∷ more) d [] made = pass_end _
  pass_arguments c (entry ∷ other ∷ more) d (v ∷ left) made =
      pass_if (nat_eq (length made) d) _ _ (pass_by_pick d v _ (pass_kept c d left made v) (entry ∷ other ∷ more) (pick_of list (entry ∷ other ∷ more) d (class_of v) false)) (pass_argument c d left made v (entry ∷ other ∷ more))

  pass_entries_kept : (c : Callee) (entries : List TupleTerm) (args : List Value) → Is (with_entries list c entries args)
  pass_entries_kept c [] args = pass_end _
  pass_entries_kept c (entry ∷ more) args = pass_on (Arguments c (entry ∷ more) (telling_place list (entry ∷ more)) args [])

  -- 3.4 Results

  pass_script : (w : IdlTerm) → Is (to_script list w)
  pass_script UndefinedValue = pass_end _
  pass_script NullValue = pass_end _
  pass_script MissingValue = pass_end _
  pass_script (BooleanValue b) = pass_end _
  pass_script (IntegerValue n) = pass_if (nat_le (nat_abs n) (2 ^ 64)) _ _ (pass_end _) (pass_end _)
  pass_script (StringValue units) = pass_end _
  pass_script (EnumerationValue n place) = pass_end _
  pass_script (ObjectValue o) = pass_end _
  pass_script (AnyValue v) = pass_end _
  pass_script (SequenceValue items) = pass_on (OutItems ArrayOf items [])
  pass_script (RecordValue es) = pass_on (OutItems (ObjectOf (entry_names es)) (entry_items es) [])
  pass_script (DictionaryValue n ms) = pass_on (OutItems (ObjectOf (member_names list ms)) (member_items ms) [])
  pass_script (PromiseValue o) = pass_end _

  pass_items : (container : Container) (left : IdlTerms) (made : List Value) → Is (out_items container left made)
  pass_items container no_values made = pass_on (OutUnits (length made) container made)
  pass_items container (more_values w left) made = pass_returned (item_task w) _ (λ v. pass_on (OutItems container left (made ++ v ∷ [])))

  pass_units : (left : ℕ) (container : Container) (made : List Value) → Is (out_units left container made)
  pass_units zero container made = pass_ask (container_ask container made) returns (λ v. pass_end _)
  pass_units (suc left) container made = pass_say UnitAsk _ (λ v f. f) (λ a. pass_on (OutUnits left container made))

  -- 4. All tasks

  pass_rule : (t : Task) → Is (rule built list t)
  pass_rule (Primitive hint v) = pass_primitive hint v
  pass_rule (Scalar want v) = pass_scalar want v
  pass_rule (Convert t v) = pass_if (built.to_type t) _ _ (pass_type t v) (pass_end _)
  pass_rule (SequenceFrom t o method) = pass_sequence_from t o method
  pass_rule (Turns t iterator next made) = pass_turns t iterator next made
  pass_rule (Entries key t o left made) = pass_entries key t o left made
  pass_rule (Members n o left made) = pass_if (built.to_type (DictionaryType n)) _ _ (pass_members n o left made) (pass_end _)
  pass_rule (Resolve c args) = pass_entries_kept c _ _
  pass_rule (Arguments c entries d left made) = pass_arguments c entries d left made
  pass_rule (Default t l) = pass_default t l
  pass_rule (Defaults c e made) = pass_defaults c e made (slice_get (declared_args list c e) (length made))
  pass_rule (Out t w) = pass_if (built.to_script w) _ _ (pass_script w) (pass_end _)
  pass_rule (OutItems container left made) = pass_items container left made
  pass_rule (OutUnits left container made) = pass_units left container made

  pub no_ask_after_fault : FaultsEnd (rule built list)
  no_ask_after_fault = faults_end (rule built list) (λ j. (pass_rule j).on)
