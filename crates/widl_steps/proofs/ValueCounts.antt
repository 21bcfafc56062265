-- How many values an overload is chosen with, and of which arguments nothing is asked.
use Rattle.std.proofs.Common.{◌&&◌, ◌≡◌, ℕ, zero, suc, ◌+◌, ◌≤◌, Bool, true, false, if◌then◌else◌, List, [], ◌∷◌, ◌++◌, length, take, drop, min, Option, None, Some, Result, refl, sym, ap, subst, ◌∙◌, arith}
use Rattle.std.specs.Prelude.{ℤ, codes, nat_eq, slice_get}
use Rattle.std.specs.List.{list_any}
use Rattle.std.specs.declared.result.Result.TheVariants as results
use Rattle.std.proofs.lemmas.List.{length-append, length-take}
use Rattle.widl_dialog.specs.Dialog.{End, Say, Steps, bind}
use Rattle.widl_dialog.specs.Conversation.{Ends, Comes, Reads}
use Rattle.widl_idl.specs.declared.callee.Callee.{Callee}
use Rattle.widl_idl.specs.declared.literal.Literal.{Literal}
use Rattle.widl_idl.specs.declared.literal.Literal.TheVariants as literals
use Rattle.widl_idl.specs.declared.text_kind.TextKind.{TextKind}
use Rattle.widl_idl.specs.declared.text_kind.TextKind.TheVariants as texts
use Rattle.widl_idl.specs.DefinitionTerms.{DefsTerm, ArgTerm, SigTerm}
use Rattle.widl_idl.specs.Terms.{TypeTerm, IntegerType, StringType, EnumerationType, ObjectType, TypeTerms, AnyType, SequenceType, RecordType, DictionaryType, NullableType, UnionType}
use Rattle.widl_overload.specs.sets.Entries.{declared_args, is_variadic_list, optionality_at, overloads_of, type_at}
use Rattle.widl_overload.specs.sets.Sets.{TupleTerm, is_variadic, longest}
use Rattle.widl_value.specs.Classes.{class_of}
use Rattle.widl_value.specs.declared.number.Number.{Number}
use Rattle.widl_value.specs.declared.object.ObjRef.{ObjRef}
use Rattle.widl_value.specs.declared.object.Shape.{Shape}
use Rattle.widl_value.specs.declared.object.Shape.TheVariants as shapes
use Rattle.widl_value.specs.declared.value.Value.{Value}
use Rattle.widl_value.specs.declared.value.Value.TheVariants as values
use Rattle.widl_value.specs.IdlTerms.{IdlTerm, StringValue}
use Rattle.widl_scalar.specs.declared.int.NotInRange.{NotInRange}
use Rattle.widl_scalar.specs.declared.primitives.ValueNumber.{ValueNumber}
use Rattle.widl_scalar.specs.declared.primitives.ValueNumber.TheVariants as read
use Rattle.widl_scalar.specs.declared.primitives.ValueText.{ValueText}
use Rattle.widl_scalar.specs.declared.primitives.ValueText.TheVariants as written
use Rattle.widl_scalar.specs.Enumerations.{value_place}
use Rattle.widl_scalar.specs.Primitives.{number_in, text_in, truth_of}
use Rattle.widl_scalar.specs.Scalars.{integer_of}
use Rattle.widl_trace.specs.declared.code.Code.{Code}
use Rattle.widl_trace.specs.declared.code.Code.TheVariants as code
use Rattle.widl_tables.specs.declared.pick.Pick.{Pick}
use Rattle.widl_tables.specs.declared.pick.Pick.TheVariants.{Entry, Probe, Refuse}
use Rattle.widl_tables.specs.Kept.{argcount_of, counted_args, entry_alone, kept_tuples}
use Rattle.widl_tables.specs.Picks.{pick_of, pick_member_of}
use Rattle.widl_steps.specs.declared.hint.Hint.{Hint}
use Rattle.widl_steps.specs.declared.hint.Hint.TheVariants.{PrefersNumber, PrefersString}
use Rattle.widl_steps.specs.declared.want.Want.{Want}
use Rattle.widl_steps.specs.declared.want.Want.TheVariants as wants
use Rattle.widl_steps.specs.AskTerms.{AnswerTerm, NormalAnswer, ThrownAnswer, Fits}
use Rattle.widl_steps.specs.Built.{Built}
use Rattle.widl_steps.specs.Defaults.{default, defaults_from, literal_value}
use Rattle.widl_steps.specs.Laws.{Said}
use Rattle.widl_steps.specs.Primitives.{tried, found_ordinary, try_method, ordinary, primitive_result, found_method, object_to_primitive, to_primitive}
use Rattle.widl_steps.specs.Resolution.{with_entries, default_at, takes_default, argument, by_entry, by_pick, of_several, from_method, kept, sequence_given}
use Rattle.widl_steps.specs.ResolutionLaws.{OthersAreNotLookedAt, ValuesAreCounted, before_variadic, value_count}
use Rattle.widl_steps.specs.Rules.{rule}
use Rattle.widl_steps.specs.Scalars.{to_number, to_text, to_scalar, integer_result, string_result, is_bytes, to_string, null_or_string, enumeration_result, to_plain, convert_plain, to_type}
use Rattle.widl_steps.specs.Sequences.{element, element_of, element_within, found_iterator_method, if_sequences, sequence_from, to_sequence, told_done, turn_given, turns, with_iterator, with_next}
use Rattle.widl_steps.specs.Records.{entries, entry_value, flags_in, is_enumerable, named, to_record}
use Rattle.widl_steps.specs.Dictionaries.{member_given, member_value, members, to_dictionary, undefined_member}
use Rattle.widl_tables.specs.MemberOrder.{DeclaredMember}
use Rattle.widl_steps.specs.Nullables.{to_nullable}
use Rattle.widl_steps.specs.Unions.{member_from, member_picked, member_probed, to_member, to_union, without_iterator}
use Rattle.widl_tables.specs.Tests.{is_null_or_undefined}
use Rattle.widl_idl.specs.Flattened.{flattened_members, includes_nullable_type}
use Rattle.widl_text.specs.declared.key.Key.{Key}
use Rattle.std.specs.Option.{option_and_then}
use Rattle.widl_steps.specs.Tasks.{Task, Primitive, Scalar, Convert, Resolve, Arguments, Default, Defaults, Out, TaskEnd, Gives, Plain, Picks, Throw, Rethrow, Profile, Talk, SequenceFrom, Turns, Entries, Members, OutItems, OutUnits}
use Rattle.widl_steps.specs.Words.{returns, fails, normal, object, object_or, if_callable, callable_or, method_or, given, returned, number, text, not_built}

-- 1. What the ends of a task are

abbrev NoPick : TaskEnd → Type 0
NoPick (Picks e ws) = ⊥
NoPick r = Unit {0}

-- an overload is picked with so many values
abbrev Counted : DefsTerm → Callee → ℕ → TaskEnd → Type 0
Counted list c n (Picks e ws) = length ws ≡ value_count list c n e
Counted list c n r = Unit {0}

-- it is this overload
abbrev CountedOf : DefsTerm → Callee → ℕ → ℕ → TaskEnd → Type 0
CountedOf list c e n (Picks f ws) = (f ≡ e) × (length ws ≡ value_count list c n e)
CountedOf list c e n r = Unit {0}

abbrev EndsSo : DefsTerm → Task → TaskEnd → Type 0
EndsSo list (Primitive hint v) r = NoPick r
EndsSo list (Scalar want v) r = NoPick r
EndsSo list (Convert t v) r = NoPick r
EndsSo list (Default t l) r = NoPick r
EndsSo list (SequenceFrom t o method) r = NoPick r
EndsSo list (Turns t iterator next made) r = NoPick r
EndsSo list (Entries key t o left made) r = NoPick r
EndsSo list (Members n o left made) r = NoPick r
EndsSo list (Out t w) r = Unit {0}
EndsSo list (OutItems container left made) r = Unit {0}
EndsSo list (OutUnits left container made) r = Unit {0}
EndsSo list (Resolve c args) r = Counted list c (argcount_of list c (length args)) r
EndsSo list (Arguments c entries place left made) r = Counted list c (length made + length left) r
EndsSo list (Defaults c e made) r = CountedOf list c e (length made) r

module _ (built : Built) (list : DefsTerm) where
  -- each end of these steps is so, where the ends of their tasks are
  abbrev Each : (TaskEnd → Type 0) → Talk → Type 0
  Each P (End r) = P r
  Each P (Say q k) = (a : AnswerTerm) → Each P (k a)
  Each P (Steps j k) = (r : TaskEnd) → EndsSo list j r → Each P (k r)

  each_bind : (P Q : TaskEnd → Type 0) (d : Talk) (k : TaskEnd → Talk) → Each Q d → ((r : TaskEnd) → Q r → Each P (k r)) → Each P (bind d k)
  each_bind P Q (End r) k x all = all r x
  each_bind P Q (Say q f) k x all = λ a. each_bind P Q (f a) k (x a) all
  each_bind P Q (Steps j f) k x all = λ r h. each_bind P Q (f r) k (x r h) all

  each_read : (rules : Task → Talk) → ((j : Task) → Each (EndsSo list j) (rules j)) → (P : TaskEnd → Type 0) (m : ℕ) (d : Talk) (said : Said) (r : TaskEnd) → Each P d → Reads rules Fits m d said (Ends r) → P r
  each_read rules all P zero d said r x reads = absurd reads
  each_read rules all P (suc m) (End s) [] r x reads = (let same : r ≡ s = cc in subst P (sym same) x)
  each_read rules all P (suc m) (End s) (p ∷ said) r x reads = absurd reads
  each_read rules all P (suc m) (Say q k) [] r x reads = absurd (cc)
  each_read rules all P (suc m) (Say q k) (p ∷ said) r x reads = each_read rules all P m (k p.1) said r (x p.1) reads.2
  each_read rules all P (suc m) (Steps j k) said r x reads = each_read rules all P m (bind (rules j) k) said r (each_bind P (EndsSo list j) (rules j) k (all j) x) reads

  -- 2. Conversions pick no overload

  abbrev No : Talk → Type 0
  No d = Each NoPick d

  no_normal : (k : Value → Talk) → ((v : Value) → No (k v)) → (a : AnswerTerm) → No (normal k a)
  no_normal k all (NormalAnswer v) = all v
  no_normal k all (ThrownAnswer v) = tt
  no_normal k all a = all values.Undefined

  no_object_or : (d : Value → Talk) (k : ObjRef → Talk) → ((v : Value) → No (d v)) → ((o : ObjRef) → No (k o)) → (v : Value) → No (object_or d k v)
  no_object_or d k x all (values.Obj o) = all o
  no_object_or d k x all v = x v

  no_shape : (s : Shape) (d e : Talk) → No d → No e → No (if_callable s d e)
  no_shape shapes.Callable d e x y = x
  no_shape s d e x y = y

  no_callable : (d : Talk) (k : ObjRef → Talk) → No d → ((o : ObjRef) → No (k o)) → (v : Value) → No (callable_or d k v)
  no_callable d k x all (values.Obj o) = no_shape o.shape (k o) d (all o) x
  no_callable d k x all v = x

  no_method : (d : Talk) (k : ObjRef → Talk) → No d → ((o : ObjRef) → No (k o)) → (v : Value) → No (method_or d k v)
  no_method d k x all values.Undefined = x
  no_method d k x all values.Null = x
  no_method d k x all (values.Obj o) = no_shape o.shape (k o) (fails code.NotCallable) (all o) tt
  no_method d k x all v = tt

  no_returned : (k : Value → Talk) → ((v : Value) → No (k v)) → (r : TaskEnd) → NoPick r → No (returned k r)
  no_returned k all (Plain v) h = all v
  no_returned k all r h = h

  no_number : (k : Number → Talk) → ((n : Number) → No (k n)) → (r : TaskEnd) → NoPick r → No (number k r)
  no_number k all (Plain (values.Num n)) h = all n
  no_number k all r h = h

  no_text : (k : List ℕ → Talk) → ((units : List ℕ) → No (k units)) → (r : TaskEnd) → NoPick r → No (text k r)
  no_text k all (Plain (values.Str units)) h = all units
  no_text k all r h = h

  no_if : (b : Bool) (d e : Talk) → No d → No e → No (if b then d else e)
  no_if true d e x y = x
  no_if false d e x y = y

  no_tried : (d : Talk) → No d → (v : Value) → No (tried d v)
  no_tried d x v = no_object_or returns (λ o. d) (λ p. tt) (λ o. x) v

  no_try : (o : ObjRef) (name : List ℕ) (d : Talk) → No d → No (try_method o name d)
  no_try o name d x = λ a. no_normal (found_ordinary o d) (λ v. no_callable d _ x (λ f b. no_normal (tried d) (no_tried d x) b) v) a

  no_ordinary : (hint : Hint) (o : ObjRef) → No (ordinary hint o)
  no_ordinary PrefersNumber o = no_try o (codes "valueOf") (try_method o (codes "toString") (fails code.Primitive)) (no_try o (codes "toString") (fails code.Primitive) tt)
  no_ordinary PrefersString o = no_try o (codes "toString") (try_method o (codes "valueOf") (fails code.Primitive)) (no_try o (codes "valueOf") (fails code.Primitive) tt)

  no_primitive : (hint : Hint) (v : Value) → No (to_primitive hint v)
  no_primitive hint v =
      no_object_or returns (object_to_primitive hint) (λ p. tt)
      (λ o a. no_normal (found_method hint o) (λ m. no_method (ordinary hint o) _ (no_ordinary hint o) (λ f b. no_normal primitive_result (λ p. no_object_or returns (λ q. fails code.Primitive) (λ q. tt) (λ q. tt) p) b) m) a) v

  no_to_number : (v : Value) (r : ValueNumber) → No (to_number v r)
  no_to_number v read.Object = λ r h. no_returned (λ p. Steps (Scalar wants.Number p) End) (λ p s g. g) r h
  no_to_number v r = tt

  no_to_text : (v : Value) (r : ValueText) → No (to_text v r)
  no_to_text v written.Object = λ r h. no_returned (λ p. Steps (Scalar wants.Text p) End) (λ p s g. g) r h
  no_to_text v r = tt

  no_scalar : (want : Want) (v : Value) → No (to_scalar want v)
  no_scalar wants.Number v = no_to_number v (number_in v)
  no_scalar wants.Text v = no_to_text v (text_in v)
  no_scalar wants.Length v = λ r h. no_number _ (λ n. tt) r h

  no_integer : (r : Result ℤ NotInRange) → No (integer_result r)
  no_integer (results.Ok n) = tt
  no_integer (results.Err e) = tt

  no_string_result : (kind : TextKind) (units : List ℕ) → No (string_result kind units)
  no_string_result texts.Dom units = tt
  no_string_result texts.Usv units = tt
  no_string_result texts.Byte units = no_if (is_bytes units) _ (fails code.Byte) tt tt

  no_string : (kind : TextKind) (v : Value) → No (to_string kind v)
  no_string kind v = λ r h. no_text (string_result kind) (no_string_result kind) r h

  no_null_or_string : (null_empty : Bool) (kind : TextKind) (v : Value) → No (null_or_string null_empty kind v)
  no_null_or_string null_empty kind values.Null = no_if null_empty _ (to_string kind values.Null) tt (no_string kind values.Null)
  no_null_or_string null_empty kind v = no_string kind v

  no_enumeration : (n : ℕ) (place : Option ℕ) → No (enumeration_result n place)
  no_enumeration n (Some place) = tt
  no_enumeration n None = tt

  no_object : (c : Code) (k : ObjRef → Talk) → ((o : ObjRef) → No (k o)) → (v : Value) → No (object c k v)
  no_object c k all (values.Obj o) = all o
  no_object c k all v = tt

  no_given : (k : IdlTerm → Talk) → ((w : IdlTerm) → No (k w)) → (r : TaskEnd) → NoPick r → No (given k r)
  no_given k all (Gives w) h = all w
  no_given k all r h = h

  no_told_done : (t : TypeTerm) (iterator next : ObjRef) (made : List IdlTerm) (turn : ObjRef) (v : Value) → No (told_done t iterator next made turn v)
  no_told_done t iterator next made turn v = no_if (truth_of v) _ _ tt (λ a. no_normal (element t iterator next made) (λ w r h. no_given _ (λ x s g. g) r h) a)

  no_turns : (t : TypeTerm) (iterator next : ObjRef) (made : List IdlTerm) → No (turns t iterator next made)
  no_turns t iterator next made = λ a. no_normal (turn_given t iterator next made)
      (λ v. no_object code.Result _ (λ turn b. no_normal (told_done t iterator next made turn) (no_told_done t iterator next made turn) b) v) a

  no_sequence_from : (t : TypeTerm) (o method : ObjRef) → No (sequence_from t o method)
  no_sequence_from t o method = λ a. no_normal (with_iterator t)
      (λ v. no_object code.Iterator _ (λ iterator b. no_normal (with_next t iterator) (λ n. no_callable (fails code.NotCallable) _ tt (λ next s g. g) n) b) v) a

  no_to_sequence : (t : TypeTerm) (v : Value) → No (to_sequence t v)
  no_to_sequence t v = no_object code.NotObject _ (λ o a. no_normal (found_iterator_method t o) (λ m. no_method (fails code.NotIterable) _ tt (λ method s g. g) m) a) v

  no_named : (k : List ℕ → Talk) → ((name : List ℕ) → No (k name)) → (r : TaskEnd) → NoPick r → No (named k r)
  no_named k all (Gives (StringValue name)) h = all name
  no_named k all r h = h

  no_entries : (kind : TextKind) (t : TypeTerm) (o : ObjRef) (left : List Key) (made : List (List ℕ × IdlTerm)) → No (entries kind t o left made)
  no_entries kind t o [] made = tt
  no_entries kind t o (key ∷ left) made = λ a. no_if (is_enumerable (flags_in a)) _ _
      (λ r h. no_named _ (λ name b. no_normal (entry_value kind t o left made name) (λ v s g. no_given _ (λ w q e. e) s g) b) r h) (λ s g. g)

  no_to_record : (kind : TextKind) (t : TypeTerm) (v : Value) → No (to_record kind t v)
  no_to_record kind t v = no_object code.NotObject _ (λ o a s g. g) v

  no_member_given : (n : ℕ) (o : Option ObjRef) (m : DeclaredMember) (left : List DeclaredMember) (made : List (ℕ × ℕ × IdlTerm)) (r : TaskEnd) → NoPick r → No (member_given n o m left made r)
  no_member_given n o m left made r h = no_given _ (λ w s g. g) r h

  no_undefined_member : (n : ℕ) (o : Option ObjRef) (m : DeclaredMember) (left : List DeclaredMember) (made : List (ℕ × ℕ × IdlTerm)) (l : Option Literal) → No (undefined_member n o m left made l)
  no_undefined_member n o m left made (Some l) = λ r h. no_member_given n o m left made r h
  no_undefined_member n o m left made None = no_if m.member.needed _ _ tt (λ s g. g)

  no_member_value : (n : ℕ) (o : Option ObjRef) (m : DeclaredMember) (left : List DeclaredMember) (made : List (ℕ × ℕ × IdlTerm)) (v : Value) → No (member_value n o m left made v)
  no_member_value n o m left made values.Undefined = no_undefined_member n o m left made m.member.value
  no_member_value n o m left made v = λ r h. no_member_given n o m left made r h

  no_members : (n : ℕ) (o : Option ObjRef) (left : List DeclaredMember) (made : List (ℕ × ℕ × IdlTerm)) → No (members n o left made)
  no_members n o [] made = tt
  no_members n (Some o) (m ∷ left) made = λ a. no_normal (member_value n (Some o) m left made) (no_member_value n (Some o) m left made) a
  no_members n None (m ∷ left) made = λ a. no_undefined_member n None m left made m.member.value

  no_to_dictionary : (n : ℕ) (v : Value) → No (to_dictionary list n v)
  no_to_dictionary n values.Undefined = λ s g. g
  no_to_dictionary n values.Null = λ s g. g
  no_to_dictionary n (values.Obj o) = λ s g. g
  no_to_dictionary n v = tt

  no_to_nullable : (inner : Value → Talk) → ((v : Value) → No (inner v)) → (v : Value) → No (to_nullable inner v)
  no_to_nullable inner all values.Undefined = tt
  no_to_nullable inner all values.Null = tt
  no_to_nullable inner all v = all v

  no_plain : (t : TypeTerm) (v : Value) → No (to_plain list t v)
  no_plain (IntegerType kind mode) v = λ r h. no_number _ (λ n. no_integer (integer_of n kind mode)) r h
  no_plain (StringType kind null_empty) v = no_null_or_string null_empty kind v
  no_plain (EnumerationType n) v = λ r h. no_text _ (λ units. no_enumeration n (value_place list.choices n units)) r h
  no_plain ObjectType v = no_object code.NotObject _ (λ o. tt) v
  no_plain (SequenceType t) v = no_to_sequence t v
  no_plain (RecordType key t) v = no_to_record key t v
  no_plain (DictionaryType n) v = no_to_dictionary n v
  no_plain t v = tt

  no_convert_plain : (t : TypeTerm) (v : Value) → No (convert_plain built list t v)
  no_convert_plain t v = no_if (built.to_type t) _ not_built (no_plain t v) tt

  no_to_member : (t : Option TypeTerm) (v : Value) → No (to_member (convert_plain built list) t v)
  no_to_member (Some t) v = no_convert_plain t v
  no_to_member None v = tt

  no_without_iterator : (ts : TypeTerms) (v : Value) (p : Pick) → No (without_iterator (convert_plain built list) ts v p)
  no_without_iterator ts v (Entry place) = no_to_member (slice_get (flattened_members ts) place) v
  no_without_iterator ts v p = tt

  no_member_from : (o method : ObjRef) (t : Option TypeTerm) → No (member_from o method t)
  no_member_from o method (Some t) = λ s g. g
  no_member_from o method None = tt

  no_member_probed : (ts : TypeTerms) (place : ℕ) (o : ObjRef) (v : Value) → No (member_probed (convert_plain built list) built list ts place o v)
  no_member_probed ts place o v = no_method _ _ (no_without_iterator ts (values.Obj o) (pick_member_of list ts (class_of (values.Obj o)) true))
      (λ method. no_if (built.to_type (SequenceType AnyType)) _ not_built (no_member_from o method (option_and_then element_of (slice_get (flattened_members ts) place))) tt) v

  no_member_picked : (ts : TypeTerms) (v : Value) (p : Pick) → No (member_picked (convert_plain built list) built list ts v p)
  no_member_picked ts v (Entry place) = no_to_member (slice_get (flattened_members ts) place) v
  no_member_picked ts v (Probe place) = no_object code.Union _ (λ o a. no_normal (member_probed (convert_plain built list) built list ts place o) (no_member_probed ts place o) a) v
  no_member_picked ts v Refuse = tt

  no_to_union : (ts : TypeTerms) (v : Value) → No (to_union (convert_plain built list) built list ts v)
  no_to_union ts v = no_if (includes_nullable_type (UnionType ts) && is_null_or_undefined (class_of v)) _ _ tt (no_member_picked ts v (pick_member_of list ts (class_of v) false))

  no_type : (t : TypeTerm) (v : Value) → No (to_type built list t v)
  no_type (NullableType t) v = no_to_nullable (to_type built list t) (no_type t) v
  no_type (UnionType ts) v = no_to_union ts v
  no_type t v = no_plain t v

  no_literal : (t : TypeTerm) (l : Literal) → No (literal_value list t l)
  no_literal t literals.EmptyDict = λ r h. h
  no_literal t l = tt

  no_default : (t : TypeTerm) (l : Option Literal) → No (default list t l)
  no_default t None = tt
  no_default t (Some l) = no_literal t l

  -- 3. The arguments

  none_more : (args : List ArgTerm) (k : ℕ) → slice_get args k ≡ None → before_variadic (drop k args) ≡ 0
  none_more [] zero is = refl
  none_more [] (suc k) is = refl
  none_more (a ∷ args) zero is = absurd (cc)
  none_more (a ∷ args) (suc k) is = none_more args k is

  one_more : (args : List ArgTerm) (k : ℕ) (a : ArgTerm) → slice_get args k ≡ Some a → before_variadic (drop k args) ≡ (if is_variadic a.opt then 0 else suc (before_variadic (drop (k + 1) args)))
  one_more [] k a is = absurd (grind arith)
  one_more (b ∷ args) zero a is = (let same : b ≡ a = cc in ap (λ (c : ArgTerm). if is_variadic c.opt then 0 else suc (before_variadic args)) same)
  one_more (b ∷ args) (suc k) a is = (let on : suc k + 1 ≡ suc (k + 1) = omega arith in one_more args k a is ∙ ap (λ n. if is_variadic a.opt then 0 else suc (before_variadic (drop n (b ∷ args)))) (sym on))

  abbrev Declares : Callee → ℕ → ℕ → Option ArgTerm → Type 0
  Declares c e k a = slice_get (declared_args list c e) k ≡ a

  counted_on : (c : Callee) (e k : ℕ) (w : IdlTerm) (made : List IdlTerm) → k ≡ length made → value_count list c (length (made ++ w ∷ [])) e ≡ suc k + before_variadic (drop (k + 1) (declared_args list c e))
  counted_on c e k w made is =
      let long : length (made ++ w ∷ []) ≡ k + 1 = length-append made (w ∷ []) ∙ ap (λ n. n + 1) (sym is) in
      let same : suc k ≡ k + 1 = omega arith in
      (λ i. long i + before_variadic (drop (long i) (declared_args list c e))) ∙ ap (λ n. n + before_variadic (drop (k + 1) (declared_args list c e))) (sym same)

  after_default : (c : Callee) (e : ℕ) (w : IdlTerm) (made : List IdlTerm) (a : ArgTerm) → Declares c e (length made) (Some a) → is_variadic a.opt ≡ false → (r : TaskEnd) → CountedOf list c e (length (made ++ w ∷ [])) r → CountedOf list c e (length made) r
  after_default c e w made a is fixed (Picks f ws) h =
      let more : before_variadic (drop (length made) (declared_args list c e)) ≡ suc (before_variadic (drop (length made + 1) (declared_args list c e)))
      = one_more (declared_args list c e) (length made) a is ∙ ap (λ b. if b then 0 else suc (before_variadic (drop (length made + 1) (declared_args list c e)))) fixed in
      (h.0, h.1 ∙ counted_on c e (length made) w made refl ∙ (omega (arith, more)))
  after_default c e w made a is fixed r h = tt

  defaults_counted : (c : Callee) (e : ℕ) (made : List IdlTerm) (a : Option ArgTerm) → Declares c e (length made) a → Each (CountedOf list c e (length made)) (defaults_from c e made a)
  defaults_counted c e made None is = (refl, omega (arith, none_more (declared_args list c e) (length made) is))
  defaults_counted c e made (Some a) is = by (is_variadic a.opt) refl
    where
      by : (v : Bool) → is_variadic a.opt ≡ v → Each (CountedOf list c e (length made)) (if v then End (Picks e made) else Steps (Default a.ty a.value) (given (λ w. Steps (Defaults c e (made ++ w ∷ [])) End)))
      by true variadic =
          let none : before_variadic (drop (length made) (declared_args list c e)) ≡ 0 = one_more (declared_args list c e) (length made) a is ∙ ap (λ v. if v then 0 else suc (before_variadic (drop (length made + 1) (declared_args list c e)))) variadic in
          (refl, omega (arith, none))
      by false fixed = λ r h. on r h
        where
          on : (r : TaskEnd) → NoPick r → Each (CountedOf list c e (length made)) (given (λ w. Steps (Defaults c e (made ++ w ∷ [])) End) r)
          on (Gives w) h = λ s g. after_default c e w made a is fixed s g
          on (Picks f ws) h = absurd h
          on r h = tt

  of_overload : (c : Callee) (e n m : ℕ) (r : TaskEnd) → n ≡ m → CountedOf list c e n r → Counted list c m r
  of_overload c e n m (Picks f ws) same h = h.1 ∙ (λ i. value_count list c (same i) (sym h.0 i))
  of_overload c e n m (Gives w) same h = tt
  of_overload c e n m (Plain v) same h = tt
  of_overload c e n m (Throw reason) same h = tt
  of_overload c e n m (Rethrow v) same h = tt
  of_overload c e n m (Profile k) same h = tt

  no_task : (b : Bool) (t : TypeTerm) (l : Option Literal) (v : Value) (r : TaskEnd) → EndsSo list (if b then Default t l else Convert t v) r → NoPick r
  no_task true t l v r h = h
  no_task false t l v r h = h

  -- after an argument, of which so many are left
  after_argument : (c : Callee) (entries : List TupleTerm) (place : ℕ) (left : List Value) (made : List IdlTerm) (n : ℕ) → n ≡ length made + suc (length left) → (r : TaskEnd) → NoPick r → Each (Counted list c n) (given (λ w. Steps (Arguments c entries place left (made ++ w ∷ [])) End) r)
  after_argument c entries place left made n is (Gives w) h = λ s g. subst (λ k. Counted list c k s) (omega (arith, length-append made (w ∷ []), is)) g
  after_argument c entries place left made n is (Picks f ws) h = absurd h
  after_argument c entries place left made n is r h = tt

  counted_argument : (c : Callee) (place : ℕ) (left : List Value) (made : List IdlTerm) (n : ℕ) → n ≡ length made + suc (length left) → (v : Value) (entries : List TupleTerm) → Each (Counted list c n) (argument list c place left made v entries)
  counted_argument c place left made n is v [] = tt
  counted_argument c place left made n is v (entry ∷ more) =
      λ r h. after_argument c (entry ∷ more) place left made n is r
      (no_task (takes_default (optionality_at entry (length made)) v) (type_at entry (length made)) (default_at list c entry.overload (length made)) v r h)

  each_if : (P : TaskEnd → Type 0) (b : Bool) (d e : Talk) → Each P d → Each P e → Each P (if b then d else e)
  each_if P true d e x y = x
  each_if P false d e x y = y

  counted_sequence : (c : Callee) (place : ℕ) (left : List Value) (made : List IdlTerm) (n : ℕ) → n ≡ length made + suc (length left) → (entries : List TupleTerm) (o method : ObjRef) (t : Option TypeTerm) → Each (Counted list c n) (sequence_given list c place left made entries o method t)
  counted_sequence c place left made n is entries o method (Some t) = λ r h. after_argument c entries place left made n is r h
  counted_sequence c place left made n is entries o method None = tt

  counted_from : (c : Callee) (place : ℕ) (left : List Value) (made : List IdlTerm) (n : ℕ) → n ≡ length made + suc (length left) → (o method : ObjRef) (entries : List TupleTerm) → Each (Counted list c n) (from_method list c place left made o method entries)
  counted_from c place left made n is o method [] = tt
  counted_from c place left made n is o method (entry ∷ more) = counted_sequence c place left made n is (entry ∷ more) o method (element_within (type_at entry (length made)))

  counted_kept : (c : Callee) (place : ℕ) (left : List Value) (made : List IdlTerm) (n : ℕ) → n ≡ length made + suc (length left) → (v : Value) (found : Option (ObjRef × ObjRef)) (entries : List TupleTerm) → Each (Counted list c n) (kept list c place left made v found entries)
  counted_kept c place left made n is v None entries = counted_argument c place left made n is v entries
  counted_kept c place left made n is v (Some found) entries = counted_from c place left made n is found.0 found.1 entries

  counted_normal : (c : Callee) (n : ℕ) (k : Value → Talk) → ((v : Value) → Each (Counted list c n) (k v)) → (a : AnswerTerm) → Each (Counted list c n) (normal k a)
  counted_normal c n k all (NormalAnswer v) = all v
  counted_normal c n k all (ThrownAnswer v) = tt
  counted_normal c n k all a = all values.Undefined

  counted_method : (c : Callee) (n : ℕ) (d : Talk) (k : ObjRef → Talk) → Each (Counted list c n) d → ((method : ObjRef) → Each (Counted list c n) (k method)) → (v : Value) → Each (Counted list c n) (method_or d k v)
  counted_method c n d k x all values.Undefined = x
  counted_method c n d k x all values.Null = x
  counted_method c n d k x all (values.Obj method) = by method.shape
    where
      by : (s : Shape) → Each (Counted list c n) (if_callable s (k method) (fails code.NotCallable))
      by shapes.Callable = all method
      by s = tt
  counted_method c n d k x all v = tt

  counted_by_entry : (c : Callee) (n : ℕ) (k : List TupleTerm → Talk) → ((entries : List TupleTerm) → Each (Counted list c n) (k entries)) → (entries : List TupleTerm) (p : Pick) → Each (Counted list c n) (by_entry k entries p)
  counted_by_entry c n k all entries (Entry e) = all (entry_alone e entries)
  counted_by_entry c n k all entries p = tt

  counted_by_pick : (c : Callee) (n place : ℕ) (v : Value) (k : Option (ObjRef × ObjRef) → List TupleTerm → Talk) → ((found : Option (ObjRef × ObjRef)) (entries : List TupleTerm) → Each (Counted list c n) (k found entries)) → (entries : List TupleTerm) (p : Pick) → Each (Counted list c n) (by_pick built list place v k entries p)
  counted_by_pick c n place v k all entries (Entry e) = all None (entry_alone e entries)
  counted_by_pick c n place (values.Obj o) k all entries (Probe e) =
      λ a. counted_normal c n
      (method_or (by_entry (k None) entries (pick_of list entries place (class_of (values.Obj o)) true)) (λ method. if_sequences built (k (Some (o, method)) (entry_alone e entries))))
      (counted_method c n _ _ (counted_by_entry c n (k None) (all None) entries (pick_of list entries place (class_of (values.Obj o)) true))
      (λ method. each_if (Counted list c n) (built.to_type (SequenceType AnyType)) _ not_built (all (Some (o, method)) (entry_alone e entries)) tt)) a
  counted_by_pick c n place v k all entries (Probe e) = tt
  counted_by_pick c n place v k all entries Refuse = tt

  counted_several : (c : Callee) (place : ℕ) (left : List Value) (made : List IdlTerm) (v : Value) (entries : List TupleTerm) → Each (Counted list c (length made + suc (length left))) (of_several built list c place left made v entries)
  counted_several c place left made v entries =
      each_if (Counted list c (length made + suc (length left))) (nat_eq (length made) place) _ _
      (counted_by_pick c (length made + suc (length left)) place v _ (counted_kept c place left made (length made + suc (length left)) refl v) entries (pick_of list entries place (class_of v) false))
      (counted_argument c place left made (length made + suc (length left)) refl v entries)

  few_count : (sigs : List SigTerm) (n : ℕ) → counted_args sigs n ≤ n
  few_count sigs n = by (list_any (λ (s : SigTerm). is_variadic_list s.args) sigs)
    where
      by : (b : Bool) → (if b then n else min n (longest sigs)) ≤ n
      by true = omega arith
      by false = omega arith

  abbrev So : Task → Type 0
  So t = Each (EndsSo list t) (rule built list t)

  so_arguments : (c : Callee) (entries : List TupleTerm) (place : ℕ) (left : List Value) (made : List IdlTerm) → So (Arguments c entries place left made)
  so_arguments c [] place left made = tt
  so_arguments c (entry ∷ []) place [] made = λ r h. of_overload c entry.overload (length made) (length made + 0) r (omega arith) h
  so_arguments c (entry ∷ []) place (v ∷ left) made = counted_argument c place left made (length made + suc (length left)) refl v (entry ∷ [])
  so_arguments c (entry ∷ other ∷ more) place [] made = tt
  so_arguments c (entry ∷ other ∷ more) place (v ∷ left) made = counted_several c place left made v (entry ∷ other ∷ more)

  so_resolve : (c : Callee) (entries : List TupleTerm) (args : List Value) → Each (Counted list c (argcount_of list c (length args))) (with_entries list c entries (take (argcount_of list c (length args)) args))
  so_resolve c [] args = tt
  so_resolve c (entry ∷ more) args =
      let long : 0 + length (take (argcount_of list c (length args)) args) ≡ argcount_of list c (length args) = omega (arith, length-take (argcount_of list c (length args)) args, few_count (overloads_of list c) (length args)) in
      λ r h. subst (λ k. Counted list c k r) long h

  anything : (d : Talk) → Each (λ r. Unit {0}) d
  anything (End r) = tt
  anything (Say q k) = λ a. anything (k a)
  anything (Steps j k) = λ r h. anything (k r)

  so : (t : Task) → So t
  so (Primitive hint v) = no_primitive hint v
  so (Scalar want v) = no_scalar want v
  so (Convert t v) = no_if (built.to_type t) (to_type built list t v) (End (Profile 99)) (no_type t v) tt
  so (Resolve c args) = so_resolve c (kept_tuples list c (length args)) args
  so (Arguments c entries place left made) = so_arguments c entries place left made
  so (Default t l) = no_default t l
  so (Defaults c e made) = defaults_counted c e made (slice_get (declared_args list c e) (length made)) refl
  so (SequenceFrom t o method) = no_sequence_from t o method
  so (Turns t iterator next made) = no_turns t iterator next made
  so (Entries key t o left made) = no_entries key t o left made
  so (Members n o left made) = no_if (built.to_type (DictionaryType n)) (members n o left made) not_built (no_members n o left made) tt
  so (Out t w) = anything (rule built list (Out t w))
  so (OutItems container left made) = anything (rule built list (OutItems container left made))
  so (OutUnits left container made) = anything (rule built list (OutUnits left container made))

  pub values_counted : ValuesAreCounted (rule built list) list
  values_counted c args talk e ws x = each_read (rule built list) so (Counted list c (argcount_of list c (length args))) x.0 (rule built list (Resolve c args)) talk (Picks e ws) (so (Resolve c args)) x.1

  pub others_left : OthersAreNotLookedAt (rule built list) list
  others_left c args others said next long same x =
      let one : rule built list (Resolve c args) ≡ rule built list (Resolve c others)
      = ap (with_entries list c (kept_tuples list c (length args))) same ∙ ap (λ (n : ℕ). with_entries list c (kept_tuples list c n) (take (argcount_of list c n) others)) long in
      subst (λ (d : Talk). Comes (rule built list) Fits d said next) one x
