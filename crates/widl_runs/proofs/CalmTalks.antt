-- For proofs alone. The tasks of conversations are calm: between two asks that pay they only go to lower ones.
use Rattle.std.proofs.Common.{◌≡◌, ℕ, zero, suc, ◌+◌, ◌^◌, ◌<◌, ℤ, List, [], ◌∷◌, ◌++◌, Option, Some, None, Bool, true, false, length, refl, ap, arith, if◌then◌else◌}
use Rattle.std.specs.Prelude.{◌&&◌, codes, nat_abs, nat_eq, nat_le, slice_get, take}
use Rattle.std.specs.declared.result.Result.{Result}
use Rattle.std.specs.declared.result.Result.TheVariants as results
use Rattle.std.proofs.lemmas.Bool.{cond_both}
use Rattle.std.proofs.lemmas.Option.{slice_get_within}
use Rattle.std.proofs.lemmas.List.{length-append, length-take}
use mathlib.Core.Logic.{inl, inr}
use Rattle.widl_dialog.specs.Dialog.{End, Say, Steps}
use Rattle.widl_dialog.specs.Calm.{Below, Calm, Spends}
use Rattle.widl_dialog.specs.Lift.{lift}
use Rattle.widl_dialog.specs.Rename.{rename}
use Rattle.widl_idl.specs.declared.callee.Callee.{Callee}
use Rattle.widl_idl.specs.declared.callee.Owner.{Owner}
use Rattle.widl_idl.specs.declared.callee.Owner.TheVariants as owners
use Rattle.widl_idl.specs.declared.literal.Literal.{Literal}
use Rattle.widl_idl.specs.declared.literal.Literal.TheVariants as literals
use Rattle.widl_idl.specs.declared.text_kind.TextKind.{TextKind}
use Rattle.widl_idl.specs.declared.text_kind.TextKind.TheVariants as texts
use Rattle.widl_idl.specs.DefinitionTerms.{ArgTerm}
use Rattle.widl_idl.specs.Flattened.{flattened_members, includes_nullable_type}
use Rattle.widl_idl.specs.Terms.{TypeTerm, TypeTerms, AnyType, UndefinedType, BooleanType, IntegerType, StringType, EnumerationType, InterfaceType, CallbackFunctionType, CallbackInterfaceType, DictionaryType, ObjectType, SequenceType, RecordType, PromiseType, NullableType, UnionType}
use Rattle.widl_overload.specs.sets.Entries.{declared_args, optionality_at, type_at}
use Rattle.widl_overload.specs.sets.Sets.{TupleTerm, is_variadic}
use Rattle.widl_text.specs.declared.key.Key.{Key}
use Rattle.widl_text.specs.declared.key.Key.TheVariants as keys
use Rattle.widl_value.specs.Classes.{class_of}
use Rattle.widl_value.specs.declared.number.Number.{Number}
use Rattle.widl_value.specs.declared.object.ObjRef.{ObjRef}
use Rattle.widl_value.specs.declared.value.Value.{Value}
use Rattle.widl_value.specs.declared.value.Value.TheVariants as values
use Rattle.widl_value.specs.IdlTerms.{IdlTerm, IdlTerms, EntryTerms, MemberTerms, no_values, more_values, no_entries, more_entries, no_members, more_members, UndefinedValue, NullValue, MissingValue, BooleanValue, IntegerValue, StringValue, EnumerationValue, ObjectValue, AnyValue, SequenceValue, RecordValue, DictionaryValue, PromiseValue}
use Rattle.widl_value.specs.Rounding.{nearest_of}
use Rattle.widl_scalar.specs.declared.int.NotInRange.{NotInRange}
use Rattle.widl_scalar.specs.declared.numerals.Read.{Read}
use Rattle.widl_scalar.specs.declared.numerals.Read.TheVariants as reads
use Rattle.widl_scalar.specs.NumeralWords.{read_of}
use Rattle.widl_scalar.specs.Enumerations.{value_place}
use Rattle.widl_scalar.specs.Primitives.{given_by}
use Rattle.widl_scalar.specs.Scalars.{integer_of}
use Rattle.widl_scalar.specs.WhiteSpace.{trimmed}
use Rattle.widl_store.specs.declared.inner.Builtin.{Builtin}
use Rattle.widl_store.specs.declared.inner.Builtin.TheVariants as builtins
use Rattle.widl_store.specs.declared.inner.Turn.{Turn}
use Rattle.widl_store.specs.declared.inner.Turn.TheVariants.{Idle, Running, Ended}
use Rattle.widl_tables.specs.Picks.{pick_of, pick_member_of}
use Rattle.widl_tables.specs.Tests.{is_null_or_undefined}
use Rattle.widl_tables.specs.Kept.{argcount_of, entry_alone, kept_tuples}
use Rattle.widl_tables.specs.declared.pick.Pick.{Pick}
use Rattle.widl_tables.specs.declared.pick.Pick.TheVariants.{Entry, Probe, Refuse}
use Rattle.widl_trace.specs.declared.code.Code.{Code}
use Rattle.widl_trace.specs.declared.code.Code.TheVariants as code
use Rattle.widl_steps.specs.declared.answer.CursorState.{CursorState}
use Rattle.widl_steps.specs.declared.answer.CursorState.TheVariants as cursors
use Rattle.widl_steps.specs.declared.hint.Hint.{Hint}
use Rattle.widl_steps.specs.declared.want.Want.{Want}
use Rattle.widl_steps.specs.declared.want.Want.TheVariants as wants
use Rattle.widl_steps.specs.declared.ask.Look.TheVariants as looks
use Rattle.widl_steps.specs.AskTerms.{LookAsk, GetAsk, OwnKeysAsk}
use Rattle.widl_steps.specs.Built.{built_today, is_built_type}
use Rattle.widl_steps.specs.Defaults.{default, default_given, defaults_from, literal_value}
use Rattle.widl_steps.specs.Dictionaries.{members, to_dictionary}
use Rattle.widl_tables.specs.MemberOrder.{DeclaredMember}
use Rattle.widl_steps.specs.Nullables.{to_nullable}
use Rattle.widl_steps.specs.Primitives.{to_primitive}
use Rattle.widl_steps.specs.Records.{entries, keys_in}
use Rattle.widl_steps.specs.Resolution.{argument, argument_given, arguments, by_pick, default_at, kept, takes_default, with_entries}
use Rattle.widl_steps.specs.Results.{entry_items, member_items, out, out_items, out_units}
use Rattle.widl_steps.specs.Rules.{rule as task_rule}
use Rattle.widl_steps.specs.Scalars.{convert, convert_plain, enumeration_result, integer_result, is_bytes, null_or_string, string_result, to_number, to_plain, to_scalar, to_string, to_type}
use Rattle.widl_steps.specs.Sequences.{found_iterator_method, iterator_symbol}
use Rattle.widl_steps.specs.Tasks.{Task, Primitive, Scalar, Convert, SequenceFrom, Turns, Entries, Members, Resolve, Arguments, Default, Defaults, Out, OutItems, OutUnits, Container, ArrayOf, ObjectOf, TaskEnd, Gives, Plain, Picks, Throw, Rethrow, Profile, Talk as TaskTalk}
use Rattle.widl_steps.specs.Unions.{member_picked, member_probed, to_member, to_union}
use Rattle.widl_steps.specs.Words.{fails, given, gives, no_whole_number, normal, not_built, number, object, returned, returns, text}
use Rattle.widl_steps.specs.ArrayFunctions.{array_iterator_next, array_values, by_cursor, by_turn, cursor_in}
use Rattle.widl_steps.specs.BuiltCalls.{calls_built_today, is_built_function}
use Rattle.widl_steps.specs.CallRules.{call_rule, function, intrinsic}
use Rattle.widl_steps.specs.CallTasks.{CallTask, Of, Function, CallTalk}
use Rattle.widl_steps.specs.ObjectFunctions.{joined, joins_long_text, most_joined_units, object_to_string, object_value_of}
use Rattle.widl_steps.specs.Operations.{StepsOf, chosen, lines_of, owned_operation, returns_promise}
use Rattle.widl_runs.specs.Actions.{Reply}
use Rattle.widl_runs.specs.Asks.{in_world, ways}
use Rattle.widl_runs.specs.Ends.{answer_of, task_end_in}
use Rattle.widl_runs.specs.Jobs.{Program, Talk}
use Rattle.widl_runs.proofs.Ranks.{high, low, task_high, task_low, call_high, call_low, want_low, is_object, talk_spends, ranks, value_low, values_low, entries_low, members_low}

module _ (p : Program) where
  abbrev IsCalm : ℕ → ℕ → TaskTalk → Type 0
  IsCalm m n d = Calm {A = Reply} (ranks p.list) (suc m) n (lift ways (rename Of d))

  abbrev IsBelow : ℕ → ℕ → Task → Type 0
  IsBelow m n t = Below high (low p.list) (suc m) n (Talk (Of t))

  -- 1. Words

  calm_given : (m n : ℕ) (k : IdlTerm → TaskTalk) → ((w : IdlTerm) → IsCalm m n (k w)) → (r : TaskEnd) → IsCalm m n (given k r)
  calm_given m n k all (Gives w) = all w
  calm_given m n k all (Plain v) = tt
  calm_given m n k all (Picks e ws) = tt
  calm_given m n k all (Throw why) = tt
  calm_given m n k all (Rethrow v) = tt
  calm_given m n k all (Profile end) = tt

  calm_returned : (m n : ℕ) (k : Value → TaskTalk) → ((v : Value) → IsCalm m n (k v)) → (r : TaskEnd) → IsCalm m n (returned k r)
  calm_returned m n k all (Gives w) = tt
  calm_returned m n k all (Plain v) = all v
  calm_returned m n k all (Picks e ws) = tt
  calm_returned m n k all (Throw why) = tt
  calm_returned m n k all (Rethrow v) = tt
  calm_returned m n k all (Profile end) = tt

  calm_number : (m n : ℕ) (k : Number → TaskTalk) → ((x : Number) → IsCalm m n (k x)) → (r : TaskEnd) → IsCalm m n (number k r)
  calm_number m n k all (Gives w) = tt
  calm_number m n k all (Plain values.Undefined) = tt
  calm_number m n k all (Plain values.Null) = tt
  calm_number m n k all (Plain (values.Bool b)) = tt
  calm_number m n k all (Plain (values.Num x)) = all x
  calm_number m n k all (Plain (values.Str units)) = tt
  calm_number m n k all (Plain (values.Sym id)) = tt
  calm_number m n k all (Plain (values.Obj o)) = tt
  calm_number m n k all (Picks e ws) = tt
  calm_number m n k all (Throw why) = tt
  calm_number m n k all (Rethrow v) = tt
  calm_number m n k all (Profile end) = tt

  calm_text : (m n : ℕ) (k : List ℕ → TaskTalk) → ((units : List ℕ) → IsCalm m n (k units)) → (r : TaskEnd) → IsCalm m n (text k r)
  calm_text m n k all (Gives w) = tt
  calm_text m n k all (Plain values.Undefined) = tt
  calm_text m n k all (Plain values.Null) = tt
  calm_text m n k all (Plain (values.Bool b)) = tt
  calm_text m n k all (Plain (values.Num x)) = tt
  calm_text m n k all (Plain (values.Str units)) = all units
  calm_text m n k all (Plain (values.Sym id)) = tt
  calm_text m n k all (Plain (values.Obj o)) = tt
  calm_text m n k all (Picks e ws) = tt
  calm_text m n k all (Throw why) = tt
  calm_text m n k all (Rethrow v) = tt
  calm_text m n k all (Profile end) = tt

  -- 2. Scalars

  calm_primitive : (hint : Hint) (v : Value) → IsCalm 0 0 (to_primitive hint v)
  calm_primitive hint values.Undefined = tt
  calm_primitive hint values.Null = tt
  calm_primitive hint (values.Bool b) = tt
  calm_primitive hint (values.Num x) = tt
  calm_primitive hint (values.Str units) = tt
  calm_primitive hint (values.Sym id) = tt
  calm_primitive hint (values.Obj o) = (inl (omega arith), tt)

  calm_read : (units : List ℕ) (r : Read) → IsCalm 0 1 (to_number (values.Str units) (given_by r))
  calm_read units (reads.Number n) = tt
  calm_read units reads.OutOfProfile = tt

  calm_scalar : (want : Want) (v : Value) → IsCalm 0 (want_low want) (to_scalar want v)
  calm_scalar wants.Number values.Undefined = tt
  calm_scalar wants.Number values.Null = tt
  calm_scalar wants.Number (values.Bool b) = tt
  calm_scalar wants.Number (values.Num x) = tt
  calm_scalar wants.Number (values.Str units) = calm_read units (read_of (trimmed units))
  calm_scalar wants.Number (values.Sym id) = tt
  calm_scalar wants.Number (values.Obj o) = (inr (refl, omega arith), tt)
  calm_scalar wants.Text values.Undefined = tt
  calm_scalar wants.Text values.Null = tt
  calm_scalar wants.Text (values.Bool b) = tt
  calm_scalar wants.Text (values.Num x) = tt
  calm_scalar wants.Text (values.Str units) = tt
  calm_scalar wants.Text (values.Sym id) = tt
  calm_scalar wants.Text (values.Obj o) = (inr (refl, omega arith), tt)
  calm_scalar wants.Length v = (inr (refl, omega arith), λ b. calm_number 0 2 _ (λ x. tt) (task_end_in b))

  calm_bytes : (b : Bool) (units : List ℕ) → IsCalm 0 3 (if b then gives (StringValue units) else fails code.Byte)
  calm_bytes true units = tt
  calm_bytes false units = tt

  calm_units : (kind : TextKind) (units : List ℕ) → IsCalm 0 3 (string_result kind units)
  calm_units texts.Dom units = tt
  calm_units texts.Usv units = tt
  calm_units texts.Byte units = calm_bytes (is_bytes units) units

  calm_string : (kind : TextKind) (v : Value) → IsCalm 0 3 (to_string kind v)
  calm_string kind v = (inr (refl, omega arith), λ b. calm_text 0 3 _ (calm_units kind) (task_end_in b))

  calm_null : (b : Bool) (kind : TextKind) → IsCalm 0 3 (if b then gives (StringValue []) else to_string kind values.Null)
  calm_null true kind = tt
  calm_null false kind = calm_string kind values.Null

  calm_null_or : (null_empty : Bool) (kind : TextKind) (v : Value) → IsCalm 0 3 (null_or_string null_empty kind v)
  calm_null_or null_empty kind values.Undefined = calm_string kind values.Undefined
  calm_null_or null_empty kind values.Null = calm_null null_empty kind
  calm_null_or null_empty kind (values.Bool b) = calm_string kind (values.Bool b)
  calm_null_or null_empty kind (values.Num x) = calm_string kind (values.Num x)
  calm_null_or null_empty kind (values.Str units) = calm_string kind (values.Str units)
  calm_null_or null_empty kind (values.Sym id) = calm_string kind (values.Sym id)
  calm_null_or null_empty kind (values.Obj o) = calm_string kind (values.Obj o)

  calm_integer : (r : Result ℤ NotInRange) → IsCalm 0 3 (integer_result r)
  calm_integer (results.Ok n) = tt
  calm_integer (results.Err e) = tt

  calm_enumeration : (n : ℕ) (place : Option ℕ) → IsCalm 0 3 (enumeration_result n place)
  calm_enumeration n None = tt
  calm_enumeration n (Some place) = tt

  calm_object : (why : Code) (k : ObjRef → TaskTalk) → ((o : ObjRef) → IsCalm 0 3 (k o)) → (v : Value) → IsCalm 0 3 (object why k v)
  calm_object why k each values.Undefined = tt
  calm_object why k each values.Null = tt
  calm_object why k each (values.Bool b) = tt
  calm_object why k each (values.Num x) = tt
  calm_object why k each (values.Str units) = tt
  calm_object why k each (values.Sym id) = tt
  calm_object why k each (values.Obj o) = each o

  calm_dictionary : (n : ℕ) (v : Value) → IsCalm 0 3 (to_dictionary p.list n v)
  calm_dictionary n values.Undefined = (inr (refl, omega arith), λ b. tt)
  calm_dictionary n values.Null = (inr (refl, omega arith), λ b. tt)
  calm_dictionary n (values.Bool b) = tt
  calm_dictionary n (values.Num x) = tt
  calm_dictionary n (values.Str units) = tt
  calm_dictionary n (values.Sym id) = tt
  calm_dictionary n (values.Obj o) = (inr (refl, omega arith), λ b. tt)

  -- a type that is neither nullable nor a union
  calm_plain : (t : TypeTerm) (v : Value) → IsCalm 0 3 (to_plain p.list t v)
  calm_plain AnyType v = tt
  calm_plain UndefinedType v = tt
  calm_plain BooleanType v = tt
  calm_plain (IntegerType kind mode) v = (inr (refl, omega arith), λ b. calm_number 0 3 _ (λ x. calm_integer (integer_of x kind mode)) (task_end_in b))
  calm_plain (StringType kind null_empty) v = calm_null_or null_empty kind v
  calm_plain (EnumerationType n) v = (inr (refl, omega arith), λ b. calm_text 0 3 _ (λ units. calm_enumeration n (value_place p.list.choices n units)) (task_end_in b))
  calm_plain (InterfaceType n) v = tt
  calm_plain (CallbackFunctionType n) v = tt
  calm_plain (CallbackInterfaceType n) v = tt
  calm_plain (DictionaryType n) v = calm_dictionary n v
  calm_plain ObjectType v = calm_object code.NotObject (λ o. gives (ObjectValue o)) (λ o. tt) v
  calm_plain (SequenceType t) v = calm_object code.NotObject (λ o. Say (GetAsk o (keys.Sym iterator_symbol)) (normal (found_iterator_method t o))) (λ o. (inl (omega arith), tt)) v
  calm_plain (RecordType key t) v = calm_object code.NotObject (λ o. Say (OwnKeysAsk o) (λ a. Steps (Entries key t o (keys_in a) []) End)) (λ o. (inl (omega arith), tt)) v
  calm_plain (PromiseType t) v = tt
  calm_plain (NullableType t) v = tt
  calm_plain (UnionType ts) v = tt

  calm_if_built : (t : TypeTerm) (d : TaskTalk) → IsCalm 0 3 d → IsCalm 0 3 (if is_built_type t then d else not_built)
  calm_if_built t d x = cond_both (is_built_type t) d not_built (IsCalm 0 3) (λ i. x) (λ i. tt)

  calm_member : (t : Option TypeTerm) (v : Value) → IsCalm 0 3 (to_member (convert_plain built_today p.list) t v)
  calm_member None v = tt
  calm_member (Some t) v = calm_if_built t (to_plain p.list t v) (calm_plain t v)

  -- the method is read for a charge
  calm_member_picked : (ts : TypeTerms) (v : Value) (pick : Pick) → IsCalm 0 3 (member_picked (convert_plain built_today p.list) built_today p.list ts v pick)
  calm_member_picked ts v (Entry place) = calm_member (slice_get (flattened_members ts) place) v
  calm_member_picked ts v (Probe place) = calm_object code.Union (λ o. Say (GetAsk o (keys.Sym iterator_symbol)) (normal (member_probed (convert_plain built_today p.list) built_today p.list ts place o))) (λ o. (inl (omega arith), tt)) v
  calm_member_picked ts v Refuse = tt

  calm_union : (ts : TypeTerms) (v : Value) → IsCalm 0 3 (to_union (convert_plain built_today p.list) built_today p.list ts v)
  calm_union ts v = cond_both (includes_nullable_type (UnionType ts) && is_null_or_undefined (class_of v)) _ _ (IsCalm 0 3) (λ i. tt) (λ i. calm_member_picked ts v (pick_member_of p.list ts (class_of v) false))

  calm_nullable : (inner : Value → TaskTalk) → ((v : Value) → IsCalm 0 3 (inner v)) → (v : Value) → IsCalm 0 3 (to_nullable inner v)
  calm_nullable inner each values.Undefined = tt
  calm_nullable inner each values.Null = tt
  calm_nullable inner each (values.Bool b) = each (values.Bool b)
  calm_nullable inner each (values.Num x) = each (values.Num x)
  calm_nullable inner each (values.Str units) = each (values.Str units)
  calm_nullable inner each (values.Sym id) = each (values.Sym id)
  calm_nullable inner each (values.Obj o) = each (values.Obj o)

  calm_type : (t : TypeTerm) (v : Value) → IsCalm 0 3 (to_type built_today p.list t v)
  calm_type AnyType v = calm_plain AnyType v
  calm_type UndefinedType v = calm_plain UndefinedType v
  calm_type BooleanType v = calm_plain BooleanType v
  calm_type (IntegerType kind mode) v = calm_plain (IntegerType kind mode) v
  calm_type (StringType kind null_empty) v = calm_plain (StringType kind null_empty) v
  calm_type (EnumerationType n) v = calm_plain (EnumerationType n) v
  calm_type (InterfaceType n) v = calm_plain (InterfaceType n) v
  calm_type (CallbackFunctionType n) v = calm_plain (CallbackFunctionType n) v
  calm_type (CallbackInterfaceType n) v = calm_plain (CallbackInterfaceType n) v
  calm_type (DictionaryType n) v = calm_plain (DictionaryType n) v
  calm_type ObjectType v = calm_plain ObjectType v
  calm_type (SequenceType t) v = calm_plain (SequenceType t) v
  calm_type (RecordType key t) v = calm_plain (RecordType key t) v
  calm_type (PromiseType t) v = calm_plain (PromiseType t) v
  calm_type (NullableType t) v = calm_nullable (to_type built_today p.list t) (calm_type t) v
  calm_type (UnionType ts) v = calm_union ts v

  calm_convert : (t : TypeTerm) (v : Value) → IsCalm 0 3 (convert built_today p.list t v)
  calm_convert t v = calm_if_built t (to_type built_today p.list t v) (calm_type t v)

  -- 3. Containers

  calm_entries : (key : TextKind) (t : TypeTerm) (o : ObjRef) (left : List Key) (made : List (List ℕ × IdlTerm)) → IsCalm 0 0 (entries key t o left made)
  calm_entries key t o [] made = tt
  calm_entries key t o (k ∷ left) made = (inl (omega arith), tt)

  calm_members : (n : ℕ) (o : Option ObjRef) (left : List DeclaredMember) (made : List (ℕ × ℕ × IdlTerm)) → IsCalm 0 0 (members n o left made)
  calm_members n o [] made = tt
  calm_members n None (m ∷ left) made = (inl (omega arith), tt)
  calm_members n (Some o) (m ∷ left) made = (inl (omega arith), tt)

  calm_items : (container : Container) (left : IdlTerms) (made : List Value) → IsCalm 0 (1 + values_low left) (out_items container left made)
  calm_items container no_values made = (inr (refl, omega arith), λ b. tt)
  calm_items container (more_values w left) made = (inr (refl, omega arith), λ b. calm_returned 0 (1 + values_low (more_values w left)) _ (λ v. (inr (refl, omega arith), λ r. tt)) (task_end_in b))

  calm_ask : (m n : ℕ) (container : Container) (made : List Value) → IsCalm m n (out_units 0 container made)
  calm_ask m n ArrayOf made = (inl (omega arith), tt)
  calm_ask m n (ObjectOf names) made = (inl (omega arith), tt)

  calm_out_units : (left : ℕ) (container : Container) (made : List Value) → IsCalm 0 0 (out_units left container made)
  calm_out_units zero container made = calm_ask 0 0 container made
  calm_out_units (suc left) container made = (inl (omega arith), tt)

  calm_whole : (b : Bool) (n : ℤ) → IsCalm 0 0 (if b then returns (values.Num (nearest_of n)) else no_whole_number)
  calm_whole true n = tt
  calm_whole false n = tt

  same_entries : (entries : EntryTerms) → values_low (entry_items entries) ≡ entries_low entries
  same_entries no_entries = refl
  same_entries (more_entries name w entries) = ap (λ n. suc (value_low w + n)) (same_entries entries)

  same_members : (members : MemberTerms) → values_low (member_items members) ≡ members_low members
  same_members no_members = refl
  same_members (more_members dictionary number w members) = ap (λ n. suc (value_low w + n)) (same_members members)

  calm_out : (t : TypeTerm) (w : IdlTerm) → IsCalm 0 (value_low w) (out built_today p.list t w)
  calm_out t UndefinedValue = tt
  calm_out t NullValue = tt
  calm_out t MissingValue = tt
  calm_out t (BooleanValue b) = tt
  calm_out t (IntegerValue n) = calm_whole (nat_le (nat_abs n) (2 ^ 64)) n
  calm_out t (StringValue units) = tt
  calm_out t (EnumerationValue n place) = tt
  calm_out t (ObjectValue o) = tt
  calm_out t (AnyValue v) = tt
  calm_out t (SequenceValue items) = (inr (refl, omega arith), λ b. tt)
  calm_out t (RecordValue es) = (inr (refl, omega (arith, same_entries es)), λ b. tt)
  calm_out t (DictionaryValue n ms) = (inr (refl, omega (arith, same_members ms)), λ b. tt)
  calm_out t (PromiseValue o) = tt

  -- 4. Defaults

  calm_literal : (t : TypeTerm) (l : Literal) → IsCalm 0 4 (literal_value p.list t l)
  calm_literal t literals.Null = tt
  calm_literal t literals.Undefined = tt
  calm_literal t (literals.Bool b) = tt
  calm_literal t (literals.Int n) = tt
  calm_literal t (literals.Text units) = tt
  calm_literal t literals.EmptyList = tt
  calm_literal t literals.EmptyDict = (inr (refl, omega arith), λ b. tt)

  calm_default : (t : TypeTerm) (l : Option Literal) → IsCalm 0 4 (default p.list t l)
  calm_default t None = tt
  calm_default t (Some l) = calm_literal t l

  calm_last : (n : ℕ) (b : Bool) (callee : Callee) (overload : ℕ) (made : List IdlTerm) (a : ArgTerm) → 4 < n → ((w : IdlTerm) → task_low p.list (Defaults callee overload (made ++ w ∷ [])) < n) → IsCalm 0 n (if b then End (Picks overload made) else Steps (Default a.ty a.value) (default_given callee overload made))
  calm_last n true callee overload made a h less = tt
  calm_last n false callee overload made a h less = (inr (refl, h), λ b. calm_given 0 n _ (λ w. (inr (refl, less w), λ r. tt)) (task_end_in b))

  calm_defaults_from : (callee : Callee) (overload : ℕ) (made : List IdlTerm) (a : Option ArgTerm) → slice_get (declared_args p.list callee overload) (length made) ≡ a → IsCalm 0 (task_low p.list (Defaults callee overload made)) (defaults_from callee overload made a)
  calm_defaults_from callee overload made None is = tt
  calm_defaults_from callee overload made (Some a) is =
      let within = slice_get_within (declared_args p.list callee overload) (length made) a is in
      calm_last (task_low p.list (Defaults callee overload made)) (is_variadic a.opt) callee overload made a (omega arith) (λ w. omega (arith, within, length-append made (w ∷ [])))

  -- 5. Arguments

  -- an argument's own task stands below the arguments
  calm_taken : (n : ℕ) (b : Bool) (t : TypeTerm) (l : Option Literal) (v : Value) (k : TaskEnd → TaskTalk) → ((r : TaskEnd) → IsCalm 1 n (k r)) → IsCalm 1 n (Steps (if b then Default t l else Convert t v) k)
  calm_taken n true t l v k each = (inl (omega arith), λ b. each (task_end_in b))
  calm_taken n false t l v k each = (inl (omega arith), λ b. each (task_end_in b))

  calm_argument : (n : ℕ) (callee : Callee) (place : ℕ) (left : List Value) (made : List IdlTerm) → 1 + length left < n → (v : Value) (entries : List TupleTerm) → IsCalm 1 n (argument p.list callee place left made v entries)
  calm_argument n callee place left made h v [] = tt
  calm_argument n callee place left made h v (entry ∷ more) =
      calm_taken n (takes_default (optionality_at entry (length made)) v) (type_at entry (length made)) (default_at p.list callee entry.overload (length made)) v (argument_given p.list callee place left made (entry ∷ more)) (calm_given 1 n _ (λ w. (inr (refl, h), λ r. tt)))

  calm_by_pick : (n place : ℕ) (v : Value) (k : Option (ObjRef × ObjRef) → List TupleTerm → TaskTalk) → ((entries : List TupleTerm) → IsCalm 1 n (k None entries)) → (entries : List TupleTerm) (pick : Pick) → IsCalm 1 n (by_pick built_today p.list place v k entries pick)
  calm_by_pick n place v k each entries (Entry e) = each (entry_alone e entries)
  calm_by_pick n place values.Undefined k each entries (Probe e) = tt
  calm_by_pick n place values.Null k each entries (Probe e) = tt
  calm_by_pick n place (values.Bool b) k each entries (Probe e) = tt
  calm_by_pick n place (values.Num x) k each entries (Probe e) = tt
  calm_by_pick n place (values.Str units) k each entries (Probe e) = tt
  calm_by_pick n place (values.Sym id) k each entries (Probe e) = tt
  calm_by_pick n place (values.Obj o) k each entries (Probe e) = (inl (omega arith), tt)
  calm_by_pick n place v k each entries Refuse = tt

  calm_several : (n : ℕ) (b : Bool) (callee : Callee) (place : ℕ) (left : List Value) (made : List IdlTerm) → 1 + length left < n → (v : Value) (entries : List TupleTerm) (pick : Pick) → IsCalm 1 n (if b then by_pick built_today p.list place v (kept p.list callee place left made v) entries pick else argument p.list callee place left made v entries)
  calm_several n true callee place left made h v entries pick = calm_by_pick n place v (kept p.list callee place left made v) (calm_argument n callee place left made h v) entries pick
  calm_several n false callee place left made h v entries pick = calm_argument n callee place left made h v entries

  calm_arguments : (callee : Callee) (entries : List TupleTerm) (place : ℕ) (left : List Value) (made : List IdlTerm) → IsCalm 1 (1 + length left) (arguments built_today p.list callee entries place left made)
  calm_arguments callee [] place left made = tt
  calm_arguments callee (entry ∷ []) place [] made = (inl (omega arith), λ b. tt)
  calm_arguments callee (entry ∷ []) place (v ∷ left) made = calm_argument (1 + length (v ∷ left)) callee place left made (omega arith) v (entry ∷ [])
  calm_arguments callee (entry ∷ other ∷ more) place [] made = tt
  calm_arguments callee (entry ∷ other ∷ more) place (v ∷ left) made =
      calm_several (1 + length (v ∷ left)) (nat_eq (length made) place) callee place left made (omega arith) v (entry ∷ other ∷ more) (pick_of p.list (entry ∷ other ∷ more) place (class_of v) false)

  calm_entries_of : (n : ℕ) (callee : Callee) (entries : List TupleTerm) (args : List Value) → 1 + length args < n → IsCalm 1 n (with_entries p.list callee entries args)
  calm_entries_of n callee [] args h = tt
  calm_entries_of n callee (entry ∷ more) args h = (inr (refl, h), λ b. tt)

  calm_resolve : (callee : Callee) (args : List Value) → IsCalm 1 (2 + length args) (task_rule built_today p.list (Resolve callee args))
  calm_resolve callee args =
      let count : ℕ = argcount_of p.list callee (length args) in
      calm_entries_of (2 + length args) callee (kept_tuples p.list callee (length args)) (take count args) (omega (arith, length-take count args))

  -- 6. All tasks of conversions

  calm_task : (t : Task) → IsCalm (task_high t) (task_low p.list t) (task_rule built_today p.list t)
  calm_task (Primitive hint v) = calm_primitive hint v
  calm_task (Scalar want v) = calm_scalar want v
  calm_task (Convert t v) = calm_convert t v
  calm_task (SequenceFrom t o method) = (inl (omega arith), tt)
  calm_task (Turns t iterator next made) = (inl (omega arith), tt)
  calm_task (Entries key t o left made) = calm_entries key t o left made
  calm_task (Members n o left made) = calm_members n o left made
  calm_task (Resolve callee args) = calm_resolve callee args
  calm_task (Arguments callee entries place left made) = calm_arguments callee entries place left made
  calm_task (Default t l) = calm_default t l
  calm_task (Defaults callee overload made) = calm_defaults_from callee overload made (slice_get (declared_args p.list callee overload) (length made)) refl
  calm_task (Out t w) = calm_out t w
  calm_task (OutItems container left made) = calm_items container left made
  calm_task (OutUnits left container made) = calm_out_units left container made

  -- 7. Calls

  abbrev IsCalmCall : ℕ → ℕ → CallTalk → Type 0
  IsCalmCall m n d = Calm {A = Reply} (ranks p.list) (suc m) n (lift ways d)

  calm_chosen : (steps : StepsOf) (callee : Callee) (r : TaskEnd) → IsCalmCall 2 0 (chosen p.list steps callee r)
  calm_chosen steps callee (Gives w) = tt
  calm_chosen steps callee (Plain v) = tt
  calm_chosen steps callee (Picks e ws) = (inl (omega arith), tt)
  calm_chosen steps callee (Throw why) = tt
  calm_chosen steps callee (Rethrow v) = tt
  calm_chosen steps callee (Profile end) = tt

  calm_promise : (b : Bool) (steps : StepsOf) (callee : Callee) (args : List Value) → IsCalmCall 2 0 (if b then not_built else Steps (Of (Resolve callee args)) (chosen p.list steps callee))
  calm_promise true steps callee args = tt
  calm_promise false steps callee args = (inl (omega arith), λ b. calm_chosen steps callee (task_end_in b))

  calm_owned : (steps : StepsOf) (callee : Callee) (args : List Value) (owner : Owner) → IsCalmCall 2 0 (owned_operation p.list steps callee args owner)
  calm_owned steps callee args (owners.Space n) = calm_promise (returns_promise p.list callee) steps callee args
  calm_owned steps callee args (owners.Iface n) = tt

  calm_tag : (b : Bool) (units : List ℕ) → IsCalmCall 2 0 (if b then returns (values.Str units) else joins_long_text)
  calm_tag true units = tt
  calm_tag false units = tt

  calm_joined : (units : List ℕ) → IsCalmCall 2 0 (joined units)
  calm_joined units = calm_tag (nat_le (length units) most_joined_units) units

  calm_to_string : (this : Value) → IsCalmCall 2 0 (object_to_string this)
  calm_to_string values.Undefined = calm_joined (codes "[object " ++ codes "Undefined" ++ codes "]")
  calm_to_string values.Null = calm_joined (codes "[object " ++ codes "Null" ++ codes "]")
  calm_to_string (values.Bool b) = tt
  calm_to_string (values.Num x) = tt
  calm_to_string (values.Str units) = tt
  calm_to_string (values.Sym id) = tt
  calm_to_string (values.Obj o) = (inl (omega arith), tt)

  calm_value_of : (this : Value) → IsCalmCall 2 0 (object_value_of this)
  calm_value_of values.Undefined = tt
  calm_value_of values.Null = tt
  calm_value_of (values.Bool b) = tt
  calm_value_of (values.Num x) = tt
  calm_value_of (values.Str units) = tt
  calm_value_of (values.Sym id) = tt
  calm_value_of (values.Obj o) = tt

  calm_values : (this : Value) → IsCalmCall 2 0 (array_values this)
  calm_values values.Undefined = tt
  calm_values values.Null = tt
  calm_values (values.Bool b) = tt
  calm_values (values.Num x) = tt
  calm_values (values.Str units) = tt
  calm_values (values.Sym id) = tt
  calm_values (values.Obj o) = (inl (omega arith), tt)

  -- an iterator is moved on for nothing, and then a property is read
  calm_turn : (iterator of : ObjRef) (next : ℕ) (turn : Turn) → IsCalmCall 2 0 (by_turn iterator of next turn)
  calm_turn iterator of next Idle = (inl (omega arith), λ b. (inl (omega arith), tt))
  calm_turn iterator of next Running = tt
  calm_turn iterator of next Ended = (inl (omega arith), tt)

  calm_cursor : (iterator : ObjRef) (state : Option CursorState) → IsCalmCall 2 0 (by_cursor iterator state)
  calm_cursor iterator None = tt
  calm_cursor iterator (Some (cursors.Pairs of kind next)) = tt
  calm_cursor iterator (Some (cursors.Array of next turn)) = calm_turn iterator of next turn

  calm_next : (this : Value) → IsCalmCall 2 0 (array_iterator_next this)
  calm_next values.Undefined = tt
  calm_next values.Null = tt
  calm_next (values.Bool b) = tt
  calm_next (values.Num x) = tt
  calm_next (values.Str units) = tt
  calm_next (values.Sym id) = tt
  calm_next (values.Obj o) = (inl (omega arith), λ b. calm_cursor o (cursor_in (answer_of (LookAsk o looks.Cursor) b)))

  either : (b : Bool) (d e : CallTalk) → IsCalmCall 2 0 d → IsCalmCall 2 0 e → IsCalmCall 2 0 (if b then d else e)
  either b d e x y = cond_both b d e (IsCalmCall 2 0) (λ i. x) (λ i. y)

  calm_intrinsic : (number : ℕ) (this : Value) → IsCalmCall 2 0 (intrinsic number this)
  calm_intrinsic number this =
      either (nat_eq number 8) _ _ (calm_to_string this)
      (either (nat_eq number 9) _ _ (calm_value_of this)
      (either (nat_eq number 12) _ _ (calm_values this) (either (nat_eq number 13) _ _ (calm_next this) (either (nat_eq number 14) _ _ tt (either (nat_eq number 15) _ _ tt (either (nat_eq number 16) _ _ tt (either (nat_eq number 17) _ _ tt tt)))))))

  calm_function : (steps : StepsOf) (what : Builtin) (this : Value) (args : List Value) → IsCalmCall 2 0 (function p.list steps what this args)
  calm_function steps (builtins.Intrinsic number) this args = calm_intrinsic number this
  calm_function steps (builtins.Callee callee) this args = calm_owned steps callee args callee.owner
  calm_function steps (builtins.InterfaceObject iface) this args = tt
  calm_function steps (builtins.Pairs iface what) this args = tt

  pub calm_talk : (task : CallTask) → Calm {A = Reply} (ranks p.list) (suc (call_high task)) (call_low p.list task) (in_world (call_rule calls_built_today p.list (lines_of p.list p.script) task))
  calm_talk (Of t) = calm_task t
  calm_talk (Function f what this args construct) = either (is_built_function what) _ _ (calm_function (lines_of p.list p.script) what this args) tt

  -- 8. An object becomes a primitive value by an ask that pays

  spend_primitive : (hint : Hint) (v : Value) → is_object v ≡ true → Spends {A = Reply} (ranks p.list) (lift ways (rename Of (to_primitive hint v)))
  spend_primitive hint values.Undefined e = absurd (cc)
  spend_primitive hint values.Null e = absurd (cc)
  spend_primitive hint (values.Bool b) e = absurd (cc)
  spend_primitive hint (values.Num x) e = absurd (cc)
  spend_primitive hint (values.Str units) e = absurd (cc)
  spend_primitive hint (values.Sym id) e = absurd (cc)
  spend_primitive hint (values.Obj o) e = tt

  spend_task : (t : Task) → talk_spends (Of t) ≡ true → Spends {A = Reply} (ranks p.list) (lift ways (rename Of (task_rule built_today p.list t)))
  spend_task (Primitive hint v) e = spend_primitive hint v e
  spend_task (Scalar want v) e = absurd (cc)
  spend_task (Convert t v) e = absurd (cc)
  spend_task (SequenceFrom t o method) e = absurd (cc)
  spend_task (Turns t iterator next made) e = absurd (cc)
  spend_task (Entries key t o left made) e = absurd (cc)
  spend_task (Members n o left made) e = absurd (cc)
  spend_task (Resolve callee args) e = absurd (cc)
  spend_task (Arguments callee entries place left made) e = absurd (cc)
  spend_task (Default t l) e = absurd (cc)
  spend_task (Defaults callee overload made) e = absurd (cc)
  spend_task (Out t w) e = absurd (cc)
  spend_task (OutItems container left made) e = absurd (cc)
  spend_task (OutUnits left container made) e = absurd (cc)

  pub spend_talk : (task : CallTask) → talk_spends task ≡ true → Spends {A = Reply} (ranks p.list) (in_world (call_rule calls_built_today p.list (lines_of p.list p.script) task))
  spend_talk (Of t) e = spend_task t e
  spend_talk (Function f what this args construct) e = absurd (cc)
