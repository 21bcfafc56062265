-- Each task of a call ends in some conversation, and so it does after each answer that fits and each end of a task that it goes through.
use Rattle.std.proofs.Common.{ℕ, ◌+◌, Bool, true, false, List, [], ◌∷◌, Option, None, Some, refl}
use Rattle.std.specs.Prelude.{◌++◌, codes, decimal, length, nat_eq, nat_le, nat_lt, slice_get}
use Rattle.widl_dialog.specs.Dialog.{End, Say, Steps, bind}
use Rattle.widl_dialog.specs.Conversation.{Finishes, Good}
use Rattle.widl_dialog.specs.Rename.{rename}
use Rattle.widl_dialog.proofs.Renaming.{finishes_rename, good_rename}
use Rattle.widl_dialog.proofs.Wholes.{fine_say, fine_steps, finishes_bind, asks_go_on}
use Rattle.widl_text.specs.declared.key.Key.TheVariants as keys
use Rattle.widl_idl.specs.declared.callee.Callee.{Callee}
use Rattle.widl_idl.specs.declared.callee.Owner.{Owner}
use Rattle.widl_idl.specs.declared.callee.Owner.TheVariants as owners
use Rattle.widl_idl.specs.DefinitionTerms.{DefsTerm}
use Rattle.widl_idl.specs.Terms.{TypeTerm, AnyType, UndefinedType, BooleanType, IntegerType, StringType, EnumerationType, InterfaceType, CallbackFunctionType, CallbackInterfaceType, DictionaryType, ObjectType, SequenceType, RecordType, PromiseType, NullableType, UnionType}
use Rattle.widl_value.specs.declared.object.ObjRef.{ObjRef}
use Rattle.widl_value.specs.declared.object.Shape.TheVariants as shapes
use Rattle.widl_value.specs.declared.value.Value.{Value}
use Rattle.widl_value.specs.declared.value.Value.TheVariants as values
use Rattle.widl_value.specs.IdlTerms.{IdlTerm, UndefinedValue, NullValue, MissingValue, BooleanValue, IntegerValue, StringValue, EnumerationValue, ObjectValue, AnyValue, SequenceValue, RecordValue, DictionaryValue, PromiseValue}
use Rattle.widl_scalar.specs.Primitives.{length_of}
use Rattle.widl_store.specs.declared.inner.Builtin.{Builtin}
use Rattle.widl_store.specs.declared.inner.Builtin.TheVariants as builtins
use Rattle.widl_store.specs.declared.inner.Turn.{Turn}
use Rattle.widl_store.specs.declared.inner.Turn.TheVariants.{Idle, Running, Ended}
use Rattle.widl_script_tree.specs.declared.steps.Source.{Source}
use Rattle.widl_script_tree.specs.declared.steps.Source.TheVariants as sources
use Rattle.widl_script_tree.specs.declared.steps.StepLine.{StepLine}
use Rattle.widl_script_tree.specs.declared.steps.StepLine.TheVariants as steps
use Rattle.widl_steps.specs.Dictionaries.{requires_member}
use Rattle.widl_steps.specs.declared.answer.CursorState.{CursorState}
use Rattle.widl_steps.specs.declared.answer.CursorState.TheVariants as cursors
use Rattle.widl_steps.specs.declared.answer.KindName.TheVariants as kinds
use Rattle.widl_steps.specs.declared.want.Want.TheVariants as wants
use Rattle.widl_steps.specs.declared.ask.Look.TheVariants as looks
use Rattle.widl_steps.specs.AskTerms.{AskTerm, GetAsk, UnitAsk, LookAsk, NewAsk, NewArrayIterator, ChangeAsk, SetCursor, AnswerTerm, BeginAnswer, DoneAnswer, NormalAnswer, ThrownAnswer, SightAnswer, KeysAnswer, OwnAnswer, KindSight, CursorSight, Fits}
use Rattle.widl_steps.specs.Laws.{AsksAreTalked, ChainsEnd}
use Rattle.widl_steps.specs.Rules.{rule}
use Rattle.widl_steps.specs.Tasks.{Task, Convert, Scalar, Resolve, Default, Out, TaskEnd, Gives, Plain, Picks, Throw, Rethrow, Profile}
use Rattle.widl_steps.specs.Words.{done, normal, returns}
use Rattle.widl_steps.proofs.Finishing.{IsFine, fine, fine_if, fine_normal, fine_ask, fine_object, fine_given, fine_number, fine_rule}
use Rattle.widl_steps.specs.ArrayFunctions.{array_values, iterator_result, read_in_turn, given_in_turn, element_read, with_length, length_read, by_turn, cursor_in, by_cursor, array_iterator_next}
use Rattle.widl_steps.specs.BuiltCalls.{BuiltCalls}
use Rattle.widl_steps.specs.CallRules.{call_rule, intrinsic, function}
use Rattle.widl_steps.specs.CallTasks.{CallTask, Of, Function, CallTalk}
use Rattle.widl_steps.specs.DefaultResults.{default_result}
use Rattle.widl_steps.specs.ObjectFunctions.{kind_in, kind_tag, most_joined_units, object_to_string, object_value_of, tagged, with_tag, by_kind}
use Rattle.widl_steps.specs.Operations.{StepsOf, result_type, returns_promise, steps_of, chosen, owned_operation}
use Rattle.widl_steps.specs.StepLines.{argument_value, return_line, line, lines}

module _ (built : BuiltCalls) (list : DefsTerm) (blocks : StepsOf) (chains_end : ChainsEnd built.conversions list) where
  abbrev tasks : CallTask → CallTalk
  tasks = call_rule built list blocks

  abbrev Is : CallTalk → Type 0
  Is d = IsFine tasks d

  an_end : (r : TaskEnd) → Is (End r)
  an_end r = fine tasks r

  -- a conversion within a call
  fine_of : (t : Task) → Is (rename Of (rule built.conversions list t))
  fine_of t = record {
    ends = finishes_rename Of (rule built.conversions list) tasks Fits (λ j. refl) (rule built.conversions list t) (fine_rule built.conversions list chains_end t).ends;
    good = good_rename Of (rule built.conversions list) tasks Fits (λ j. refl) (rule built.conversions list t) (fine_rule built.conversions list chains_end t).good;
  }

  through : (j : CallTask) (k : TaskEnd → CallTalk) → Finishes tasks Fits (tasks j) → ((r : TaskEnd) → Is (k r)) → Is (Steps j k)
  through j k x all = fine_steps tasks Fits j k x all

  converts : (t : Task) → Is (Steps (Of t) End)
  converts t = through (Of t) End (fine_of t).ends an_end

  -- the one steps, and where they end the others
  then_good : (d : CallTalk) (k : TaskEnd → CallTalk) → Good tasks Fits d → ((r : TaskEnd) → Is (k r)) → Good tasks Fits (bind d k)
  then_good (End r) k x all = (all r).good
  then_good (Say q f) k x all = λ a fits. (finishes_bind tasks Fits (f a) k (x a fits).0 (λ r. (all r).ends), then_good (f a) k (x a fits).1 all)
  then_good (Steps j f) k x all = λ r. (finishes_bind tasks Fits (f r) k (x r).0 (λ s. (all s).ends), then_good (f r) k (x r).1 all)

  then_fine : (d : CallTalk) (k : TaskEnd → CallTalk) → Is d → ((r : TaskEnd) → Is (k r)) → Is (bind d k)
  then_fine d k x all = record { ends = finishes_bind tasks Fits d k x.ends (λ r. (all r).ends); good = then_good d k x.good all }

  -- 1. The lines of a steps block

  fine_argument : (w : Option IdlTerm) → Is (argument_value w)
  fine_argument None = an_end _
  fine_argument (Some MissingValue) = an_end _
  fine_argument (Some UndefinedValue) = an_end _
  fine_argument (Some NullValue) = an_end _
  fine_argument (Some (BooleanValue b)) = an_end _
  fine_argument (Some (IntegerValue n)) = an_end _
  fine_argument (Some (StringValue units)) = an_end _
  fine_argument (Some (EnumerationValue n place)) = an_end _
  fine_argument (Some (ObjectValue o)) = an_end _
  fine_argument (Some (AnyValue v)) = an_end _
  fine_argument (Some (SequenceValue _)) = an_end _
  fine_argument (Some (RecordValue _)) = an_end _
  fine_argument (Some (DictionaryValue n _)) = an_end _
  fine_argument (Some (PromiseValue o)) = an_end _

  fine_return : (t : TypeTerm) (ws : List IdlTerm) (source : Source) → Is (return_line t ws source)
  fine_return t ws (sources.Arg number) = fine_argument (slice_get ws number)
  fine_return t ws sources.This = an_end _
  fine_return t ws (sources.Slot name) = an_end _
  fine_return t ws (sources.Literal l) = converts (Default t (Some l))

  fine_line : (t : TypeTerm) (ws : List IdlTerm) (l : StepLine) → Is (line t ws l)
  fine_line t ws (steps.Return source) = fine_return t ws source
  fine_line t ws (steps.ReturnInvoke invoke) = an_end _
  fine_line t ws (steps.SetSlot name source) = an_end _
  fine_line t ws (steps.Append key value) = an_end _
  fine_line t ws steps.Clear = an_end _
  fine_line t ws (steps.Throw v) = an_end _
  fine_line t ws (steps.Invoke invoke) = an_end _

  fine_default : (t : TypeTerm) → Is (default_result list t)
  fine_default AnyType = an_end _
  fine_default UndefinedType = an_end _
  fine_default BooleanType = an_end _
  fine_default (IntegerType kind mode) = an_end _
  fine_default (StringType kind null_empty) = an_end _
  fine_default (EnumerationType n) = an_end _
  fine_default (InterfaceType n) = an_end _
  fine_default (CallbackFunctionType n) = an_end _
  fine_default (CallbackInterfaceType n) = an_end _
  fine_default (DictionaryType n) = fine_if tasks (requires_member list n) _ _ (an_end _) (converts (Convert (DictionaryType n) values.Undefined))
  fine_default ObjectType = an_end _
  fine_default (SequenceType t) = an_end _
  fine_default (RecordType key t) = an_end _
  fine_default (PromiseType t) = an_end _
  fine_default (NullableType t) = an_end _
  fine_default (UnionType ts) = an_end _

  fine_lines : (t : TypeTerm) (ws : List IdlTerm) (ls : List StepLine) → Is (lines list t ws ls)
  fine_lines t ws [] = fine_default t
  fine_lines t ws (l ∷ more) = fine_say tasks Fits UnitAsk _ DoneAnswer tt (λ a f. fine_line t ws l)

  -- 2. Operations

  fine_steps_of : (c : Callee) (e : ℕ) (ws : List IdlTerm) → Is (steps_of list blocks c e ws)
  fine_steps_of c e ws =
      then_fine (lines list (result_type list c e) ws (blocks c e)) _ (fine_lines (result_type list c e) ws (blocks c e)) (fine_given tasks _ (λ w. converts (Out (result_type list c e) w)))

  fine_chosen : (c : Callee) (r : TaskEnd) → Is (chosen list blocks c r)
  fine_chosen c (Picks e ws) = fine_say tasks Fits _ _ DoneAnswer tt (λ a f. fine_steps_of c e ws)
  fine_chosen c (Gives w) = an_end _
  fine_chosen c (Plain v) = an_end _
  fine_chosen c (Throw reason) = an_end _
  fine_chosen c (Rethrow v) = an_end _
  fine_chosen c (Profile n) = an_end _

  fine_operation : (c : Callee) (args : List Value) (owner : Owner) → Is (owned_operation list blocks c args owner)
  fine_operation c args (owners.Space n) = fine_if tasks (returns_promise list c) _ _ (an_end _) (through (Of (Resolve c args)) _ (fine_of (Resolve c args)).ends (fine_chosen c))
  fine_operation c args (owners.Iface n) = an_end _

  -- 3. Functions of objects

  fine_tagged : (tag : List ℕ) → Is (tagged tag)
  fine_tagged tag = fine_if tasks (nat_le (length (codes "[object " ++ tag ++ codes "]")) most_joined_units) _ _ (an_end _) (an_end _)

  fine_kind : (o : ObjRef) → Is (Say (LookAsk o looks.Kind) by_kind)
  fine_kind o = fine_say tasks Fits (LookAsk o looks.Kind) by_kind (SightAnswer (KindSight kinds.Other)) tt (λ a f. fine_tagged (kind_tag (kind_in a)))

  fine_tag : (o : ObjRef) (v : Value) → Is (with_tag o v)
  fine_tag o (values.Str tag) = fine_tagged tag
  fine_tag o values.Undefined = fine_kind o
  fine_tag o values.Null = fine_kind o
  fine_tag o (values.Bool b) = fine_kind o
  fine_tag o (values.Num n) = fine_kind o
  fine_tag o (values.Sym n) = fine_kind o
  fine_tag o (values.Obj p) = fine_kind o

  fine_to_string : (v : Value) → Is (object_to_string v)
  fine_to_string values.Undefined = an_end _
  fine_to_string values.Null = an_end _
  fine_to_string (values.Obj o) = fine_ask tasks _ (with_tag o) tt (fine_tag o)
  fine_to_string (values.Bool b) = an_end _
  fine_to_string (values.Num n) = an_end _
  fine_to_string (values.Str units) = an_end _
  fine_to_string (values.Sym n) = an_end _

  fine_value_of : (v : Value) → Is (object_value_of v)
  fine_value_of values.Undefined = an_end _
  fine_value_of values.Null = an_end _
  fine_value_of (values.Obj o) = an_end _
  fine_value_of (values.Bool b) = an_end _
  fine_value_of (values.Num n) = an_end _
  fine_value_of (values.Str units) = an_end _
  fine_value_of (values.Sym n) = an_end _

  -- 4. Functions of arrays

  -- an answer that fits the ask for a new object
  abbrev new_object : AnswerTerm
  new_object = NormalAnswer (values.Obj (record { id = 0; shape = shapes.Plain }))

  fine_new : (q : AskTerm) → Fits q new_object → Is (Say q (normal returns))
  fine_new q fits = fine_say tasks Fits q (normal returns) new_object fits (λ a f. fine_normal tasks returns (λ v. an_end _) a)

  fine_values : (v : Value) → Is (array_values v)
  fine_values values.Undefined = an_end _
  fine_values values.Null = an_end _
  fine_values (values.Obj o) = fine_new (NewAsk (NewArrayIterator o)) refl
  fine_values (values.Bool b) = an_end _
  fine_values (values.Num n) = an_end _
  fine_values (values.Str units) = an_end _
  fine_values (values.Sym n) = an_end _

  fine_iterator_result : (v : Value) (is_done : Bool) → Is (iterator_result v is_done)
  fine_iterator_result v is_done = fine_new _ refl

  fine_set : (iterator : ObjRef) (next : ℕ) (turn : Turn) (d : CallTalk) → Is d → Is (Say (ChangeAsk iterator (SetCursor next turn)) (done d))
  fine_set iterator next turn d x = fine_say tasks Fits (ChangeAsk iterator (SetCursor next turn)) (done d) DoneAnswer tt (λ a f. x)

  fine_read : (iterator : ObjRef) (next : ℕ) (k : Value → CallTalk) → ((v : Value) → Is (k v)) → (a : AnswerTerm) → Is (read_in_turn iterator next k a)
  fine_read iterator next k all (ThrownAnswer v) = fine_set iterator next Ended _ (an_end _)
  fine_read iterator next k all (NormalAnswer v) = all v
  fine_read iterator next k all BeginAnswer = all _
  fine_read iterator next k all DoneAnswer = all _
  fine_read iterator next k all (SightAnswer sight) = all _
  fine_read iterator next k all (KeysAnswer names) = all _
  fine_read iterator next k all (OwnAnswer flags) = all _

  fine_get_in_turn : (iterator of : ObjRef) (next : ℕ) (name : List ℕ) (k : Value → CallTalk) → ((v : Value) → Is (k v)) → Is (Say (GetAsk of (keys.Name name)) (read_in_turn iterator next k))
  fine_get_in_turn iterator of next name k all = fine_say tasks Fits (GetAsk of (keys.Name name)) (read_in_turn iterator next k) (NormalAnswer values.Undefined) tt (λ a f. fine_read iterator next k all a)

  fine_given_in_turn : (iterator : ObjRef) (next : ℕ) (k : TaskEnd → CallTalk) → ((r : TaskEnd) → Is (k r)) → (r : TaskEnd) → Is (given_in_turn iterator next k r)
  fine_given_in_turn iterator next k all (Throw reason) = fine_set iterator next Ended _ (an_end _)
  fine_given_in_turn iterator next k all (Rethrow v) = fine_set iterator next Ended _ (an_end _)
  fine_given_in_turn iterator next k all (Gives w) = all _
  fine_given_in_turn iterator next k all (Plain v) = all _
  fine_given_in_turn iterator next k all (Picks e ws) = all _
  fine_given_in_turn iterator next k all (Profile n) = all _

  fine_with_length : (iterator of : ObjRef) (next count : ℕ) → Is (with_length iterator of next count)
  fine_with_length iterator of next count =
      fine_if tasks (nat_lt next count) _ _
      (fine_get_in_turn iterator of next (decimal next) (element_read iterator next) (λ v. fine_set iterator (next + 1) Idle _ (fine_iterator_result v false)))
      (fine_set iterator next Ended _ (fine_iterator_result values.Undefined true))

  fine_turn : (iterator of : ObjRef) (next : ℕ) (turn : Turn) → Is (by_turn iterator of next turn)
  fine_turn iterator of next Idle =
      fine_set iterator next Running _
      (fine_get_in_turn iterator of next (codes "length") (length_read iterator of next)
      (λ v. through (Of (Scalar wants.Length v)) _ (fine_of (Scalar wants.Length v)).ends (fine_given_in_turn iterator next _ (fine_number tasks _ (λ n. fine_with_length iterator of next (length_of n))))))
  fine_turn iterator of next Running = an_end _
  fine_turn iterator of next Ended = fine_iterator_result values.Undefined true

  fine_cursor : (iterator : ObjRef) (state : Option CursorState) → Is (by_cursor iterator state)
  fine_cursor iterator None = an_end _
  fine_cursor iterator (Some (cursors.Array of next turn)) = fine_turn iterator of next turn
  fine_cursor iterator (Some (cursors.Pairs of kind next)) = an_end _

  fine_next : (v : Value) → Is (array_iterator_next v)
  fine_next v = fine_object tasks _ _ (λ iterator. fine_say tasks Fits (LookAsk iterator looks.Cursor) _ (SightAnswer (CursorSight None)) tt (λ a f. fine_cursor iterator (cursor_in a))) v

  fine_intrinsic : (n : ℕ) (this : Value) → Is (intrinsic n this)
  fine_intrinsic n this =
      fine_if tasks (nat_eq n 8) _ _ (fine_to_string this)
      (fine_if tasks (nat_eq n 9) _ _ (fine_value_of this)
      (fine_if tasks (nat_eq n 12) _ _ (fine_values this)
      (fine_if tasks (nat_eq n 13) _ _ (fine_next this)
      (fine_if tasks (nat_eq n 14) _ _ (an_end _)
      (fine_if tasks (nat_eq n 15) _ _ (an_end _)
      (fine_if tasks (nat_eq n 16) _ _ (an_end _)
      (fine_if tasks (nat_eq n 17) _ _ (an_end _) (an_end _))))))))

  fine_function : (what : Builtin) (this : Value) (args : List Value) → Is (function list blocks what this args)
  fine_function (builtins.Intrinsic n) this args = fine_intrinsic n this
  fine_function (builtins.Callee c) this args = fine_operation c args c.owner
  fine_function (builtins.InterfaceObject n) this args = an_end _
  fine_function (builtins.Pairs n what) this args = an_end _

  -- 5. All tasks

  pub fine_call_rule : (t : CallTask) → IsFine (call_rule built list blocks) (call_rule built list blocks t)
  fine_call_rule (Of t) = fine_of t
  fine_call_rule (Function f what this args construct) = fine_if tasks (built.functions what) _ _ (fine_function what this args) (an_end _)

  pub all_talked : AsksAreTalked (call_rule built list blocks)
  all_talked = asks_go_on (call_rule built list blocks) Fits (λ j. (fine_call_rule j).good)
