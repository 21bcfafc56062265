-- What the steps of containers ask themselves, at most.
use Rattle.std.proofs.Common.{◌≡◌, ℕ, false, List, [], ◌∷◌, ◌++◌, refl}
use Rattle.std.specs.Prelude.{codes}
use mathlib.Core.Logic.{inl, inr}
use Rattle.widl_dialog.specs.Dialog.{End, Say, Steps}
use Rattle.widl_text.specs.declared.key.Key.{Key}
use Rattle.widl_text.specs.declared.key.Key.TheVariants as keys
use Rattle.widl_idl.specs.declared.text_kind.TextKind.{TextKind}
use Rattle.widl_idl.specs.DefinitionTerms.{DefsTerm}
use Rattle.widl_idl.specs.Terms.{TypeTerm, StringType, SequenceType, RecordType}
use Rattle.widl_value.specs.declared.object.ObjRef.{ObjRef}
use Rattle.widl_value.specs.declared.value.Value.{Value}
use Rattle.widl_value.specs.declared.value.Value.TheVariants as values
use Rattle.widl_value.specs.IdlTerms.{IdlTerm}
use Rattle.widl_scalar.specs.Primitives.{truth_of}
use Rattle.widl_steps.specs.AskTerms.{AskTerm, AnswerTerm, GetAsk, CallAsk, OwnKeysAsk, OwnAsk}
use Rattle.widl_steps.specs.Built.{Built}
use Rattle.widl_steps.specs.ContainerLaws.{AsksAtMost, IsGet, IsFromMethod, AreFirstTurns, IsElementOrTurns, SequencesAskOnce, AreEntries, IsConversionOrEntries, RecordsAskOnce}
use Rattle.widl_steps.specs.Records.{is_enumerable, flags_in, keys_in, key_value, with_entry, entry_value, entries, to_record}
use Rattle.widl_steps.specs.Sequences.{iterator_symbol, element, told_done, turn_given, turns, with_next, with_iterator, sequence_from, found_iterator_method, to_sequence}
use Rattle.widl_steps.specs.Tasks.{Task, Convert, SequenceFrom, Turns, Entries, TaskEnd, Talk}
use Rattle.widl_steps.specs.Words.{normal, given}
use Rattle.widl_steps.proofs.WordCases.{of_if, of_normal, of_object, of_callable, of_method, of_given, of_named}

-- 1. The words

-- a record, so that it is known of which steps it speaks
pub record Is (asks : List (AskTerm → Type 0)) (tasks : Task → Type 0) (d : Talk) : Type 0 where
  pub on : AsksAtMost asks tasks d

module _ (tasks : Task → Type 0) where
  at_end : (asks : List (AskTerm → Type 0)) (r : TaskEnd) → Is asks tasks (End r)
  at_end asks r = record { on = tt }

  at_say : (ask : AskTerm → Type 0) (asks : List (AskTerm → Type 0)) (q : AskTerm) (k : AnswerTerm → Talk) → ask q → ((a : AnswerTerm) → Is asks tasks (k a)) → Is (ask ∷ asks) tasks (Say q k)
  at_say ask asks q k x all = record { on = (x, λ a. (all a).on) }

  at_ask : (ask : AskTerm → Type 0) (asks : List (AskTerm → Type 0)) (q : AskTerm) (k : Value → Talk) → ask q → ((v : Value) → Is asks tasks (k v)) → Is (ask ∷ asks) tasks (Say q (normal k))
  at_ask ask asks q k x all = at_say ask asks q (normal k) x (of_normal (Is asks tasks) (at_end asks) k all)

  at_steps : (asks : List (AskTerm → Type 0)) (j : Task) (k : TaskEnd → Talk) → tasks j → ((r : TaskEnd) → Is asks tasks (k r)) → Is asks tasks (Steps j k)
  at_steps asks j k x all = record { on = (x, λ r. (all r).on) }

  at_given : (asks : List (AskTerm → Type 0)) (j : Task) (k : IdlTerm → Talk) → tasks j → ((w : IdlTerm) → Is asks tasks (k w)) → Is asks tasks (Steps j (given k))
  at_given asks j k x all = at_steps asks j (given k) x (of_given (Is asks tasks) (at_end asks) k all)

  at_last : (asks : List (AskTerm → Type 0)) (j : Task) → tasks j → Is asks tasks (Steps j End)
  at_last asks j x = at_steps asks j End x (at_end asks)

-- 2. Sequences

module _ (t : TypeTerm) where
  method_once : (o : ObjRef) → Is ((λ q. q ≡ GetAsk o (keys.Sym iterator_symbol)) ∷ []) (IsFromMethod t o) (to_sequence t (values.Obj o))
  method_once o =
      at_ask (IsFromMethod t o) _ [] _ (found_iterator_method t o) refl
      (of_method (Is [] (IsFromMethod t o)) (at_end (IsFromMethod t o) []) _ _ (at_end (IsFromMethod t o) [] _) (λ method. at_last (IsFromMethod t o) [] (SequenceFrom t o method) (method, refl)))

  next_once : (o method : ObjRef) → Is ((λ q. q ≡ CallAsk method (values.Obj o) []) ∷ IsGet (codes "next") ∷ []) (AreFirstTurns t) (sequence_from t o method)
  next_once o method =
      at_ask (AreFirstTurns t) _ _ _ (with_iterator t) refl
      (of_object (Is (IsGet (codes "next") ∷ []) (AreFirstTurns t)) (at_end (AreFirstTurns t) _) _ _
      (λ iterator. at_ask (AreFirstTurns t) (IsGet (codes "next")) [] _ (with_next t iterator) (iterator, refl)
      (of_callable (Is [] (AreFirstTurns t)) (at_end (AreFirstTurns t) []) _ _ (at_end (AreFirstTurns t) [] _) (λ next. at_last (AreFirstTurns t) [] (Turns t iterator next []) (iterator, next, refl)))))

  turn_once : (iterator next : ObjRef) (made : List IdlTerm) → Is ((λ q. q ≡ CallAsk next (values.Obj iterator) []) ∷ IsGet (codes "done") ∷ IsGet (codes "value") ∷ []) (IsElementOrTurns t iterator next) (turns t iterator next made)
  turn_once iterator next made =
      let tasks : Task → Type 0 = IsElementOrTurns t iterator next in
      at_ask tasks _ _ _ (turn_given t iterator next made) refl
      (of_object (Is (IsGet (codes "done") ∷ IsGet (codes "value") ∷ []) tasks) (at_end tasks _) _ _
      (λ turn. at_ask tasks (IsGet (codes "done")) _ _ (told_done t iterator next made turn) (turn, refl)
      (λ d. of_if (Is (IsGet (codes "value") ∷ []) tasks) (at_end tasks _) (truth_of d) _ _ (at_end tasks _ _)
      (at_ask tasks (IsGet (codes "value")) [] _ (element t iterator next made) (turn, refl)
      (λ v. at_given tasks [] (Convert t v) _ (inl (v, refl)) (λ w. at_last tasks [] (Turns t iterator next (made ++ w ∷ [])) (inr (made ++ w ∷ [], refl))))))))

pub sequences_ask_once : (built : Built) (list : DefsTerm) (t : TypeTerm) → SequencesAskOnce built list t
sequences_ask_once built list t = record {
  method = λ o. (of_if (Is ((λ q. q ≡ GetAsk o (keys.Sym iterator_symbol)) ∷ []) (IsFromMethod t o)) (at_end (IsFromMethod t o) _) (built.to_type (SequenceType t)) _ _ (method_once t o) (at_end (IsFromMethod t o) _ _)).on;
  next = λ o method. (next_once t o method).on;
  turn = λ iterator next made. (turn_once t iterator next made).on;
}

-- 3. Records

module _ (key : TextKind) (t : TypeTerm) (o : ObjRef) where
  keys_once : Is ((λ q. q ≡ OwnKeysAsk o) ∷ []) (AreEntries key t o) (to_record key t (values.Obj o))
  keys_once = at_say (AreEntries key t o) _ [] _ _ refl (λ a. at_last (AreEntries key t o) [] (Entries key t o (keys_in a) []) (keys_in a, refl))

  entry_once : (k : Key) (left : List Key) (made : List (List ℕ × IdlTerm)) → Is ((λ q. q ≡ OwnAsk o k) ∷ (λ q. q ≡ GetAsk o k) ∷ []) (IsConversionOrEntries key t o left) (entries key t o (k ∷ left) made)
  entry_once k left made =
      let tasks : Task → Type 0 = IsConversionOrEntries key t o left in
      let reads : AskTerm → Type 0 = λ q. q ≡ GetAsk o k in
      at_say tasks _ (reads ∷ []) _ _ refl
      (λ a. of_if (Is (reads ∷ []) tasks) (at_end tasks _) (is_enumerable (flags_in a)) _ _
      (at_steps tasks (reads ∷ []) (Convert (StringType key false) (key_value k)) _ (inl (key_value k, refl))
      (of_named (Is (reads ∷ []) tasks) (at_end tasks _) _
      (λ name. at_ask tasks reads [] _ (entry_value key t o left made name) refl
      (λ v. at_given tasks [] (Convert t v) _ (inr (inl (v, refl))) (λ w. at_last tasks [] (Entries key t o left (with_entry name w made)) (inr (inr (with_entry name w made, refl))))))))
      (at_last tasks _ (Entries key t o left made) (inr (inr (made, refl)))))

pub records_ask_once : (built : Built) (list : DefsTerm) (key : TextKind) (t : TypeTerm) (o : ObjRef) → RecordsAskOnce built list key t o
records_ask_once built list key t o = record {
  keys = (of_if (Is ((λ q. q ≡ OwnKeysAsk o) ∷ []) (AreEntries key t o)) (at_end (AreEntries key t o) _) (built.to_type (RecordType key t)) _ _ (keys_once key t o) (at_end (AreEntries key t o) _ _)).on;
  entry = λ k left made. (entry_once key t o k left made).on;
}
