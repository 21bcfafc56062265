-- Short lists of asks and answers that begin no conversation of a container: a method that is read twice, a property that isn't looked at, a member
-- before those of its base, an iterator that is closed after a fault.
use Rattle.std.proofs.Common.{◌≡◌, ℕ, [], ◌∷◌, ◌++◌, arith}
use Rattle.std.specs.Prelude.{codes}
use Rattle.widl_dialog.specs.Conversation.{Next, Asks, Ends}
use Rattle.widl_dialog.proofs.Nexts.{one_next}
use Rattle.widl_text.specs.declared.key.Key.TheVariants as keys
use Rattle.widl_idl.specs.DefinitionTerms.{DefsTerm}
use Rattle.widl_value.specs.declared.value.Value.TheVariants as values
use Rattle.widl_steps.specs.AskTerms.{AskTerm, GetAsk, CallAsk, OwnAsk, UnitAsk, NewAsk, NewArray, Fits}
use Rattle.widl_steps.specs.Laws.{Said}
use Rattle.widl_steps.specs.Rules.{rule}
use Rattle.widl_steps.specs.Tasks.{Task, TaskEnd, Convert, Resolve, Rethrow}
use Rattle.widl_steps.proofs.Worked.{number, plain, function, call_throws, gets_name, derived, nothing_defined, f, everything_built, Tells}
use Rattle.widl_steps.proofs.Talks.ContainerTalks.{list_of_records, units_are_first}
use Rattle.widl_steps.proofs.Talks.DictionaryTalks as dictionary_talks
use Rattle.widl_steps.proofs.Talks.DictionaryTalks.{base_is_first, then_by_name}
use Rattle.widl_steps.proofs.Talks.RecordTalks as record_talks
use Rattle.widl_steps.proofs.Talks.RecordTalks.{listed, first_is_looked_at}
use Rattle.widl_steps.proofs.Talks.SequenceTalks.{of_numbers, begun, next_is_called, turn_throws, method, with_sequence, of_object, found_is_called}
use Rattle.widl_steps.proofs.Talks.UnionTalks.{number_or_sequence, object_with_method, probed_before, found_by_choice}

-- where something comes next, nothing else does
only_one : (list : DefsTerm) (task : Task) (said : Said) (next other : Next AskTerm TaskEnd) → Tells list task said next → Tells list task said other → next ≡ other
only_one list task said next other x y = one_next (rule everything_built list) Fits _ said next other x y

-- `next` is read once
next_not_read_again : Tells nothing_defined (of_numbers) (begun) (Asks (GetAsk (plain 3) (keys.Name (codes "next")))) → ⊥
next_not_read_again x =
    let e : ◌≡◌ {A = Next AskTerm TaskEnd} (Asks (CallAsk (function 4) (values.Obj (plain 3)) [])) (Asks (GetAsk (plain 3) (keys.Name (codes "next")))) = only_one nothing_defined (of_numbers) (begun) _ _ next_is_called x in
    absurd (cc)

-- after a fault the iterator isn't closed
no_return : Tells nothing_defined (of_numbers) (begun ++ call_throws (function 4) (values.Obj (plain 3)) [] (number 9) ∷ []) (Asks (GetAsk (plain 3) (keys.Name (codes "return")))) → ⊥
no_return x =
    let e : ◌≡◌ {A = Next AskTerm TaskEnd} (Ends (Rethrow (number 9))) (Asks (GetAsk (plain 3) (keys.Name (codes "return")))) = only_one nothing_defined (of_numbers) (begun ++ call_throws (function 4) (values.Obj (plain 3)) [] (number 9) ∷ []) _ _ turn_throws x in
    absurd (cc)

-- a property isn't read before it was looked at
not_read_unseen : Tells nothing_defined (record_talks.of_numbers) (listed) (Asks (GetAsk (plain 1) (keys.Name (codes "2")))) → ⊥
not_read_unseen x =
    let e : ◌≡◌ {A = Next AskTerm TaskEnd} (Asks (OwnAsk (plain 1) (keys.Name (codes "2")))) (Asks (GetAsk (plain 1) (keys.Name (codes "2")))) = only_one nothing_defined (record_talks.of_numbers) (listed) _ _ first_is_looked_at x in
    absurd (cc)

-- the members of the base come first
not_before_base : Tells derived (dictionary_talks.of_object) ([]) (Asks (GetAsk (plain 1) (keys.Name (97 ∷ [])))) → ⊥
not_before_base x =
    let e : ◌≡◌ {A = Next AskTerm TaskEnd} (Asks (GetAsk (plain 1) (keys.Name (98 ∷ [])))) (Asks (GetAsk (plain 1) (keys.Name (97 ∷ [])))) = only_one derived (dictionary_talks.of_object) ([]) _ _ base_is_first x in
    let unit : ◌≡◌ {A = ℕ} 98 97 = cc in
    absurd (omega (arith, unit))

-- and then those of the dictionary by their names, not as they are declared
not_as_declared : Tells derived (dictionary_talks.of_object) (gets_name (plain 1) (98 ∷ []) (number 2) ∷ []) (Asks (GetAsk (plain 1) (keys.Name (99 ∷ [])))) → ⊥
not_as_declared x =
    let e : ◌≡◌ {A = Next AskTerm TaskEnd} (Asks (GetAsk (plain 1) (keys.Name (97 ∷ [])))) (Asks (GetAsk (plain 1) (keys.Name (99 ∷ [])))) = only_one derived (dictionary_talks.of_object) (gets_name (plain 1) (98 ∷ []) (number 2) ∷ []) _ _ then_by_name x in
    let unit : ◌≡◌ {A = ℕ} 97 99 = cc in
    absurd (omega (arith, unit))

-- a method that a union found isn't read again
union_reads_once : Tells nothing_defined (Convert number_or_sequence (values.Obj (plain 1))) (method) (Asks (GetAsk (plain 1) (keys.Sym 0))) → ⊥
union_reads_once x =
    let e : ◌≡◌ {A = Next AskTerm TaskEnd} (Asks (CallAsk (function 2) (values.Obj (plain 1)) [])) (Asks (GetAsk (plain 1) (keys.Sym 0))) = only_one nothing_defined (Convert number_or_sequence (values.Obj (plain 1))) (method) _ _ object_with_method x in
    absurd (cc)

-- nor is one that the choice of an overload found, also where the entry has a union
choice_reads_once : Tells with_sequence (of_object) (method) (Asks (GetAsk (plain 1) (keys.Sym 0))) → ⊥
choice_reads_once x =
    let e : ◌≡◌ {A = Next AskTerm TaskEnd} (Asks (CallAsk (function 2) (values.Obj (plain 1)) [])) (Asks (GetAsk (plain 1) (keys.Sym 0))) = only_one with_sequence (of_object) (method) _ _ found_is_called x in
    absurd (cc)

choice_of_union_reads_once : Tells probed_before (Resolve f (values.Obj (plain 1) ∷ [])) (method) (Asks (GetAsk (plain 1) (keys.Sym 0))) → ⊥
choice_of_union_reads_once x =
    let e : ◌≡◌ {A = Next AskTerm TaskEnd} (Asks (CallAsk (function 2) (values.Obj (plain 1)) [])) (Asks (GetAsk (plain 1) (keys.Sym 0))) = only_one probed_before (Resolve f (values.Obj (plain 1) ∷ [])) (method) _ _ found_by_choice x in
    absurd (cc)

-- no container is made before its items
not_before_items : Tells nothing_defined (list_of_records) ([]) (Asks (NewAsk (NewArray []))) → ⊥
not_before_items x =
    let e : ◌≡◌ {A = Next AskTerm TaskEnd} (Asks UnitAsk) (Asks (NewAsk (NewArray []))) = only_one nothing_defined (list_of_records) ([]) _ _ units_are_first x in
    absurd (cc)
