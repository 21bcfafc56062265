-- The laws of containers: what their own steps ask, in which order, and the order of a dictionary's members. The functions of `laws` have them as
-- contracts.
-- Source: this program's own.
use Rattle.std.specs.Prelude.{◌≡◌, ◌⊎◌, ℕ, true, false, List, [], ◌∷◌, ◌++◌, Some, codes}
use Rattle.std.specs.Cmp.Lexicographic.{slice_cmp}
use Rattle.std.specs.List.Sorted.{IsPermutation, IsSortedByKey}
use Rattle.std.specs.Ordering.{nat_cmp}
use Rattle.widl_dialog.specs.Dialog.{End, Say, Steps}
use Rattle.widl_text.specs.declared.key.Key.{Key}
use Rattle.widl_text.specs.declared.key.Key.TheVariants as keys
use Rattle.widl_idl.specs.declared.literal.Literal.{Literal}
use Rattle.widl_idl.specs.declared.text_kind.TextKind.{TextKind}
use Rattle.widl_idl.specs.DefinitionTerms.{DefsTerm}
use Rattle.widl_idl.specs.Terms.{TypeTerm, StringType, DictionaryType, SequenceType, RecordType}
use Rattle.widl_value.specs.declared.object.ObjRef.{ObjRef}
use Rattle.widl_value.specs.declared.value.Value.{Value}
use Rattle.widl_value.specs.declared.value.Value.TheVariants as values
use Rattle.widl_value.specs.IdlTerms.{IdlTerm, SequenceValue, DictionaryValue, packed_values, packed_members}
use Rattle.widl_scalar.specs.Primitives.{truth_of}
use Rattle.widl_steps.specs.AskTerms.{AskTerm, AnswerTerm, GetAsk, CallAsk, OwnKeysAsk, OwnAsk, NormalAnswer}
use Rattle.widl_steps.specs.Built.{Built}
use Rattle.widl_steps.specs.Laws.{Said, IsTalk}
use Rattle.widl_tables.specs.MemberOrder.{DeclaredMember, by_name, members_in_order}
use Rattle.widl_steps.specs.Rules.{rule}
use Rattle.widl_steps.specs.Sequences.{iterator_symbol}
use Rattle.widl_steps.specs.Tasks.{Task, Convert, SequenceFrom, Turns, Entries, Default, TaskEnd, Gives, Talk}

-- 1. What steps ask themselves, without the tasks that they go through

-- no more than one ask of each of these kinds, in this order; each task that they go through is one of these
abbrev pub AsksAtMost : List (AskTerm → Type 0) → (Task → Type 0) → Talk → Type 0
AsksAtMost asks tasks (End r) = Unit {0}
AsksAtMost [] tasks (Say q k) = ⊥
AsksAtMost (ask ∷ asks) tasks (Say q k) = ask q × ((a : AnswerTerm) → AsksAtMost asks tasks (k a))
AsksAtMost asks tasks (Steps j k) = tasks j × ((r : TaskEnd) → AsksAtMost asks tasks (k r))

abbrev pub IsGet : List ℕ → AskTerm → Type 0
IsGet name q = (o : ObjRef) × (q ≡ GetAsk o (keys.Name name))

-- 2. A sequence reads `@iterator` once, and then goes on from the method; that calls it, and reads `next` once; each turn calls this `next`, and
-- reads `done` and `value` of what it gives

abbrev pub IsFromMethod : TypeTerm → ObjRef → Task → Type 0
IsFromMethod t o j = (method : ObjRef) × (j ≡ SequenceFrom t o method)

abbrev pub AreFirstTurns : TypeTerm → Task → Type 0
AreFirstTurns t j = (iterator : ObjRef) × (next : ObjRef) × (j ≡ Turns t iterator next [])

abbrev pub IsElementOrTurns : TypeTerm → ObjRef → ObjRef → Task → Type 0
IsElementOrTurns t iterator next j = ((v : Value) × (j ≡ Convert t v)) ⊎ ((made : List IdlTerm) × (j ≡ Turns t iterator next made))

pub record SequencesAskOnce (built : Built) (list : DefsTerm) (t : TypeTerm) : Type 0 where
  pub method : (o : ObjRef) → AsksAtMost ((λ q. q ≡ GetAsk o (keys.Sym iterator_symbol)) ∷ []) (IsFromMethod t o) (rule built list (Convert (SequenceType t) (values.Obj o)))
  pub next : (o method : ObjRef) → AsksAtMost ((λ q. q ≡ CallAsk method (values.Obj o) []) ∷ IsGet (codes "next") ∷ []) (AreFirstTurns t) (rule built list (SequenceFrom t o method))
  pub turn : (iterator next : ObjRef) (made : List IdlTerm) → AsksAtMost ((λ q. q ≡ CallAsk next (values.Obj iterator) []) ∷ IsGet (codes "done") ∷ IsGet (codes "value") ∷ []) (IsElementOrTurns t iterator next) (rule built list (Turns t iterator next made))

-- the turns that give these elements, in their order: each calls `next`, and reads `done` of what it gives; where that isn't true it reads
-- `value` and has the conversation of the element, and else it is the last
abbrev pub AreTurns : Built → DefsTerm → TypeTerm → ObjRef → ObjRef → List IdlTerm → Said → Type 0
AreTurns built list t iterator next [] talk =
    (turn : ObjRef) × (is_done : Value) × (truth_of is_done ≡ true)
    × (talk ≡ (CallAsk next (values.Obj iterator) [], NormalAnswer (values.Obj turn)) ∷ (GetAsk turn (keys.Name (codes "done")), NormalAnswer is_done) ∷ [])
AreTurns built list t iterator next (w ∷ elements) talk =
    (turn : ObjRef) × (is_done : Value) × (v : Value) × (part : Said) × (more : Said) × (truth_of is_done ≡ false)
    × (talk ≡ (CallAsk next (values.Obj iterator) [], NormalAnswer (values.Obj turn)) ∷ (GetAsk turn (keys.Name (codes "done")), NormalAnswer is_done) ∷ (GetAsk turn (keys.Name (codes "value")), NormalAnswer v) ∷ (part ++ more))
    × IsTalk (rule built list) (Convert t v) part (Gives w) × AreTurns built list t iterator next elements more

-- a sequence of so many elements comes of one turn more, in each whole conversation that gives it
abbrev pub SequencesTakeTurns : Built → DefsTerm → Type 0
SequencesTakeTurns built list =
    (t : TypeTerm) (iterator next : ObjRef) (made : List IdlTerm) (talk : Said) (w : IdlTerm) → IsTalk (rule built list) (Turns t iterator next made) talk (Gives w)
    → (elements : List IdlTerm) × (w ≡ SequenceValue (packed_values (made ++ elements))) × AreTurns built list t iterator next elements talk

-- 3. A record asks for the own keys once; for each key it looks at the own property once, and reads it once, by the same key

abbrev pub AreEntries : TextKind → TypeTerm → ObjRef → Task → Type 0
AreEntries key t o j = (left : List Key) × (j ≡ Entries key t o left [])

abbrev pub IsConversionOrEntries : TextKind → TypeTerm → ObjRef → List Key → Task → Type 0
IsConversionOrEntries key t o left j =
    ((v : Value) × (j ≡ Convert (StringType key false) v)) ⊎ (((v : Value) × (j ≡ Convert t v)) ⊎ ((made : List (List ℕ × IdlTerm)) × (j ≡ Entries key t o left made)))

pub record RecordsAskOnce (built : Built) (list : DefsTerm) (key : TextKind) (t : TypeTerm) (o : ObjRef) : Type 0 where
  pub keys : AsksAtMost ((λ q. q ≡ OwnKeysAsk o) ∷ []) (AreEntries key t o) (rule built list (Convert (RecordType key t) (values.Obj o)))
  pub entry : (k : Key) (left : List Key) (made : List (List ℕ × IdlTerm)) → AsksAtMost ((λ q. q ≡ OwnAsk o k) ∷ (λ q. q ≡ GetAsk o k) ∷ []) (IsConversionOrEntries key t o left) (rule built list (Entries key t o (k ∷ left) made))

-- 4. Of a dictionary's object each member is read once, in their order, each before its value is converted: in each whole conversation that gives
-- the dictionary

-- the conversation of a member's value, or of its default value; or there is none
pub data IsMemberTalk (built : Built) (list : DefsTerm) (m : DeclaredMember) : Said → Type 0 where
  converted : {talk : Said} (v : Value) (w : IdlTerm) → IsTalk (rule built list) (Convert m.member.ty v) talk (Gives w) → IsMemberTalk built list m talk
  defaulted : {talk : Said} (l : Literal) (w : IdlTerm) → IsTalk (rule built list) (Default m.member.ty (Some l)) talk (Gives w) → IsMemberTalk built list m talk
  left_out : IsMemberTalk built list m []

abbrev pub ReadsInOrder : Built → DefsTerm → ObjRef → List DeclaredMember → Said → Type 0
ReadsInOrder built list o [] talk = talk ≡ []
ReadsInOrder built list o (m ∷ left) talk =
    (a : AnswerTerm) × (part : Said) × (more : Said) × (talk ≡ (GetAsk o (keys.Name m.member.name), a) ∷ (part ++ more)) × IsMemberTalk built list m part × ReadsInOrder built list o left more

abbrev pub MembersAreReadInOrder : Built → DefsTerm → Type 0
MembersAreReadInOrder built list =
    (n : ℕ) (o : ObjRef) (talk : Said) (w : IdlTerm) → built.to_type (DictionaryType n) ≡ true → IsTalk (rule built list) (Convert (DictionaryType n) (values.Obj o)) talk (Gives w) → ReadsInOrder built list o (members_in_order list n) talk

-- 5. The members of a dictionary's value are some of its own and inherited ones, in their order, each once

abbrev pub AreMembersOf : List DeclaredMember → List (ℕ × ℕ × IdlTerm) → Type 0
AreMembersOf [] made = made ≡ []
AreMembersOf (m ∷ left) made = AreMembersOf left made ⊎ ((w : IdlTerm) × (more : List (ℕ × ℕ × IdlTerm)) × (made ≡ (m.dictionary, m.number, w) ∷ more) × AreMembersOf left more)

abbrev pub IsDictionaryOf : DefsTerm → ℕ → IdlTerm → Type 0
IsDictionaryOf list n w = (made : List (ℕ × ℕ × IdlTerm)) × (w ≡ DictionaryValue n (packed_members made)) × AreMembersOf (members_in_order list n) made

abbrev pub MembersStandInOrder : Built → DefsTerm → Type 0
MembersStandInOrder built list =
    (n : ℕ) (v : Value) (talk : Said) (w : IdlTerm) → built.to_type (DictionaryType n) ≡ true → IsTalk (rule built list) (Convert (DictionaryType n) v) talk (Gives w) → IsDictionaryOf list n w

-- 6. The members that one dictionary declares, in order: the same ones, and none with a lesser name than the one before it
pub record IsOrdered (members ordered : List DeclaredMember) : Type 0 where
  pub same : IsPermutation members ordered
  pub ascending : IsSortedByKey (λ (m : DeclaredMember). m.member.name) (slice_cmp nat_cmp) ordered

abbrev pub NamesAscend : Type 0
NamesAscend = (members : List DeclaredMember) → IsOrdered members (by_name members)
