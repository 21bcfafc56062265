-- The law of unions: what is asked and given by a conversion to one. The functions of `laws` have it as a contract.
-- Source: this program's own.
use Rattle.std.specs.Prelude.{◌≡◌, ℕ, [], ◌∷◌, slice_get, Some}
use Rattle.widl_text.specs.declared.key.Key.TheVariants as keys
use Rattle.widl_idl.specs.DefinitionTerms.{DefsTerm}
use Rattle.widl_idl.specs.Flattened.{flattened_members}
use Rattle.widl_idl.specs.Terms.{TypeTerm, TypeTerms, SequenceType, UnionType}
use Rattle.widl_value.specs.declared.object.ObjRef.{ObjRef}
use Rattle.widl_value.specs.declared.value.Value.{Value}
use Rattle.widl_value.specs.declared.value.Value.TheVariants as values
use Rattle.widl_value.specs.IdlTerms.{IdlTerm, NullValue}
use Rattle.widl_steps.specs.AskTerms.{AnswerTerm, GetAsk}
use Rattle.widl_steps.specs.Built.{Built}
use Rattle.widl_steps.specs.Laws.{Said, IsTalk}
use Rattle.widl_steps.specs.Rules.{rule}
use Rattle.widl_steps.specs.Sequences.{iterator_symbol}
use Rattle.widl_steps.specs.Tasks.{Convert, SequenceFrom, Gives}

abbrev pub IsFlattenedMember : TypeTerms → TypeTerm → Type 0
IsFlattenedMember ts t = (place : ℕ) × (slice_get (flattened_members ts) place ≡ Some t)

-- The conversation of a value's conversion to a union with these members that gives an IDL value. It is null, with nothing asked; or the
-- conversation of the conversion to a flattened member; or such a one after one Get of `@iterator`, of the object that is converted; or that Get
-- found the method from which a flattened member's sequence is made.
pub data IsMemberConversation (built : Built) (list : DefsTerm) (ts : TypeTerms) : Value → Said → IdlTerm → Type 0 where
  is_null : {v : Value} → IsMemberConversation built list ts v [] NullValue
  of_member : {v : Value} {talk : Said} {w : IdlTerm} (t : TypeTerm) → IsFlattenedMember ts t → IsTalk (rule built list) (Convert t v) talk (Gives w) → IsMemberConversation built list ts v talk w
  after_get : {o : ObjRef} {more : Said} {w : IdlTerm} (a : AnswerTerm) (t : TypeTerm) → IsFlattenedMember ts t → IsTalk (rule built list) (Convert t (values.Obj o)) more (Gives w)
      → IsMemberConversation built list ts (values.Obj o) ((GetAsk o (keys.Sym iterator_symbol), a) ∷ more) w
  from_method : {o : ObjRef} {more : Said} {w : IdlTerm} (a : AnswerTerm) (t : TypeTerm) (method : ObjRef) → IsFlattenedMember ts (SequenceType t) → IsTalk (rule built list) (SequenceFrom t o method) more (Gives w)
      → IsMemberConversation built list ts (values.Obj o) ((GetAsk o (keys.Sym iterator_symbol), a) ∷ more) w

abbrev pub UnionsAskAsMembers : Built → DefsTerm → Type 0
UnionsAskAsMembers built list = (ts : TypeTerms) (v : Value) (talk : Said) (w : IdlTerm) → IsTalk (rule built list) (Convert (UnionType ts) v) talk (Gives w) → IsMemberConversation built list ts v talk w
