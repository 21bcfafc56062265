-- The law of unions: the conversation of a conversion to one is that of a member.
use Rattle.std.proofs.Common.{◌≡◌, ℕ, zero, suc, Bool, true, false, ◌&&◌, if◌then◌else◌, [], ◌∷◌, slice_get, Option, None, Some, refl, sym, ap, subst}
use Rattle.std.specs.Option.{option_and_then}
use Rattle.widl_dialog.specs.Conversation.{Ends, Comes, Reads}
use Rattle.widl_dialog.specs.Dialog.{End}
use Rattle.widl_dialog.proofs.Bind.{bind_end}
use Rattle.widl_text.specs.declared.key.Key.TheVariants as keys
use Rattle.widl_idl.specs.DefinitionTerms.{DefsTerm}
use Rattle.widl_idl.specs.Flattened.{flattened_members, includes_nullable_type}
use Rattle.widl_idl.specs.Terms.{TypeTerm, TypeTerms, AnyType, UndefinedType, BooleanType, IntegerType, StringType, EnumerationType, InterfaceType, CallbackFunctionType, CallbackInterfaceType, DictionaryType, ObjectType, SequenceType, RecordType, PromiseType, NullableType, UnionType}
use Rattle.widl_value.specs.Classes.{class_of}
use Rattle.widl_value.specs.declared.object.ObjRef.{ObjRef}
use Rattle.widl_value.specs.declared.object.Shape.{Shape}
use Rattle.widl_value.specs.declared.object.Shape.TheVariants as shapes
use Rattle.widl_value.specs.declared.value.Value.{Value}
use Rattle.widl_value.specs.declared.value.Value.TheVariants as values
use Rattle.widl_value.specs.IdlTerms.{IdlTerm, NullValue}
use Rattle.widl_trace.specs.declared.code.Code.{Code}
use Rattle.widl_trace.specs.declared.code.Code.TheVariants as code
use Rattle.widl_tables.specs.declared.pick.Pick.{Pick}
use Rattle.widl_tables.specs.declared.pick.Pick.TheVariants.{Entry, Probe, Refuse}
use Rattle.widl_tables.specs.Picks.{pick_member_of}
use Rattle.widl_tables.specs.Tests.{is_null_or_undefined}
use Rattle.widl_steps.specs.AskTerms.{AnswerTerm, BeginAnswer, DoneAnswer, NormalAnswer, ThrownAnswer, SightAnswer, KeysAnswer, OwnAnswer, GetAsk, Fits}
use Rattle.widl_steps.specs.Built.{Built}
use Rattle.widl_steps.specs.Laws.{Said}
use Rattle.widl_steps.specs.Rules.{rule}
use Rattle.widl_steps.specs.Scalars.{convert_plain}
use Rattle.widl_steps.specs.Sequences.{element_of, if_sequences, iterator_symbol}
use Rattle.widl_steps.specs.Tasks.{Task, Convert, SequenceFrom, TaskEnd, Gives, Throw, Rethrow, Profile, Talk}
use Rattle.widl_steps.specs.UnionLaws.{IsMemberConversation, UnionsAskAsMembers, is_null, of_member, after_get, from_method}
use Rattle.widl_steps.specs.Unions.{member_from, member_picked, member_probed, to_member, to_union, without_iterator}
use Rattle.widl_steps.specs.Words.{fails, if_callable, normal, not_built}

-- the type of the elements is that of a sequence type
is_sequence_of : (m : Option TypeTerm) (t : TypeTerm) → option_and_then element_of m ≡ Some t → m ≡ Some (SequenceType t)
is_sequence_of None t h = absurd (cc)
is_sequence_of (Some (SequenceType s)) t h = ap (λ (x : Option TypeTerm). option_sequence x) h
  where
    option_sequence : Option TypeTerm → Option TypeTerm
    option_sequence None = None
    option_sequence (Some x) = Some (SequenceType x)
is_sequence_of (Some AnyType) t h = absurd (cc)
is_sequence_of (Some UndefinedType) t h = absurd (cc)
is_sequence_of (Some BooleanType) t h = absurd (cc)
is_sequence_of (Some (IntegerType kind mode)) t h = absurd (cc)
is_sequence_of (Some (StringType kind null_empty)) t h = absurd (cc)
is_sequence_of (Some (EnumerationType n)) t h = absurd (cc)
is_sequence_of (Some (InterfaceType n)) t h = absurd (cc)
is_sequence_of (Some (CallbackFunctionType n)) t h = absurd (cc)
is_sequence_of (Some (CallbackInterfaceType n)) t h = absurd (cc)
is_sequence_of (Some (DictionaryType n)) t h = absurd (cc)
is_sequence_of (Some ObjectType) t h = absurd (cc)
is_sequence_of (Some (RecordType key s)) t h = absurd (cc)
is_sequence_of (Some (PromiseType s)) t h = absurd (cc)
is_sequence_of (Some (NullableType s)) t h = absurd (cc)
is_sequence_of (Some (UnionType us)) t h = absurd (cc)

module _ (built : Built) (list : DefsTerm) (w : IdlTerm) where
  abbrev steps : Task → Talk
  steps = rule built list

  -- the value is given at the end of these
  abbrev Given : Talk → Said → Type 0
  Given d talk = Comes steps Fits d talk (Ends (Gives w))

  -- another end gives nothing
  not_given : (r : TaskEnd) (talk : Said) → (r ≡ Gives w → ⊥) → Given (End r) talk → ⊥
  not_given r talk none (zero, x) = x
  not_given r [] none (suc f, x) = none (cc)
  not_given r (p ∷ talk) none (suc f, x) = x

  fault : (c : Code) (talk : Said) → Given (fails c) talk → ⊥
  fault c talk x = not_given (Throw c) talk (λ h. absurd (cc)) x

  unbuilt : (talk : Said) → Given not_built talk → ⊥
  unbuilt talk x = not_given (Profile 99) talk (λ h. absurd (cc)) x

  never_built : (b : Bool) (talk : Said) → Given (if b then not_built else not_built) talk → ⊥
  never_built true talk x = unbuilt talk x
  never_built false talk x = unbuilt talk x

  -- 1. A member's conversion

  plain : (t : TypeTerm) (v : Value) (talk : Said) → Given (convert_plain built list t v) talk → Given (steps (Convert t v)) talk
  plain (NullableType t) v talk x = absurd (never_built (built.to_type (NullableType t)) talk x)
  plain (UnionType us) v talk x = absurd (never_built (built.to_type (UnionType us)) talk x)
  plain t v talk x = x

  pub record Taken (m : Option TypeTerm) (v : Value) (talk : Said) : Type 0 where
    pub member : TypeTerm
    pub is : m ≡ Some member
    pub given : Given (steps (Convert member v)) talk

  taken : (m : Option TypeTerm) (v : Value) (talk : Said) → Given (to_member (convert_plain built list) m v) talk → Taken m v talk
  taken (Some t) v talk x = record { member = t; is = refl; given = plain t v talk x }
  taken None v talk x = absurd (fault code.Union talk x)

  pub record FromMethod (m : Option TypeTerm) (o method : ObjRef) (talk : Said) : Type 0 where
    pub element : TypeTerm
    pub is : m ≡ Some element
    pub given : Given (steps (SequenceFrom element o method)) talk

  made : (b : Bool) (m : Option TypeTerm) (o method : ObjRef) (talk : Said) → Given (if b then member_from o method m else not_built) talk → FromMethod m o method talk
  made false m o method talk x = absurd (unbuilt talk x)
  made true None o method talk x = absurd (fault code.Union talk x)
  made true (Some t) o method talk (zero, x) = absurd x
  made true (Some t) o method talk (suc f, x) = record {
    element = t;
    is = refl;
    given = (f, subst (λ (d : Talk). Reads steps Fits f d talk (Ends (Gives w))) (bind_end (steps (SequenceFrom t o method))) x);
  }

  -- 2. Behind the Get

  module _ (ts : TypeTerms) (place : ℕ) (o : ObjRef) where
    abbrev IsAfterGet : AnswerTerm → Said → Type 0
    IsAfterGet a talk = IsMemberConversation built list ts (values.Obj o) ((GetAsk o (keys.Sym iterator_symbol), a) ∷ talk) w

    without : (a : AnswerTerm) (p : Pick) (talk : Said) → Given (without_iterator (convert_plain built list) ts (values.Obj o) p) talk → IsAfterGet a talk
    without a (Entry e) talk x = let m = taken (slice_get (flattened_members ts) e) (values.Obj o) talk x in after_get a m.member (e, m.is) m.given
    without a (Probe e) talk x = absurd (fault code.Union talk x)
    without a Refuse talk x = absurd (fault code.Union talk x)

    with_method : (a : AnswerTerm) (method : ObjRef) (s : Shape) (talk : Said)
        → Given (if_callable s (if_sequences built (member_from o method (option_and_then element_of (slice_get (flattened_members ts) place)))) (fails code.NotCallable)) talk → IsAfterGet a talk
    with_method a method shapes.Callable talk x =
        let m = made (built.to_type (SequenceType AnyType)) (option_and_then element_of (slice_get (flattened_members ts) place)) o method talk x in
        from_method a m.element method (place, is_sequence_of (slice_get (flattened_members ts) place) m.element m.is) m.given
    with_method a method shapes.Plain talk x = absurd (fault code.NotCallable talk x)
    with_method a method (shapes.Platform n) talk x = absurd (fault code.NotCallable talk x)

    found : (a : AnswerTerm) (v : Value) (talk : Said) → Given (member_probed (convert_plain built list) built list ts place o v) talk → IsAfterGet a talk
    found a values.Undefined talk x = without a (pick_member_of list ts (class_of (values.Obj o)) true) talk x
    found a values.Null talk x = without a (pick_member_of list ts (class_of (values.Obj o)) true) talk x
    found a (values.Obj method) talk x = with_method a method method.shape talk x
    found a (values.Bool b) talk x = absurd (fault code.NotCallable talk x)
    found a (values.Num n) talk x = absurd (fault code.NotCallable talk x)
    found a (values.Str units) talk x = absurd (fault code.NotCallable talk x)
    found a (values.Sym n) talk x = absurd (fault code.NotCallable talk x)

    answered : (a : AnswerTerm) (talk : Said) → Fits (GetAsk o (keys.Sym iterator_symbol)) a → Given (normal (member_probed (convert_plain built list) built list ts place o) a) talk → IsAfterGet a talk
    answered (NormalAnswer v) talk fits x = found (NormalAnswer v) v talk x
    answered (ThrownAnswer v) talk fits x = absurd (not_given (Rethrow v) talk (λ h. absurd (cc)) x)
    answered BeginAnswer talk fits x = absurd fits
    answered DoneAnswer talk fits x = absurd fits
    answered (SightAnswer sight) talk fits x = absurd fits
    answered (KeysAnswer names) talk fits x = absurd fits
    answered (OwnAnswer flags) talk fits x = absurd fits

  -- 3. The whole

  module _ (ts : TypeTerms) where
    probed : (place : ℕ) (v : Value) (talk : Said) → Given (member_picked (convert_plain built list) built list ts v (Probe place)) talk → IsMemberConversation built list ts v talk w
    probed place (values.Obj o) talk (zero, x) = absurd x
    probed place (values.Obj o) [] (suc f, x) = absurd (cc)
    probed place (values.Obj o) (p ∷ talk) (suc f, x) = subst (λ q. IsMemberConversation built list ts (values.Obj o) ((q, p.1) ∷ talk) w) (sym x.0) (answered ts place o p.1 talk x.1 (f, x.2))
    probed place values.Undefined talk x = absurd (fault code.Union talk x)
    probed place values.Null talk x = absurd (fault code.Union talk x)
    probed place (values.Bool b) talk x = absurd (fault code.Union talk x)
    probed place (values.Num n) talk x = absurd (fault code.Union talk x)
    probed place (values.Str units) talk x = absurd (fault code.Union talk x)
    probed place (values.Sym n) talk x = absurd (fault code.Union talk x)

    picked : (p : Pick) (v : Value) (talk : Said) → Given (member_picked (convert_plain built list) built list ts v p) talk → IsMemberConversation built list ts v talk w
    picked (Entry place) v talk x = let m = taken (slice_get (flattened_members ts) place) v talk x in of_member m.member (place, m.is) m.given
    picked (Probe place) v talk x = probed place v talk x
    picked Refuse v talk x = absurd (fault code.Union talk x)

    null : (v : Value) (talk : Said) → Given (End (Gives NullValue)) talk → IsMemberConversation built list ts v talk w
    null v talk (zero, x) = absurd x
    null v [] (suc f, x) = subst (λ u. IsMemberConversation built list ts v [] u) (cc) is_null
    null v (p ∷ talk) (suc f, x) = absurd x

    null_or_picked : (b : Bool) (p : Pick) (v : Value) (talk : Said) → Given (if b then End (Gives NullValue) else member_picked (convert_plain built list) built list ts v p) talk → IsMemberConversation built list ts v talk w
    null_or_picked true p v talk x = null v talk x
    null_or_picked false p v talk x = picked p v talk x

    of_union : (b : Bool) (v : Value) (talk : Said) → Given (if b then to_union (convert_plain built list) built list ts v else not_built) talk → IsMemberConversation built list ts v talk w
    of_union true v talk x = null_or_picked (includes_nullable_type (UnionType ts) && is_null_or_undefined (class_of v)) (pick_member_of list ts (class_of v) false) v talk x
    of_union false v talk x = absurd (unbuilt talk x)

pub unions_ask_as_members : (built : Built) (list : DefsTerm) → UnionsAskAsMembers built list
unions_ask_as_members built list ts v talk w x = of_union built list w ts (built.to_type (UnionType ts)) v talk x
