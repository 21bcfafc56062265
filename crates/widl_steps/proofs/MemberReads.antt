-- Of a dictionary's object each member is read once, in their order.
use Rattle.std.proofs.Common.{◌≡◌, ◌⊎◌, inl, inr, ℕ, zero, suc, Bool, true, false, if◌then◌else◌, List, [], ◌∷◌, ◌++◌, Option, None, Some, refl, subst}
use Rattle.widl_dialog.specs.Dialog.{End, Steps}
use Rattle.widl_dialog.specs.Conversation.{Ends, Reads, Comes, Parts}
use Rattle.widl_dialog.proofs.Bind.{bind_end}
use Rattle.widl_dialog.proofs.Nexts.{splits}
use Rattle.widl_text.specs.declared.key.Key.TheVariants as keys
use Rattle.widl_idl.specs.declared.literal.Literal.{Literal}
use Rattle.widl_idl.specs.DefinitionTerms.{DefsTerm}
use Rattle.widl_idl.specs.Terms.{DictionaryType}
use Rattle.widl_value.specs.declared.object.ObjRef.{ObjRef}
use Rattle.widl_value.specs.declared.value.Value.{Value}
use Rattle.widl_value.specs.declared.value.Value.TheVariants as values
use Rattle.widl_value.specs.IdlTerms.{IdlTerm}
use Rattle.widl_steps.specs.AskTerms.{AnswerTerm, GetAsk, BeginAnswer, DoneAnswer, NormalAnswer, ThrownAnswer, SightAnswer, KeysAnswer, OwnAnswer, Fits}
use Rattle.widl_steps.specs.Built.{Built}
use Rattle.widl_steps.specs.ContainerLaws.{IsMemberTalk, converted, defaulted, left_out, ReadsInOrder, MembersAreReadInOrder}
use Rattle.widl_trace.specs.declared.code.Code.TheVariants as code
use Rattle.widl_steps.specs.Dictionaries.{with_value, member_given, undefined_member, member_value, members, dictionary_of}
use Rattle.widl_steps.specs.Laws.{Said, IsTalk}
use Rattle.widl_tables.specs.MemberOrder.{DeclaredMember, members_in_order}
use Rattle.widl_steps.specs.Rules.{rule}
use Rattle.widl_steps.specs.Tasks.{Task, Convert, Default, Members, TaskEnd, Gives, Plain, Picks, Throw, Rethrow, Profile, Talk}
use Rattle.widl_steps.specs.Words.{fails, normal, not_built}

module _ (built : Built) (list : DefsTerm) where
  abbrev pub steps : Task → Talk
  steps = rule built list

  -- the dictionary is given at the end of these
  abbrev pub Given : Talk → Said → IdlTerm → Type 0
  Given d talk w = Comes steps Fits d talk (Ends (Gives w))

  -- what is left is split off: a member's part, and the members after it
  pub record Split (n : ℕ) (o : Option ObjRef) (m : DeclaredMember) (left : List DeclaredMember) (before : List (ℕ × ℕ × IdlTerm)) (talk : Said) (w : IdlTerm) : Type 0 where
    pub part : Said
    pub more : Said
    pub made : List (ℕ × ℕ × IdlTerm)
    pub is_made : (made ≡ before) ⊎ ((u : IdlTerm) × (made ≡ with_value m u before))
    pub whole : talk ≡ part ++ more
    pub is_part : IsMemberTalk built list m part
    pub rest : Given (steps (Members n o left made)) more w

  -- another end gives nothing
  pub not_given : (r : TaskEnd) (talk : Said) (w : IdlTerm) → ((u : IdlTerm) → r ≡ Gives u → ⊥) → Given (End r) talk w → ⊥
  not_given r talk w none (zero, x) = x
  not_given r [] w none (suc f, x) = none w (cc)
  not_given r (p ∷ talk) w none (suc f, x) = x

  pub goes_on_to : (n : ℕ) (o : Option ObjRef) (left : List DeclaredMember) (made : List (ℕ × ℕ × IdlTerm)) (w : IdlTerm) (talk : Said) → Given (Steps (Members n o left made) End) talk w → Given (steps (Members n o left made)) talk w
  goes_on_to n o left made w talk (zero, x) = absurd x
  goes_on_to n o left made w talk (suc f, x) = (f, subst (λ (d : Talk). Reads steps Fits f d talk (Ends (Gives w))) (bind_end (steps (Members n o left made))) x)

  module _ (n : ℕ) (o : Option ObjRef) (m : DeclaredMember) (left : List DeclaredMember) (made : List (ℕ × ℕ × IdlTerm)) (w : IdlTerm) where
    goes_on : (made : List (ℕ × ℕ × IdlTerm)) (talk : Said) → Given (Steps (Members n o left made) End) talk w → Given (steps (Members n o left made)) talk w
    goes_on made talk x = goes_on_to n o left made w talk x

    -- after a member's task
    after_part : (talk : Said) (j : Task) → ((part : Said) (u : IdlTerm) → IsTalk steps j part (Gives u) → IsMemberTalk built list m part) → Parts steps Fits (steps j) (member_given n o m left made) talk (Gives w) → Split n o m left made talk w
    after_part talk j is_part p = by p.middle p.part p.rest
      where
        by : (r : TaskEnd) → Comes steps Fits (steps j) p.said (Ends r) → Given (member_given n o m left made r) p.more w → Split n o m left made talk w
        by (Gives u) part rest = record { part = p.said; more = p.more; made = with_value m u made; is_made = inr (u, refl); whole = p.whole; is_part = is_part p.said u part; rest = goes_on (with_value m u made) p.more rest }
        by (Plain v) part rest = absurd (not_given (Plain v) p.more w (λ u h. absurd (cc)) rest)
        by (Picks c ws) part rest = absurd (not_given (Picks c ws) p.more w (λ u h. absurd (cc)) rest)
        by (Throw c) part rest = absurd (not_given (Throw c) p.more w (λ u h. absurd (cc)) rest)
        by (Rethrow v) part rest = absurd (not_given (Rethrow v) p.more w (λ u h. absurd (cc)) rest)
        by (Profile k) part rest = absurd (not_given (Profile k) p.more w (λ u h. absurd (cc)) rest)

    -- a member's task, with what comes after it
    of_task : (talk : Said) (j : Task) → ((part : Said) (u : IdlTerm) → IsTalk steps j part (Gives u) → IsMemberTalk built list m part) → Given (Steps j (member_given n o m left made)) talk w → Split n o m left made talk w
    of_task talk j is_part (zero, x) = absurd x
    of_task talk j is_part (suc f, x) = after_part talk j is_part (splits steps Fits (steps j) (member_given n o m left made) talk (Gives w) (f, x))

    of_needed : (b : Bool) (talk : Said) → Given (if b then fails code.Required else Steps (Members n o left made) End) talk w → Split n o m left made talk w
    of_needed true talk x = absurd (not_given (Throw code.Required) talk w (λ u h. absurd (cc)) x)
    of_needed false talk x = record { part = []; more = talk; made = made; is_made = inl refl; whole = refl; is_part = left_out; rest = goes_on made talk x }

    pub of_undefined : (l : Option Literal) (talk : Said) → Given (undefined_member n o m left made l) talk w → Split n o m left made talk w
    of_undefined (Some l) talk x = of_task talk (Default m.member.ty (Some l)) (λ part u t. defaulted l u t) x
    of_undefined None talk x = of_needed m.member.needed talk x

    of_value : (v : Value) (talk : Said) → Given (member_value n o m left made v) talk w → Split n o m left made talk w
    of_value values.Undefined talk x = of_undefined m.member.value talk x
    of_value values.Null talk x = of_task talk (Convert m.member.ty values.Null) (λ part u t. converted values.Null u t) x
    of_value (values.Bool b) talk x = of_task talk (Convert m.member.ty (values.Bool b)) (λ part u t. converted (values.Bool b) u t) x
    of_value (values.Num i) talk x = of_task talk (Convert m.member.ty (values.Num i)) (λ part u t. converted (values.Num i) u t) x
    of_value (values.Str units) talk x = of_task talk (Convert m.member.ty (values.Str units)) (λ part u t. converted (values.Str units) u t) x
    of_value (values.Sym i) talk x = of_task talk (Convert m.member.ty (values.Sym i)) (λ part u t. converted (values.Sym i) u t) x
    of_value (values.Obj p) talk x = of_task talk (Convert m.member.ty (values.Obj p)) (λ part u t. converted (values.Obj p) u t) x

    pub of_answer : (p : ObjRef) (a : AnswerTerm) (talk : Said) → Fits (GetAsk p (keys.Name m.member.name)) a → Given (normal (member_value n o m left made) a) talk w → Split n o m left made talk w
    of_answer p (NormalAnswer v) talk fits x = of_value v talk x
    of_answer p (ThrownAnswer v) talk fits x = absurd (not_given (Rethrow v) talk w (λ u h. absurd (cc)) x)
    of_answer p BeginAnswer talk fits x = absurd fits
    of_answer p DoneAnswer talk fits x = absurd fits
    of_answer p (SightAnswer sight) talk fits x = absurd fits
    of_answer p (KeysAnswer names) talk fits x = absurd fits
    of_answer p (OwnAnswer flags) talk fits x = absurd fits

  module _ (n : ℕ) (o : ObjRef) (w : IdlTerm) (is_built : built.to_type (DictionaryType n) ≡ true) where
    -- where dictionaries are built, the steps are those of the members
    by_members : (left : List DeclaredMember) (made : List (ℕ × ℕ × IdlTerm)) (talk : Said) → Given (steps (Members n (Some o) left made)) talk w → Given (members n (Some o) left made) talk w
    by_members left made talk x = subst (λ (b : Bool). Given (if b then members n (Some o) left made else not_built) talk w) is_built x

    in_order : (left : List DeclaredMember) (made : List (ℕ × ℕ × IdlTerm)) (talk : Said) → Given (members n (Some o) left made) talk w → ReadsInOrder built list o left talk
    in_order [] made [] x = refl
    in_order [] made (p ∷ talk) (zero, x) = absurd x
    in_order [] made (p ∷ talk) (suc f, x) = absurd x
    in_order (m ∷ left) made talk (zero, x) = absurd x
    in_order (m ∷ left) made [] (suc f, x) = absurd (cc)
    in_order (m ∷ left) made (p ∷ talk) (suc f, x) =
        let s = of_answer n (Some o) m left made w o p.1 talk x.1 (f, x.2) in
        (p.1, s.part, s.more, (λ i. (x.0 i, p.1) ∷ s.whole i), s.is_part, in_order left s.made s.more (by_members left s.made s.more s.rest))

  pub members_read : MembersAreReadInOrder built list
  members_read n o talk w is_built x =
      let first : Given (dictionary_of list n (Some o)) talk w = subst (λ (b : Bool). Given (if b then dictionary_of list n (Some o) else not_built) talk w) is_built x in
      in_order n o w is_built (members_in_order list n) [] talk (by_members n o w is_built (members_in_order list n) [] talk (goes_on_to n (Some o) (members_in_order list n) [] w talk first))

pub members_are_read : (built : Built) (list : DefsTerm) → MembersAreReadInOrder built list
members_are_read = members_read
