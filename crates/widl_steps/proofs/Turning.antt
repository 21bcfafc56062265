-- A sequence of so many elements comes of one turn more.
use Rattle.std.proofs.Common.{◌≡◌, ℕ, zero, suc, ◌≤◌, Bool, true, false, if◌then◌else◌, List, [], ◌∷◌, ◌++◌, length, refl, sym, ap, subst, arith, append_assoc, append-nil, ◌∙◌}
use Rattle.std.proofs.lemmas.List.{length-append}
use Rattle.std.specs.Prelude.{codes}
use Rattle.widl_dialog.specs.Dialog.{End, Say, Steps}
use Rattle.widl_dialog.specs.Conversation.{Ends, Reads, Comes, Parts}
use Rattle.widl_dialog.proofs.Bind.{bind_end}
use Rattle.widl_dialog.proofs.Nexts.{splits}
use Rattle.widl_text.specs.declared.key.Key.TheVariants as keys
use Rattle.widl_idl.specs.DefinitionTerms.{DefsTerm}
use Rattle.widl_idl.specs.Terms.{TypeTerm}
use Rattle.widl_value.specs.declared.object.ObjRef.{ObjRef}
use Rattle.widl_value.specs.declared.value.Value.{Value}
use Rattle.widl_value.specs.declared.value.Value.TheVariants as values
use Rattle.widl_value.specs.IdlTerms.{IdlTerm, SequenceValue, packed_values}
use Rattle.widl_scalar.specs.Primitives.{truth_of}
use Rattle.widl_trace.specs.declared.code.Code.TheVariants as code
use Rattle.widl_steps.specs.AskTerms.{AskTerm, AnswerTerm, GetAsk, CallAsk, BeginAnswer, DoneAnswer, NormalAnswer, ThrownAnswer, SightAnswer, KeysAnswer, OwnAnswer, Fits}
use Rattle.widl_steps.specs.Built.{Built}
use Rattle.widl_steps.specs.ContainerLaws.{AreTurns, SequencesTakeTurns}
use Rattle.widl_steps.specs.Laws.{Said}
use Rattle.widl_steps.specs.Rules.{rule}
use Rattle.widl_steps.specs.Sequences.{element, element_given, told_done, turn_given, turns}
use Rattle.widl_steps.specs.Tasks.{Task, Convert, Turns, TaskEnd, Gives, Plain, Picks, Throw, Rethrow, Profile, Talk}
use Rattle.widl_steps.specs.Words.{gives, normal}
use Rattle.widl_steps.proofs.MemberReads.{not_given}

module _ (built : Built) (list : DefsTerm) (t : TypeTerm) (iterator next : ObjRef) (w : IdlTerm) where
  abbrev steps : Task → Talk
  steps = rule built list

  -- the sequence is given at the end of these
  abbrev Given : Talk → Said → Type 0
  Given d talk = Comes steps Fits d talk (Ends (Gives w))

  abbrev Turned : List IdlTerm → Said → Type 0
  Turned made talk = (elements : List IdlTerm) × (w ≡ SequenceValue (packed_values (made ++ elements))) × AreTurns built list t iterator next elements talk

  -- what a turn asks, and is answered
  abbrev called : AnswerTerm → AskTerm × AnswerTerm
  called a = (CallAsk next (values.Obj iterator) [], a)

  abbrev read_done : ObjRef → AnswerTerm → AskTerm × AnswerTerm
  read_done turn a = (GetAsk turn (keys.Name (codes "done")), a)

  abbrev read_value : ObjRef → AnswerTerm → AskTerm × AnswerTerm
  read_value turn a = (GetAsk turn (keys.Name (codes "value")), a)

  never : (r : TaskEnd) (talk : Said) → ((u : IdlTerm) → r ≡ Gives u → ⊥) → Given (End r) talk → ⊥
  never r talk none x = not_given built list r talk w none x

  goes_on : (made : List IdlTerm) (talk : Said) → Given (Steps (Turns t iterator next made) End) talk → Given (turns t iterator next made) talk
  goes_on made talk (zero, x) = absurd x
  goes_on made talk (suc f, x) = (f, subst (λ (d : Talk). Reads steps Fits f d talk (Ends (Gives w))) (bind_end (turns t iterator next made)) x)

  -- the turns after an element
  abbrev Again : ℕ → Type 0
  Again n = (made : List IdlTerm) (talk : Said) → length talk ≤ n → Given (turns t iterator next made) talk → Turned made talk

  module _ (n : ℕ) (again : Again n) (made : List IdlTerm) where
    after_element : (turn : ObjRef) (d v : Value) (talk : Said) → truth_of d ≡ false → length talk ≤ n → Parts steps Fits (steps (Convert t v)) (element_given t iterator next made) talk (Gives w)
        → Turned made (called (NormalAnswer (values.Obj turn)) ∷ read_done turn (NormalAnswer d) ∷ read_value turn (NormalAnswer v) ∷ talk)
    after_element turn d v talk not_done below p = by p.middle p.part p.rest
      where
        by : (r : TaskEnd) → Comes steps Fits (steps (Convert t v)) p.said (Ends r) → Given (element_given t iterator next made r) p.more
            → Turned made (called (NormalAnswer (values.Obj turn)) ∷ read_done turn (NormalAnswer d) ∷ read_value turn (NormalAnswer v) ∷ talk)
        by (Gives u) part rest =
            let more : Turned (made ++ u ∷ []) p.more = again (made ++ u ∷ []) p.more (omega (arith, below, ap length p.whole, length-append p.said p.more)) (goes_on (made ++ u ∷ []) p.more rest) in (
              u ∷ more.0,
              more.1 ∙ ap (λ (l : List IdlTerm). SequenceValue (packed_values l)) (append_assoc made (u ∷ []) more.0),
              (turn, d, v, p.said, p.more, not_done, (λ i. called (NormalAnswer (values.Obj turn)) ∷ read_done turn (NormalAnswer d) ∷ read_value turn (NormalAnswer v) ∷ p.whole i), part, more.2),
            )
        by (Plain x) part rest = absurd (never (Plain x) p.more (λ u h. absurd (cc)) rest)
        by (Picks c ws) part rest = absurd (never (Picks c ws) p.more (λ u h. absurd (cc)) rest)
        by (Throw c) part rest = absurd (never (Throw c) p.more (λ u h. absurd (cc)) rest)
        by (Rethrow x) part rest = absurd (never (Rethrow x) p.more (λ u h. absurd (cc)) rest)
        by (Profile k) part rest = absurd (never (Profile k) p.more (λ u h. absurd (cc)) rest)

    of_element : (turn : ObjRef) (d v : Value) (talk : Said) → truth_of d ≡ false → length talk ≤ n → Given (element t iterator next made v) talk
        → Turned made (called (NormalAnswer (values.Obj turn)) ∷ read_done turn (NormalAnswer d) ∷ read_value turn (NormalAnswer v) ∷ talk)
    of_element turn d v talk not_done below (zero, x) = absurd x
    of_element turn d v talk not_done below (suc f, x) = after_element turn d v talk not_done below (splits steps Fits (steps (Convert t v)) (element_given t iterator next made) talk (Gives w) (f, x))

    of_value : (turn : ObjRef) (d : Value) (a : AnswerTerm) (talk : Said) → truth_of d ≡ false → length talk ≤ n → Fits (GetAsk turn (keys.Name (codes "value"))) a → Given (normal (element t iterator next made) a) talk
        → Turned made (called (NormalAnswer (values.Obj turn)) ∷ read_done turn (NormalAnswer d) ∷ read_value turn a ∷ talk)
    of_value turn d (NormalAnswer v) talk not_done below fits x = of_element turn d v talk not_done below x
    of_value turn d (ThrownAnswer v) talk not_done below fits x = absurd (never (Rethrow v) talk (λ u h. absurd (cc)) x)
    of_value turn d BeginAnswer talk not_done below fits x = absurd fits
    of_value turn d DoneAnswer talk not_done below fits x = absurd fits
    of_value turn d (SightAnswer sight) talk not_done below fits x = absurd fits
    of_value turn d (KeysAnswer names) talk not_done below fits x = absurd fits
    of_value turn d (OwnAnswer flags) talk not_done below fits x = absurd fits

    -- the sequence, or one more element
    of_done : (turn : ObjRef) (d : Value) (b : Bool) (talk : Said) → truth_of d ≡ b → length talk ≤ n
        → Given (if b then gives (SequenceValue (packed_values made)) else Say (GetAsk turn (keys.Name (codes "value"))) (normal (element t iterator next made))) talk
        → Turned made (called (NormalAnswer (values.Obj turn)) ∷ read_done turn (NormalAnswer d) ∷ talk)
    of_done turn d true talk is_done below (zero, x) = absurd x
    of_done turn d true [] is_done below (suc f, x) =
        let same : w ≡ SequenceValue (packed_values made) = cc in
        ([], same ∙ ap (λ (l : List IdlTerm). SequenceValue (packed_values l)) (sym (append-nil made)), (turn, d, is_done, refl))
    of_done turn d true (p ∷ talk) is_done below (suc f, x) = absurd x
    of_done turn d false talk not_done below (zero, x) = absurd x
    of_done turn d false [] not_done below (suc f, x) = absurd (cc)
    of_done turn d false (p ∷ talk) not_done below (suc f, x) =
        subst (λ (l : Said). Turned made (called (NormalAnswer (values.Obj turn)) ∷ read_done turn (NormalAnswer d) ∷ l)) (λ i. (sym x.0 i, p.1) ∷ talk)
        (of_value turn d p.1 talk not_done (omega (arith, below)) x.1 (f, x.2))

    of_done_answer : (turn : ObjRef) (a : AnswerTerm) (talk : Said) → length talk ≤ n → Fits (GetAsk turn (keys.Name (codes "done"))) a → Given (normal (told_done t iterator next made turn) a) talk
        → Turned made (called (NormalAnswer (values.Obj turn)) ∷ read_done turn a ∷ talk)
    of_done_answer turn (NormalAnswer d) talk below fits x = of_done turn d (truth_of d) talk refl below x
    of_done_answer turn (ThrownAnswer v) talk below fits x = absurd (never (Rethrow v) talk (λ u h. absurd (cc)) x)
    of_done_answer turn BeginAnswer talk below fits x = absurd fits
    of_done_answer turn DoneAnswer talk below fits x = absurd fits
    of_done_answer turn (SightAnswer sight) talk below fits x = absurd fits
    of_done_answer turn (KeysAnswer names) talk below fits x = absurd fits
    of_done_answer turn (OwnAnswer flags) talk below fits x = absurd fits

    of_turn : (turn : ObjRef) (talk : Said) → length talk ≤ n → Given (Say (GetAsk turn (keys.Name (codes "done"))) (normal (told_done t iterator next made turn))) talk → Turned made (called (NormalAnswer (values.Obj turn)) ∷ talk)
    of_turn turn talk below (zero, x) = absurd x
    of_turn turn [] below (suc f, x) = absurd (cc)
    of_turn turn (p ∷ talk) below (suc f, x) =
        subst (λ (l : Said). Turned made (called (NormalAnswer (values.Obj turn)) ∷ l)) (λ i. (sym x.0 i, p.1) ∷ talk) (of_done_answer turn p.1 talk (omega (arith, below)) x.1 (f, x.2))

    of_given : (v : Value) (talk : Said) → length talk ≤ n → Given (turn_given t iterator next made v) talk → Turned made (called (NormalAnswer v) ∷ talk)
    of_given (values.Obj turn) talk below x = of_turn turn talk below x
    of_given values.Undefined talk below x = absurd (never (Throw code.Result) talk (λ u h. absurd (cc)) x)
    of_given values.Null talk below x = absurd (never (Throw code.Result) talk (λ u h. absurd (cc)) x)
    of_given (values.Bool b) talk below x = absurd (never (Throw code.Result) talk (λ u h. absurd (cc)) x)
    of_given (values.Num i) talk below x = absurd (never (Throw code.Result) talk (λ u h. absurd (cc)) x)
    of_given (values.Str units) talk below x = absurd (never (Throw code.Result) talk (λ u h. absurd (cc)) x)
    of_given (values.Sym i) talk below x = absurd (never (Throw code.Result) talk (λ u h. absurd (cc)) x)

    of_answer : (a : AnswerTerm) (talk : Said) → length talk ≤ n → Fits (CallAsk next (values.Obj iterator) []) a → Given (normal (turn_given t iterator next made) a) talk → Turned made (called a ∷ talk)
    of_answer (NormalAnswer v) talk below fits x = of_given v talk below x
    of_answer (ThrownAnswer v) talk below fits x = absurd (never (Rethrow v) talk (λ u h. absurd (cc)) x)
    of_answer BeginAnswer talk below fits x = absurd fits
    of_answer DoneAnswer talk below fits x = absurd fits
    of_answer (SightAnswer sight) talk below fits x = absurd fits
    of_answer (KeysAnswer names) talk below fits x = absurd fits
    of_answer (OwnAnswer flags) talk below fits x = absurd fits

  turned : (n : ℕ) → Again n
  turned n made talk below (zero, x) = absurd x
  turned n made [] below (suc f, x) = absurd (cc)
  turned zero made (p ∷ talk) below (suc f, x) = absurd (omega (arith, below))
  turned (suc n) made (p ∷ talk) below (suc f, x) = subst (λ (l : Said). Turned made l) (λ i. (sym x.0 i, p.1) ∷ talk) (of_answer n (turned n) made p.1 talk (omega (arith, below)) x.1 (f, x.2))

pub sequences_take_turns : (built : Built) (list : DefsTerm) → SequencesTakeTurns built list
sequences_take_turns built list t iterator next made talk w x = turned built list t iterator next w (length talk) made talk (omega arith) x
