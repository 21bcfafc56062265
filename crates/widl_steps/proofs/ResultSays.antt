-- What is said of an array or an object on its way to script.
use Rattle.std.proofs.Common.{◌≡◌, ℕ, zero, suc, Bool, true, false, if◌then◌else◌, List, [], ◌∷◌, ◌++◌, length, refl, sym, ap, subst, ◌∙◌, append_assoc}
use Rattle.std.specs.Prelude.{nat_abs, nat_le, ◌^◌}
use Rattle.std.proofs.lemmas.List.{append-nil}
use Rattle.widl_dialog.specs.Dialog.{End, Steps}
use Rattle.widl_dialog.specs.Conversation.{Next, Ends, Reads, Comes, Parts}
use Rattle.widl_dialog.proofs.Bind.{bind_end}
use Rattle.widl_dialog.proofs.Nexts.{splits}
use Rattle.widl_idl.specs.DefinitionTerms.{DefsTerm}
use Rattle.widl_idl.specs.Terms.{AnyType}
use Rattle.widl_value.specs.declared.value.Value.{Value}
use Rattle.widl_value.specs.IdlTerms.{IdlTerm, IdlTerms, no_values, more_values, UndefinedValue, NullValue, MissingValue, BooleanValue, IntegerValue, StringValue, EnumerationValue, ObjectValue, AnyValue, SequenceValue, RecordValue, DictionaryValue, PromiseValue}
use Rattle.widl_steps.specs.AskTerms.{AskTerm, AnswerTerm, UnitAsk, BeginAnswer, DoneAnswer, NormalAnswer, ThrownAnswer, SightAnswer, KeysAnswer, OwnAnswer, Fits}
use Rattle.widl_steps.specs.Built.{Built}
use Rattle.widl_steps.specs.Laws.{Said, IsTalk}
use Rattle.widl_steps.specs.ResultLaws.{AreConverted, HaveNoContainer, IsNoContainer, ItemsComeFirst, UnitsAreAllThatIsSaid, item_count, own_asks}
use Rattle.widl_steps.specs.Results.{integer_to_script, item_given, item_task, out_items, out_units}
use Rattle.widl_steps.specs.Rules.{rule}
use Rattle.widl_steps.specs.Tasks.{Container, Task, Out, OutItems, OutUnits, TaskEnd, Gives, Plain, Picks, Throw, Rethrow, Profile, Talk}
use Rattle.widl_steps.specs.Words.{normal, not_built, returns}

module _ (built : Built) (list : DefsTerm) where
  abbrev steps : Task → Talk
  steps = rule built list

  -- the value of the script is given at the end of these
  abbrev Given : Talk → Said → Value → Type 0
  Given d talk v = Comes steps Fits d talk (Ends (Plain v))

  -- after an end nothing is said
  no_more : (f : ℕ) (r : TaskEnd) (talk : Said) (n : Next AskTerm TaskEnd) → Reads steps Fits f (End r) talk n → talk ≡ []
  no_more zero r talk n x = absurd x
  no_more (suc f) r [] n x = refl
  no_more (suc f) r (p ∷ talk) n x = absurd x

  -- another end gives no value of the script
  not_plain : (r : TaskEnd) (talk : Said) (v : Value) → ((u : Value) → r ≡ Plain u → ⊥) → Given (End r) talk v → ⊥
  not_plain r talk v none (zero, x) = x
  not_plain r [] v none (suc f, x) = none v (cc)
  not_plain r (p ∷ talk) v none (suc f, x) = x

  goes_to : (j : Task) (talk : Said) (v : Value) → Given (Steps j End) talk v → Given (steps j) talk v
  goes_to j talk v (zero, x) = absurd x
  goes_to j talk v (suc f, x) = (f, subst (λ (d : Talk). Reads steps Fits f d talk (Ends (Plain v))) (bind_end (steps j)) x)

  -- 1. Units, and the container

  made_at_once : (f : ℕ) (a : AnswerTerm) (talk : Said) (n : Next AskTerm TaskEnd) → Reads steps Fits f (normal returns a) talk n → talk ≡ []
  made_at_once f (NormalAnswer v) talk n x = no_more f _ talk n x
  made_at_once f (ThrownAnswer v) talk n x = no_more f _ talk n x
  made_at_once f BeginAnswer talk n x = no_more f _ talk n x
  made_at_once f DoneAnswer talk n x = no_more f _ talk n x
  made_at_once f (SightAnswer sight) talk n x = no_more f _ talk n x
  made_at_once f (KeysAnswer names) talk n x = no_more f _ talk n x
  made_at_once f (OwnAnswer flags) talk n x = no_more f _ talk n x

  is_done : (a : AnswerTerm) → Fits UnitAsk a → a ≡ DoneAnswer
  is_done DoneAnswer fits = refl
  is_done BeginAnswer fits = absurd fits
  is_done (NormalAnswer v) fits = absurd fits
  is_done (ThrownAnswer v) fits = absurd fits
  is_done (SightAnswer sight) fits = absurd fits
  is_done (KeysAnswer names) fits = absurd fits
  is_done (OwnAnswer flags) fits = absurd fits

  of_units : (n : ℕ) (container : Container) (made : List Value) (talk : Said) (v : Value) → Given (out_units n container made) talk v → (a : AnswerTerm) × (talk ≡ own_asks n container made a)
  of_units zero container made talk v (zero, x) = absurd x
  of_units zero container made [] v (suc f, x) = absurd (cc)
  of_units zero container made (p ∷ talk) v (suc f, x) = (p.1, λ i. (x.0 i, p.1) ∷ made_at_once f p.1 talk (Ends (Plain v)) x.2 i)
  of_units (suc n) container made talk v (zero, x) = absurd x
  of_units (suc n) container made [] v (suc f, x) = absurd (cc)
  of_units (suc n) container made (p ∷ talk) v (suc f, x) =
      let rest = of_units n container made talk v (goes_to (OutUnits n container made) talk v (f, x.2)) in
      (rest.0, λ i. (x.0 i, is_done p.1 x.1 i) ∷ rest.1 i)

  -- 2. Items

  -- an item's conversation is split off
  pub record Split (container : Container) (w : IdlTerm) (left : IdlTerms) (before : List Value) (talk : Said) (v : Value) : Type 0 where
    pub part : Said
    pub more : Said
    pub value : Value
    pub whole : talk ≡ part ++ more
    pub is_part : IsTalk steps (item_task w) part (Plain value)
    pub rest : Given (out_items container left (before ++ value ∷ [])) more v

  of_item : (container : Container) (w : IdlTerm) (left : IdlTerms) (before : List Value) (talk : Said) (v : Value) → Parts steps Fits (steps (item_task w)) (item_given container left before) talk (Plain v) → Split container w left before talk v
  of_item container w left before talk v p = by p.middle p.part p.rest
    where
      by : (r : TaskEnd) → Comes steps Fits (steps (item_task w)) p.said (Ends r) → Given (item_given container left before r) p.more v → Split container w left before talk v
      by (Plain u) part rest = record { part = p.said; more = p.more; value = u; whole = p.whole; is_part = part; rest = goes_to (OutItems container left (before ++ u ∷ [])) p.more v rest }
      by (Gives u) part rest = absurd (not_plain (Gives u) p.more v (λ z h. absurd (cc)) rest)
      by (Picks c ws) part rest = absurd (not_plain (Picks c ws) p.more v (λ z h. absurd (cc)) rest)
      by (Throw c) part rest = absurd (not_plain (Throw c) p.more v (λ z h. absurd (cc)) rest)
      by (Rethrow u) part rest = absurd (not_plain (Rethrow u) p.more v (λ z h. absurd (cc)) rest)
      by (Profile k) part rest = absurd (not_plain (Profile k) p.more v (λ z h. absurd (cc)) rest)

  -- the items that are left, after these values
  pub record After (container : Container) (items : IdlTerms) (before : List Value) (talk : Said) : Type 0 where
    pub made : List Value
    pub asks : Said
    pub answer : AnswerTerm
    pub whole : talk ≡ asks ++ own_asks (length (before ++ made)) container (before ++ made) answer
    pub converted : AreConverted built list items made asks

  in_order : (container : Container) (items : IdlTerms) (before : List Value) (talk : Said) (v : Value) → Given (out_items container items before) talk v → After container items before talk
  in_order container no_values before talk v x =
      let u = of_units (length before) container before talk v (goes_to (OutUnits (length before) container before) talk v x) in
      record { made = []; asks = []; answer = u.0; whole = u.1 ∙ ap (λ (l : List Value). own_asks (length l) container l u.0) (sym (append-nil before)); converted = refl }
  in_order container (more_values w left) before talk v (zero, x) = absurd x
  in_order container (more_values w left) before talk v (suc f, x) =
      let s = of_item container w left before talk v (splits steps Fits (steps (item_task w)) (item_given container left before) talk (Plain v) (f, x)) in
      let more = in_order container left (before ++ s.value ∷ []) s.more v s.rest in
      record {
        made = s.value ∷ more.made;
        asks = s.part ++ more.asks;
        answer = more.answer;
        whole = s.whole ∙ ap (λ (l : Said). s.part ++ l) more.whole
            ∙ sym (append_assoc s.part more.asks (own_asks (length ((before ++ s.value ∷ []) ++ more.made)) container ((before ++ s.value ∷ []) ++ more.made) more.answer))
            ∙ ap (λ (l : List Value). s.part ++ more.asks ++ own_asks (length l) container l more.answer) (append_assoc before (s.value ∷ []) more.made);
        converted = (s.part, more.asks, refl, s.is_part, more.converted);
      }

  pub items_come_first : ItemsComeFirst built list
  items_come_first container items talk v x =
      let all = in_order container items [] talk v x in
      record { made = all.made; asks = all.asks; answer = all.answer; whole = all.whole; converted = all.converted }

  -- 3. Without containers

  nothing_said : (b : Bool) (r other : TaskEnd) (talk : Said) (v : Value) → Given (if b then End r else End other) talk v → talk ≡ []
  nothing_said true r other talk v (f, x) = no_more f r talk (Ends (Plain v)) x
  nothing_said false r other talk v (f, x) = no_more f other talk (Ends (Plain v)) x

  nothing_of_number : (b : Bool) (n : _) (talk : Said) (v : Value) → Given (if b then integer_to_script n else not_built) talk v → talk ≡ []
  nothing_of_number true n talk v x = nothing_said (nat_le (nat_abs n) (2 ^ 64)) _ _ talk v x
  nothing_of_number false n talk v (f, x) = no_more f _ talk (Ends (Plain v)) x

  no_asks : (w : IdlTerm) (talk : Said) (v : Value) → IsNoContainer w → Given (steps (Out AnyType w)) talk v → talk ≡ []
  no_asks UndefinedValue talk v none x = nothing_said (built.to_script UndefinedValue) _ _ talk v x
  no_asks NullValue talk v none x = nothing_said (built.to_script NullValue) _ _ talk v x
  no_asks MissingValue talk v none x = nothing_said (built.to_script MissingValue) _ _ talk v x
  no_asks (BooleanValue b) talk v none x = nothing_said (built.to_script (BooleanValue b)) _ _ talk v x
  no_asks (IntegerValue n) talk v none x = nothing_of_number (built.to_script (IntegerValue n)) n talk v x
  no_asks (StringValue text) talk v none x = nothing_said (built.to_script (StringValue text)) _ _ talk v x
  no_asks (EnumerationValue n place) talk v none x = nothing_said (built.to_script (EnumerationValue n place)) _ _ talk v x
  no_asks (ObjectValue o) talk v none x = nothing_said (built.to_script (ObjectValue o)) _ _ talk v x
  no_asks (AnyValue u) talk v none x = nothing_said (built.to_script (AnyValue u)) _ _ talk v x
  no_asks (SequenceValue _) talk v none x = absurd none
  no_asks (RecordValue _) talk v none x = absurd none
  no_asks (DictionaryValue n _) talk v none x = absurd none
  no_asks (PromiseValue o) talk v none x = nothing_said (built.to_script (PromiseValue o)) _ _ talk v x

  nothing_before : (items : IdlTerms) (made : List Value) (asks : Said) → HaveNoContainer items → AreConverted built list items made asks → (asks ≡ []) × (length made ≡ item_count items)
  nothing_before no_values [] asks none x = (x, refl)
  nothing_before no_values (v ∷ made) asks none x = absurd x
  nothing_before (more_values w left) [] asks none x = absurd x
  nothing_before (more_values w left) (v ∷ made) asks none x =
      let rest = nothing_before left made x.1 none.1 x.4 in
      let empty : x.0 ≡ [] = no_asks w x.0 v none.0 x.3 in
      (x.2 ∙ ap (λ (l : Said). l ++ x.1) empty ∙ rest.0, ap suc rest.1)

  pub units_are_all : UnitsAreAllThatIsSaid built list
  units_are_all container items talk v none x =
      let all = items_come_first container items talk v x in
      let nothing = nothing_before items all.made all.asks none all.converted in
      (all.made, all.answer, all.whole ∙ ap (λ (l : Said). l ++ own_asks (length all.made) container all.made all.answer) nothing.0 ∙ ap (λ (n : ℕ). own_asks n container all.made all.answer) nothing.1)

pub items_first : (built : Built) (list : DefsTerm) → ItemsComeFirst built list
items_first = items_come_first

pub units_alone : (built : Built) (list : DefsTerm) → UnitsAreAllThatIsSaid built list
units_alone = units_are_all
