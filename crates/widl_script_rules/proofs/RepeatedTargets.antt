-- Targets that two blocks are for, line by line.
use Rattle.std.proofs.Common.{◌≡◌, ℕ, ◌+◌, ◌&&◌, ◌⊎◌, ◌∷◌, Bool, true, false, cond, not, List, [], slice_get, Option, Some, None, option_map, refl, sym, ◌∙◌, ap, subst, arith, inl, inr, nat_eq, eqb-true, eq-eqb, true≢false}
use Rattle.std.specs.Prelude.{bytes_eq, IsSome, MatchOption}
use Rattle.std.specs.List.{list_any}
use Rattle.std.proofs.lemmas.Slice.Eq.{bytes_eq-Decides}
use Rattle.widl_first.specs.Keys.{first_of, IsFirst}
use Rattle.widl_first.proofs.KeyFirsts.{first_alone, first_same}
use Rattle.widl_idl.specs.DefinitionTerms.{DefsTerm}
use Rattle.widl_lines.specs.declared.script_place.ScriptPlace.{ScriptPlace}
use Rattle.widl_lines.specs.Words.{Lexeme}
use Rattle.widl_lines.specs.TextBreaks.{Line}
use Rattle.widl_script_tree.specs.declared.steps.Target.{Target}
use Rattle.widl_script_tree.specs.declared.steps.Target.TheVariants as target
use Rattle.widl_script_rules.specs.declared.overloads.Overload.{Overload as Found}
use Rattle.widl_script_rules.specs.declared.operation_target.OperationTarget.{OperationTarget}
use Rattle.widl_script_rules.specs.declared.targets.Opening.{Opening}
use Rattle.widl_script_rules.specs.LeastBreak.{place_key}
use Rattle.widl_script_rules.specs.Lookups.{IsOpened, IsOpening, overload_term}
use Rattle.widl_script_rules.specs.PassedTargets.{IsPassed, IsThere, OpensThere, Passes, RepeatsIn, is_target, key_target}
use Rattle.widl_script_rules.specs.Standings.{Standing, IsAtWord, place_of, standings}
use Rattle.widl_script_rules.specs.Surroundings.{around_at}
use Rattle.widl_script_rules.specs.Targets.{Opens, RepeatsTarget, overload_of}
use Rattle.widl_script_rules.proofs.FirstPlaces.{standing_at}
use Rattle.widl_script_rules.proofs.FormedLines.{one_target}
use Rattle.widl_script_rules.proofs.LineWalks.{Below, below_either, below_more, below_next, none_below, placed_at}

-- 1. Keys

both_true : (a b : Bool) → (a && b) ≡ true → (a ≡ true) × (b ≡ true)
both_true true b e = (refl, e)
both_true false b e = absurd (true≢false (sym e))

and_true : (a b : Bool) → a ≡ true → b ≡ true → (a && b) ≡ true
and_true true b e f = f
and_true false b e f = absurd (true≢false (sym e))

is_key : (key : OperationTarget) → is_target (key_target key) key ≡ true
is_key key =
    and_true (bytes_eq key.owner.now key.owner.now) (bytes_eq key.name.now key.name.now && nat_eq key.overload key.overload) ((bytes_eq-Decides key.owner.now key.owner.now).1 refl)
    (and_true (bytes_eq key.name.now key.name.now) (nat_eq key.overload key.overload) ((bytes_eq-Decides key.name.now key.name.now).1 refl) (eq-eqb key.overload key.overload refl))

of_key : (t : Target) (key : OperationTarget) → is_target t key ≡ true → t ≡ key_target key
of_key (target.Operation owner name false number) key e =
    let one : (bytes_eq owner key.owner.now ≡ true) × ((bytes_eq name key.name.now && nat_eq number key.overload) ≡ true) = both_true (bytes_eq owner key.owner.now) (bytes_eq name key.name.now && nat_eq number key.overload) e in
    let two : (bytes_eq name key.name.now ≡ true) × (nat_eq number key.overload ≡ true) = both_true (bytes_eq name key.name.now) (nat_eq number key.overload) one.1 in
    let owner_is : owner ≡ key.owner.now = (bytes_eq-Decides owner key.owner.now).0 one.0 in
    let name_is : name ≡ key.name.now = (bytes_eq-Decides name key.name.now).0 two.0 in
    let number_is : number ≡ key.overload = eqb-true number key.overload two.1 in
    cc
of_key t key e = absurd (true≢false (sym e))

none_of : (keys : List OperationTarget) → list_any (λ (key : OperationTarget). false) keys ≡ true → ⊥
none_of [] e = true≢false (sym e)
none_of (key ∷ keys) e = none_of keys e

pub not_turned : (a b : Bool) → not a ≡ b → a ≡ not b
not_turned true b e = ap not e
not_turned false b e = ap not e

-- a key is among these
abbrev pub HasKey : List OperationTarget → OperationTarget → Bool
HasKey keys q = list_any (is_target (key_target q)) keys

-- the keys after one was put
module _ (old new : List OperationTarget) (key : OperationTarget) (put : (q : OperationTarget) → HasKey new q ≡ cond (is_target (key_target key) q) true (HasKey old q)) where
  -- at a key
  put_each : (q : OperationTarget) → (HasKey old q ≡ true) ⊎ (key_target q ≡ key_target key) → HasKey new q ≡ true
  put_each q (inl h) = put q ∙ ap (cond (is_target (key_target key) q) true) h ∙ either (is_target (key_target key) q)
    where
      either : (c : Bool) → cond c true true ≡ true
      either true = refl
      either false = refl
  put_each q (inr e) = put q ∙ ap (λ c. cond c true (HasKey old q)) (subst (λ t. is_target t q ≡ true) e (is_key q))

  put_only : (q : OperationTarget) → HasKey new q ≡ true → (HasKey old q ≡ true) ⊎ (key_target q ≡ key_target key)
  put_only q h = by (is_target (key_target key) q) refl
    where
      by : (c : Bool) → is_target (key_target key) q ≡ c → (HasKey old q ≡ true) ⊎ (key_target q ≡ key_target key)
      by true e = inr (sym (of_key (key_target key) q e))
      by false e = inl (ap (λ c. cond c true (HasKey old q)) (sym e) ∙ sym (put q) ∙ h)

  pub more_passed : (t : Target) → (IsPassed old t) ⊎ (t ≡ key_target key) → IsPassed new t
  more_passed (target.Operation owner name false number) h = put_each (record { owner = record { ref_ptr = (0, 0); now = owner }; name = record { ref_ptr = (0, 0); now = name }; overload = number }) h
  more_passed t (inl h) = absurd (none_of old h)
  more_passed t (inr e) = absurd (let bad : t ≡ key_target key = e in cc)

  pub then_passed : (t : Target) → IsPassed new t → (IsPassed old t) ⊎ (t ≡ key_target key)
  then_passed (target.Operation owner name false number) h = put_only (record { owner = record { ref_ptr = (0, 0); now = owner }; name = record { ref_ptr = (0, 0); now = name }; overload = number }) h
  then_passed t h = absurd (none_of new h)

-- 2. The target of a line

module _ (list : DefsTerm) where
  pub closed_there : (line : Line) → IsOpening list line None → IsThere list line None
  closed_there line h = λ t o. h t o.opens

  not_there : (line : Line) (b : Opening) → overload_of list b.target.value ≡ None → IsOpened list line b → IsThere list line None
  not_there line b e h = λ t o.
      let one : b.target.value ≡ t = one_target line b.target.value t h.opens o.opens in
      true≢false (sym (subst IsSome (sym (ap (overload_of list) one) ∙ e) o.there))

  pub missing_there : (line : Line) (b : Opening) → b.overload ≡ None → IsOpened list line b → IsThere list line None
  missing_there line b e h = not_there line b (sym h.overload_is ∙ ap (option_map overload_term) e) h

  pub known_there : (line : Line) (b : Opening) (o : Found) (r : Option OperationTarget) → b.overload ≡ Some o → MatchOption r ((l : DefsTerm) → overload_of l b.target.value ≡ None) (λ key. key_target key ≡ b.target.value) → IsOpened list line b →
      IsThere list line r
  known_there line b o None e m h = not_there line b (m list) h
  known_there line b o (Some key) e m h = record {
    opens = subst (Opens line) (sym m) h.opens;
    there = subst IsSome (ap (option_map overload_term) (sym e) ∙ h.overload_is ∙ ap (overload_of list) (sym m)) refl;
  }

  -- 3. One line

  pub none_passes : (line : Line) (keys : List OperationTarget) → IsThere list line None → Passes list line (IsPassed keys) (IsPassed keys)
  none_passes line keys h = record { each = λ t e. elim e [ inl x ↦ x | inr o ↦ absurd (h t o) ]; only = λ t x. inl x }

  pub one_passes : (line : Line) (old new : List OperationTarget) (key : OperationTarget) → ((q : OperationTarget) → HasKey new q ≡ cond (is_target (key_target key) q) true (HasKey old q)) → IsThere list line (Some key) →
      Passes list line (IsPassed old) (IsPassed new)
  one_passes line old new key put h = record {
    each = λ t e. more_passed old new key put t (elim e [ inl x ↦ inl x | inr o ↦ inr (one_target line t (key_target key) o.opens h.opens) ]);
    only = λ t x. elim (then_passed old new key put t x) [ inl y ↦ inl y | inr e ↦ inr (subst (OpensThere list line) (sym e) h) ];
  }

  module _ (line : Line) (keys : List OperationTarget) where
    abbrev Repeats : ScriptPlace → Type 0
    Repeats place = RepeatsIn list (IsPassed keys) line place

    pub none_repeats : IsThere list line None → IsFirst place_key Repeats None
    none_repeats h p b = h b.target b.there

    pub new_repeats : (key : OperationTarget) → HasKey keys key ≡ false → IsThere list line (Some key) → IsFirst place_key Repeats None
    new_repeats key e h p b =
        let one : b.target ≡ key_target key = one_target line b.target (key_target key) b.there.opens h.opens in
        true≢false (sym (subst (IsPassed keys) one b.before) ∙ e)

    pub old_repeats : (key : OperationTarget) → HasKey keys key ≡ true → IsThere list line (Some key) → IsFirst place_key Repeats (option_map (place_of 10 line) (slice_get line.words 1))
    old_repeats key e h = by (slice_get line.words 1) refl
      where
        by : (o : Option Lexeme) → slice_get line.words 1 ≡ o → IsFirst place_key Repeats (option_map (place_of 10 line) o)
        by None f = λ p b. let bad : None ≡ Some b.at.word = sym f ∙ b.at.is in cc
        by (Some w) f =
            first_alone place_key Repeats (place_of 10 line w) (record { target = key_target key; there = h; before = e; at = record { word = w; is = f; at = refl } })
            (λ q b. let same : w ≡ b.at.word = (let two : Some w ≡ Some b.at.word = sym f ∙ b.at.is in cc) in ap (place_of 10 line) same ∙ sym b.at.at)

  -- 4. All lines

  module _ (lines : List Line) where
    abbrev pub Opened : ℕ → Line → Target → Type 0
    Opened k line t = OpensThere list line t

    -- the line opens a block for a target for which one before it does
    abbrev pub RepeatsAt : ℕ → Line → ScriptPlace → Type 0
    RepeatsAt k line place = RepeatsIn list (Below lines Opened k) line place

    -- the keys are the targets of the lines below this one
    pub record ArePassed (keys : List OperationTarget) (limit : ℕ) : Type 0 where
      pub each : (t : Target) → Below lines Opened limit t → IsPassed keys t
      pub only : (t : Target) → IsPassed keys t → Below lines Opened limit t

    pub none_passed : ArePassed [] 0
    none_passed = record { each = λ t h. absurd (none_below lines Opened t h); only = λ t h. absurd (true≢false (sym h)) }

    pub next_passed : (k : ℕ) (line : Line) (old new : List OperationTarget) → slice_get lines k ≡ Some line → ArePassed old k → Passes list line (IsPassed old) (IsPassed new) → ArePassed new (k + 1)
    next_passed k line old new is h g = record {
      each = λ t b. g.each t (elim (below_either lines Opened k line is t b) [ inl x ↦ inl (h.each t x) | inr o ↦ inr o ]);
      only = λ t x. below_more lines Opened k line is t (elim (g.only t x) [ inl y ↦ inl (h.only t y) | inr o ↦ inr o ]);
    }

    pub next_repeated : (k : ℕ) (line : Line) (keys : List OperationTarget) (p q : Option ScriptPlace) → slice_get lines k ≡ Some line → ArePassed keys k → IsFirst place_key (Below lines RepeatsAt k) p → IsFirst place_key (RepeatsIn list (IsPassed keys) line) q →
        IsFirst place_key (Below lines RepeatsAt (k + 1)) (first_of place_key p q)
    next_repeated k line keys p q is h f g =
        below_next lines RepeatsAt k line p q is f
        (first_same place_key (RepeatsIn list (IsPassed keys) line) (RepeatsAt k line) q
        (λ r b. record { target = b.target; there = b.there; before = h.only b.target b.before; at = b.at })
        (λ r b. record { target = b.target; there = b.there; before = h.each b.target b.before; at = b.at })
        g)

    pub repeats_there : (n : ℕ) (p : ScriptPlace) → Below lines RepeatsAt n p → RepeatsTarget list (standings lines) p
    repeats_there n p h = record {
      first = h.holds.before.place;
      second = h.place;
      before = h.holds.before.low;
      earlier = record { around = around_at lines h.holds.before.place; line = h.holds.before.line };
      earlier_is = standing_at lines h.holds.before.place h.holds.before.line h.holds.before.is;
      later = record { around = around_at lines h.place; line = h.line };
      later_is = standing_at lines h.place h.line h.is;
      target = h.holds.target;
      earlier_opens = h.holds.before.holds.opens;
      later_opens = h.holds.there.opens;
      there = h.holds.there.there;
      at = h.holds.at;
    }

    pub repeats_back : (p : ScriptPlace) → RepeatsTarget list (standings lines) p → (k : ℕ) × (line : Line) × (slice_get lines k ≡ Some line) × RepeatsAt k line p
    repeats_back p h =
        let one = placed_at lines h.first h.earlier h.earlier_is in
        let two = placed_at lines h.second h.later h.later_is in
        let earlier : h.earlier.line ≡ one.0.line = ap (λ (s : Standing). s.line) one.0.standing in
        let later : h.later.line ≡ two.0.line = ap (λ (s : Standing). s.line) two.0.standing in
        let before : Below lines Opened two.0.place h.target = record {
          place = one.0.place;
          low = omega (arith, one.1, two.1, h.before);
          line = one.0.line;
          is = one.0.is;
          holds = record { opens = subst (λ (l : Line). Opens l h.target) earlier h.earlier_opens; there = h.there };
        } in (
          two.0.place,
          two.0.line,
          two.0.is,
          record {
            target = h.target;
            there = record { opens = subst (λ (l : Line). Opens l h.target) later h.later_opens; there = h.there };
            before = before;
            at = subst (λ (l : Line). IsAtWord 10 l 1 p) later h.at;
          },
        )
