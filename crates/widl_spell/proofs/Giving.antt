-- How ids are given, one id on.
use Rattle.std.proofs.Common.{◌≡◌, ℕ, ◌+◌, ◌<◌, ◌++◌, ◌&&◌, ◌||◌, ◌⊎◌, inl, inr, Bool, true, false, not, suc, List, [], ◌∷◌, length, get_or, nat_eq, nat_lt, arith, refl, sym, ap, subst, ◌∙◌}
use Rattle.std.specs.Prelude.{Option, None, Some, option_and_then}
use Rattle.std.proofs.lemmas.Bool.{and_parts, cases_Bool, cases_eq, cases_lt, eq-eqb, eqb-true, false_from_ne_true, lt-ltb, ltb-true, ne_eqb, not-true}
use Rattle.std.proofs.lemmas.List.Folds.{list_any-append}
use Rattle.std.proofs.lemmas.Option.{slice_get_past}
use Rattle.widl_spell.specs.Ids.{first_ids, followed_by, has_id, has_id_or_is_none, may_be_next, next_of, parent_at}
use Rattle.widl_spell.specs.Ready.{Adds, AreHeirs, AreReady, IsNone, Steps, TakesLeast, is_parent}
use Rattle.widl_spell.proofs.FirstFrom.{first_from_at, first_from_none}

-- the parent of each interface that has an id has an id too
abbrev pub AreClosed : List (Option ℕ) → List ℕ → Type 0
AreClosed parents ids = (q p : ℕ) → has_id ids q ≡ true → parent_at parents q ≡ Some p → has_id ids p ≡ true

-- so many ids are given
pub record AreGiven (parents : List (Option ℕ)) (count : ℕ) (ids : List ℕ) (ready : ℕ → Bool) : Type 0 where
  pub order : ids ≡ first_ids parents count
  pub next : AreReady parents ids ready
  pub closed : AreClosed parents ids

-- what holds of a number that is ready
record MayBe (parents : List (Option ℕ)) (ids : List ℕ) (n : ℕ) : Type 0 where
  below : n < length parents
  new : has_id ids n ≡ false
  after : has_id_or_is_none ids (parent_at parents n) ≡ true
  test : may_be_next parents ids n ≡ true

may_be : (parents : List (Option ℕ)) (ids : List ℕ) (ready : ℕ → Bool) (n : ℕ) → AreReady parents ids ready → ready n ≡ true → MayBe parents ids n
may_be parents ids ready n are held =
    let both = and_parts (nat_lt n (length parents)) (may_be_next parents ids n) (sym (are.exactly n) ∙ held) in
    let parts = and_parts (not (has_id ids n)) (has_id_or_is_none ids (parent_at parents n)) both.1 in
    record { below = ltb-true n (length parents) both.0; new = not-true (has_id ids n) parts.0; after = parts.1; test = both.1 }

-- where an interface in the list isn't ready it may not be the next
may_not_be : (parents : List (Option ℕ)) (ids : List ℕ) (ready : ℕ → Bool) (q : ℕ) → AreReady parents ids ready → q < length parents → ready q ≡ false → may_be_next parents ids q ≡ false
may_not_be parents ids ready q are below no_more = ap (λ b. b && may_be_next parents ids q) (sym (lt-ltb q (length parents) below)) ∙ sym (are.exactly q) ∙ no_more

next_is : (parents : List (Option ℕ)) (ids : List ℕ) (old between : ℕ → Bool) (n : ℕ) → AreReady parents ids old → TakesLeast old between n → next_of parents ids ≡ Some n
next_is parents ids old between n are taken =
    let may = may_be parents ids old n are taken.held in
    let below = may.below in
    first_from_at (may_be_next parents ids) 0 (length parents) n (omega arith) (omega (arith, below)) may.test (λ q from low. may_not_be parents ids old q are (omega (arith, low, below)) (taken.least q low))

next_is_none : (parents : List (Option ℕ)) (ids : List ℕ) (old new : ℕ → Bool) → AreReady parents ids old → IsNone old new → next_of parents ids ≡ None
next_is_none parents ids old new are none = first_from_none (may_be_next parents ids) 0 (length parents) (λ q from below. may_not_be parents ids old q are (omega (arith, below)) (none.none q))

or_false : (b : Bool) → (b || false) ≡ b
or_false true = refl
or_false false = refl

-- who has an id, once one more is given
has_more : (ids : List ℕ) (n q : ℕ) → has_id (ids ++ n ∷ []) q ≡ (has_id ids q || nat_eq q n)
has_more ids n q = list_any-append (nat_eq q) ids (n ∷ []) ∙ ap (λ b. has_id ids q || b) (or_false (nat_eq q n))

-- an interface without a parent, by tests
without : (l h e : Bool) → (false || ((l && (not h && true)) && not e)) ≡ (l && (not (h || e) && true))
without true true e = refl
without true false true = refl
without true false false = refl
without false h e = refl

-- an interface whose parent has no new id, by tests
as_before : (l h e p : Bool) → (false || ((l && (not h && p)) && not e)) ≡ (l && (not (h || e) && (p || false)))
as_before true true e p = refl
as_before true false true true = refl
as_before true false true false = refl
as_before true false false true = refl
as_before true false false false = refl
as_before false h e p = refl

-- an interface whose parent has the new id, by tests
now_ready : (l h e p : Bool) (old : Bool) → l ≡ true → h ≡ false → e ≡ false → (true || old) ≡ (l && (not (h || e) && (p || true)))
now_ready l h e p old l_is h_is e_is =
    sym (ap (λ x. x && (not (h || e) && (p || true))) l_is ∙ ap (λ x. true && (not (x || e) && (p || true))) h_is ∙ ap (λ x. true && (not (false || x) && (p || true))) e_is ∙ any_or_true p)
  where
    any_or_true : (b : Bool) → (b || true) ≡ true
    any_or_true true = refl
    any_or_true false = refl

parent_below : (parents : List (Option ℕ)) (q p : ℕ) → parent_at parents q ≡ Some p → q < length parents
parent_below parents q p is =
    elim (cases_lt q (length parents)) [
      | inl below ↦ below
      | inr past ↦ absurd (let none : parent_at parents q ≡ None = ap (option_and_then (λ parent. parent)) (slice_get_past parents q past) in let both : None ≡ Some p = sym none ∙ is in (cc))
    ]

module _ (parents : List (Option ℕ)) (ids : List ℕ) (old : ℕ → Bool) (n : ℕ) (are : AreReady parents ids old) (closed : AreClosed parents ids) (held : old n ≡ true) where
  -- an heir of the number with the new id has none, and isn't that number
  heir_is_new : (q : ℕ) → parent_at parents q ≡ Some n → (has_id ids q ≡ false) × (nat_eq q n ≡ false)
  heir_is_new q is =
      let may = may_be parents ids old n are held in
      let first : has_id ids q ≡ false = false_from_ne_true (has_id ids q) (λ h. let both : true ≡ false = sym (closed q n h is) ∙ may.new in (cc)) in
      let second : nat_eq q n ≡ false = ne_eqb q n (λ e. let its : parent_at parents n ≡ Some n = ap (parent_at parents) (sym e) ∙ is in let both : true ≡ false = sym (sym (ap (has_id_or_is_none ids) its) ∙ may.after) ∙ may.new in (cc)) in
      (first, second)

  -- who is ready after the new id, by the parent
  ready_by : (q : ℕ) (parent : Option ℕ) → parent_at parents q ≡ parent
      → (is_parent n parent || ((nat_lt q (length parents) && (not (has_id ids q) && has_id_or_is_none ids parent)) && not (nat_eq q n))) ≡ (nat_lt q (length parents) && (not (has_id ids q || nat_eq q n) && has_id_or_is_none (ids ++ n ∷ []) parent))
  ready_by q None is = without (nat_lt q (length parents)) (has_id ids q) (nat_eq q n)
  ready_by q (Some p) is =
      elim (cases_eq p n) [
        | inl same ↦
            let its : parent_at parents q ≡ Some n = is ∙ ap (λ m. Some m) same in
            let heir = heir_is_new q its in
            ap (λ b. b || ((nat_lt q (length parents) && (not (has_id ids q) && has_id ids p)) && not (nat_eq q n))) (eq-eqb p n same)
            ∙ now_ready (nat_lt q (length parents)) (has_id ids q) (nat_eq q n) (has_id ids p) ((nat_lt q (length parents) && (not (has_id ids q) && has_id ids p)) && not (nat_eq q n)) (lt-ltb q (length parents) (parent_below parents q p is)) heir.0 heir.1
            ∙ ap (λ b. nat_lt q (length parents) && (not (has_id ids q || nat_eq q n) && (has_id ids p || b))) (sym (eq-eqb p n same))
            ∙ ap (λ b. nat_lt q (length parents) && (not (has_id ids q || nat_eq q n) && b)) (sym (has_more ids n p))
        | inr other ↦
            ap (λ b. b || ((nat_lt q (length parents) && (not (has_id ids q) && has_id ids p)) && not (nat_eq q n))) (ne_eqb p n other)
            ∙ as_before (nat_lt q (length parents)) (has_id ids q) (nat_eq q n) (has_id ids p)
            ∙ ap (λ b. nat_lt q (length parents) && (not (has_id ids q || nat_eq q n) && (has_id ids p || b))) (sym (ne_eqb p n other))
            ∙ ap (λ b. nat_lt q (length parents) && (not (has_id ids q || nat_eq q n) && b)) (sym (has_more ids n p))
      ]

  ready_after : (heirs : List (List ℕ)) (between new : ℕ → Bool) → AreHeirs parents heirs (length parents) → TakesLeast old between n → Adds (get_or heirs n []) between new → AreReady parents (ids ++ n ∷ []) new
  ready_after heirs between new are_heirs taken added = record {
    exactly = λ q. added q
        ∙ ap (λ b. b || between q) (are_heirs.each n q (may_be parents ids old n are held).below)
        ∙ ap (λ b. is_parent n (parent_at parents q) || b) (taken.others q ∙ ap (λ b. b && not (nat_eq q n)) (are.exactly q))
        ∙ ready_by q (parent_at parents q) refl
        ∙ ap (λ b. nat_lt q (length parents) && (not b && has_id_or_is_none (ids ++ n ∷ []) (parent_at parents q))) (sym (has_more ids n q));
  }

  closed_after : AreClosed parents (ids ++ n ∷ [])
  closed_after q p has is = has_more ids n p ∙ by (cases_Bool (has_id ids q))
    where
      or_true : (b c : Bool) → b ≡ true → (b || c) ≡ true
      or_true b c e = ap (λ x. x || c) e

      by : (has_id ids q ≡ true) ⊎ (has_id ids q ≡ false) → (has_id ids p || nat_eq p n) ≡ true
      by (inl before) = or_true (has_id ids p) (nat_eq p n) (closed q p before is)
      by (inr fresh) =
          let same : q ≡ n = eqb-true q n (ap (λ b. b || nat_eq q n) (sym fresh) ∙ sym (has_more ids n q) ∙ has) in
          let after : has_id ids p ≡ true = sym (ap (has_id_or_is_none ids) (ap (parent_at parents) (sym same) ∙ is)) ∙ (may_be parents ids old n are held).after in
          or_true (has_id ids p) (nat_eq p n) after

-- an id more, or none where no number is ready
pub one_more_id : (parents : List (Option ℕ)) (heirs : List (List ℕ)) (count : ℕ) (ids new_ids : List ℕ) (old new : ℕ → Bool) → AreHeirs parents heirs (length parents) → Steps heirs ids new_ids old new → AreGiven parents count ids old → AreGiven parents (count + 1) new_ids new
one_more_id parents heirs count ids new_ids old new are_heirs (inl gives) given =
    let n : suc count ≡ count + 1 = omega arith in
    record {
      order = gives.same ∙ sym (ap (followed_by ids) (next_is_none parents ids old new given.next gives.none)) ∙ ap (λ xs. followed_by xs (next_of parents xs)) given.order ∙ ap (first_ids parents) n;
      next = subst (λ xs. AreReady parents xs new) (sym gives.same) (record { exactly = λ q. gives.none.still q ∙ sym (gives.none.none q) ∙ given.next.exactly q });
      closed = subst (AreClosed parents) (sym gives.same) given.closed;
    }
one_more_id parents heirs count ids new_ids old new are_heirs (inr gives) given =
    let n : suc count ≡ count + 1 = omega arith in
    record {
      order = gives.given ∙ sym (ap (followed_by ids) (next_is parents ids old gives.between gives.number given.next gives.taken)) ∙ ap (λ xs. followed_by xs (next_of parents xs)) given.order ∙ ap (first_ids parents) n;
      next = subst (λ xs. AreReady parents xs new) (sym gives.given) (ready_after parents ids old gives.number given.next given.closed gives.taken.held heirs gives.between new are_heirs gives.taken gives.heirs_added);
      closed = subst (AreClosed parents) (sym gives.given) (closed_after parents ids old gives.number given.next given.closed gives.taken.held);
    }

-- no id is given yet
pub none_given : (parents : List (Option ℕ)) (ready : ℕ → Bool) → AreReady parents [] ready → AreGiven parents 0 [] ready
none_given parents ready are = record { order = refl; next = are; closed = λ q p has is. absurd (let both : false ≡ true = has in (cc)) }
