-- The order of places, and the lesser of the least of two sets.
use Rattle.std.proofs.Common.{◌≡◌, ◌⊎◌, inl, inr, ℕ, ◌<◌, Bool, true, false, ◌||◌, ◌&&◌, cond, Option, None, Some, arith, refl, sym, ap, subst, ◌∙◌}
use Rattle.widl_text.specs.declared.place.Place.{Place}
use Rattle.widl_idl.specs.declared.violation.Violation.{Violation}
use Rattle.widl_first.specs.First.{Either, Tells}
use Rattle.widl_first.proofs.Firsts as firsts
use Rattle.widl_idl.specs.First.{Before, is_before, OtherBefore, is_other_before, SamePlace, is_same_place, ComesBefore, comes_before, violation_at, earlier, FirstWhere}

pub before_trans : (p q r : Place) → Before p q → Before q r → Before p r
before_trans p q r a b = grind arith

-- what the test tells where it holds
pub before_of : (p q : Place) → is_before p q ≡ true → Before p q
before_of p q e = grind arith

-- what it tells where it does not: what stands before p stands before q too
pub not_before : (p q r : Place) → is_before q p ≡ false → Before r p → Before r q
not_before p q r e a = grind arith

pub irreflexive : (p : Place) → Before p p → ⊥
irreflexive p b = grind arith

-- two places of which neither stands before the other are one
pub neither_before : (p q : Place) → (Before p q → ⊥) → (Before q p → ⊥) → p ≡ q
neither_before p q a b =
    let not_below : p.file < q.file → ⊥ = λ h. a (inl h) in
    let not_above : q.file < p.file → ⊥ = λ h. b (inl h) in
    let one_file : p.file ≡ q.file = omega (arith, not_below, not_above) in
    let not_ahead : p.at < q.at → ⊥ = λ h. a (inr (one_file, h)) in
    let not_after : q.at < p.at → ⊥ = λ h. b (inr (sym one_file, h)) in
    let one_offset : p.at ≡ q.at = omega (arith, not_ahead, not_after) in
    ap (λ file. place file p.at) one_file ∙ ap (λ at. place q.file at) one_offset
  where
    place : ℕ → ℕ → Place
    place file at = record { file = file; at = at }

-- ---- the order of other places

pub other_trans : (p q r : Option Place) → OtherBefore p q → OtherBefore q r → OtherBefore p r
other_trans None None r a b = absurd a
other_trans None (Some q) None a b = absurd b
other_trans None (Some q) (Some r) a b = tt
other_trans (Some p) None r a b = absurd a
other_trans (Some p) (Some q) None a b = absurd b
other_trans (Some p) (Some q) (Some r) a b = before_trans p q r a b

pub other_of : (p q : Option Place) → is_other_before p q ≡ true → OtherBefore p q
other_of None None e = absurd (cc)
other_of None (Some q) e = tt
other_of (Some p) None e = absurd (cc)
other_of (Some p) (Some q) e = before_of p q e

pub not_other : (p q r : Option Place) → is_other_before q p ≡ false → OtherBefore r p → OtherBefore r q
not_other None q None e a = absurd a
not_other None q (Some r) e a = absurd a
not_other (Some p) None r e a = absurd (cc)
not_other (Some p) (Some q) None e a = tt
not_other (Some p) (Some q) (Some r) e a = not_before p q r e a

pub other_irreflexive : (p : Option Place) → OtherBefore p p → ⊥
other_irreflexive None a = a
other_irreflexive (Some p) a = irreflexive p a

pub neither_other : (p q : Option Place) → (OtherBefore p q → ⊥) → (OtherBefore q p → ⊥) → p ≡ q
neither_other None None a b = refl
neither_other None (Some q) a b = absurd (a tt)
neither_other (Some p) None a b = absurd (b tt)
neither_other (Some p) (Some q) a b = ap Some (neither_before p q a b)

same_of : (p q : Place) → is_same_place p q ≡ true → SamePlace p q
same_of p q e = grind arith

-- what stands before a place stands before the same place
pub before_same : (p q r : Place) → SamePlace q r → Before p q → Before p r
before_same p q r e a = grind arith

pub same_before : (p q r : Place) → SamePlace p q → Before q r → Before p r
same_before p q r e a = grind arith

pub same_same : (p q r : Place) → SamePlace p q → SamePlace q r → SamePlace p r
same_same p q r a b = (a.0 ∙ b.0, a.1 ∙ b.1)

-- ---- the order of violations, and any order of the same make: by a place, then by something else

module _ {X : Type 0} (at : X → Place) (After : X → X → Type 0) (is_after : X → X → Bool) where
  abbrev pub First : X → X → Type 0
  First s t = Before (at s) (at t) ⊎ (SamePlace (at s) (at t) × After s t)

  abbrev pub is_first : X → X → Bool
  is_first s t = is_before (at s) (at t) || (is_same_place (at s) (at t) && is_after s t)

  pub first_trans : ((p q r : X) → After p q → After q r → After p r) → (p q r : X) → First p q → First q r → First p r
  first_trans trans p q r (inl a) (inl b) = inl (before_trans (at p) (at q) (at r) a b)
  first_trans trans p q r (inl a) (inr b) = inl (before_same (at p) (at q) (at r) b.0 a)
  first_trans trans p q r (inr a) (inl b) = inl (same_before (at p) (at q) (at r) a.0 b)
  first_trans trans p q r (inr a) (inr b) = inr (same_same (at p) (at q) (at r) a.0 b.0, trans p q r a.1 b.1)

  by_tests : ((p q : X) → is_after p q ≡ true → After p q) → (p q : X) (b c d : Bool) → is_before (at p) (at q) ≡ b → is_same_place (at p) (at q) ≡ c → is_after p q ≡ d → (b || (c && d)) ≡ true → First p q
  by_tests of p q true c d before same after e = inl (before_of (at p) (at q) before)
  by_tests of p q false true true before same after e = inr (same_of (at p) (at q) same, of p q after)
  by_tests of p q false true false before same after e = absurd (cc)
  by_tests of p q false false d before same after e = absurd (cc)

  -- what the test tells where it holds
  pub first_of : ((p q : X) → is_after p q ≡ true → After p q) → (p q : X) → is_first p q ≡ true → First p q
  first_of of p q e = by_tests of p q (is_before (at p) (at q)) (is_same_place (at p) (at q)) (is_after p q) refl refl refl e

  not_tests : ((p q r : X) → is_after q p ≡ false → After r p → After r q) → (p q r : X) (b c d : Bool) → is_before (at q) (at p) ≡ b → is_same_place (at q) (at p) ≡ c → is_after q p ≡ d → (b || (c && d)) ≡ false → First r p → First r q
  not_tests not p q r true c d before same after e a = absurd (cc)
  not_tests not p q r false c d before same after e (inl a) = inl (not_before (at p) (at q) (at r) before a)
  not_tests not p q r false true true before same after e (inr a) = absurd (cc)
  not_tests not p q r false true false before same after e (inr a) = inr (same_same (at r) (at p) (at q) a.0 (turned (at q) (at p) (same_of (at q) (at p) same)), not p q r after a.1)
    where
      turned : (x y : Place) → SamePlace x y → SamePlace y x
      turned x y h = (sym h.0, sym h.1)
  not_tests not p q r false false d before same after e (inr a) = inl (after_place (at p) (at q) (at r) before same a.0)
    where
      after_place : (x y z : Place) → is_before y x ≡ false → is_same_place y x ≡ false → SamePlace z x → Before z y
      after_place x y z b s h = grind arith

  -- what it tells where it does not: what comes before p comes before q too
  pub not_first : ((p q r : X) → is_after q p ≡ false → After r p → After r q) → (p q r : X) → is_first q p ≡ false → First r p → First r q
  not_first not p q r e a = not_tests not p q r (is_before (at q) (at p)) (is_same_place (at q) (at p)) (is_after q p) refl refl refl e a

  pub first_irreflexive : ((p : X) → After p p → ⊥) → (p : X) → First p p → ⊥
  first_irreflexive never p (inl a) = irreflexive (at p) a
  first_irreflexive never p (inr a) = never p a.1

abbrev violation_place : Violation → Place
violation_place s = s.at

abbrev OtherFirst : Violation → Violation → Type 0
OtherFirst s t = OtherBefore s.other t.other

abbrev is_other_first : Violation → Violation → Bool
is_other_first s t = is_other_before s.other t.other

violation_trans : (p q r : Violation) → ComesBefore p q → ComesBefore q r → ComesBefore p r
violation_trans = first_trans violation_place OtherFirst is_other_first (λ p q r. other_trans p.other q.other r.other)

violation_before_of : (p q : Violation) → comes_before p q ≡ true → ComesBefore p q
violation_before_of = first_of violation_place OtherFirst is_other_first (λ p q. other_of p.other q.other)

not_violation_before : (p q r : Violation) → comes_before q p ≡ false → ComesBefore r p → ComesBefore r q
not_violation_before = not_first violation_place OtherFirst is_other_first (λ p q r. not_other p.other q.other r.other)

violation_irreflexive : (s : Violation) → ComesBefore s s → ⊥
violation_irreflexive = first_irreflexive violation_place OtherFirst is_other_first (λ s. other_irreflexive s.other)

-- no violation comes before one that is equal to it
pub not_before_same : (s t : Violation) → s ≡ t → ComesBefore t s → ⊥
not_before_same s t e before = violation_irreflexive s (subst (λ (u : Violation). ComesBefore u s) (sym e) before)

-- violations of which neither comes before the other are one
pub neither_violation : (s t : Violation) → (ComesBefore s t → ⊥) → (ComesBefore t s → ⊥) → s ≡ t
neither_violation s t a b =
    let one_place : s.at ≡ t.at = neither_before s.at t.at (λ h. a (inl h)) (λ h. b (inl h)) in
    let here : SamePlace s.at t.at = (ap (λ p. p.file) one_place, ap (λ p. p.at) one_place) in
    let one_other : s.other ≡ t.other = neither_other s.other t.other (λ h. a (inr (here, h))) (λ h. b (inr ((sym here.0, sym here.1), h))) in
    ap (λ at. violation at s.other) one_place ∙ ap (λ other. violation t.at other) one_other
  where
    violation : Place → Option Place → Violation
    violation at other = record { at = at; other = other }

-- of violations that speak of no other place the one at the earlier place comes first
pub before_alone : (p q : Place) → ComesBefore (violation_at p) (violation_at q) → Before p q
before_alone p q (inl before) = before
before_alone p q (inr h) = absurd h.1

-- the test of violations tells their order
pub violation_order : Tells ComesBefore comes_before
violation_order = record { told = violation_before_of; not_told = not_violation_before; trans = violation_trans }

-- there is one first violation
pub same_first : (P : Violation → Type 0) (a b : Option Violation) → FirstWhere P a → FirstWhere P b → a ≡ b
same_first P = firsts.same_first neither_violation P

-- what holds at the same violations has the same first violations
pub first_same : (P Q : Violation → Type 0) (found : Option Violation) → ((s : Violation) → P s → Q s) → ((s : Violation) → Q s → P s) → FirstWhere P found → FirstWhere Q found
first_same P Q = firsts.first_same ComesBefore P Q

-- the least of a joined set is the lesser of the least of its parts
pub first_either : (P Q R : Violation → Type 0) → Either P Q R → (best found : Option Violation) → FirstWhere P best → FirstWhere Q found → FirstWhere R (earlier best found)
first_either P Q R e = firsts.first_either violation_order P Q R e

-- the least of two kinds of break is the lesser of the least of each
pub first_or : (P Q : Violation → Type 0) (best found : Option Violation) → FirstWhere P best → FirstWhere Q found → FirstWhere (λ s. P s ⊎ Q s) (earlier best found)
first_or P Q best found l m = first_either P Q (λ s. P s ⊎ Q s) (record { left = λ s p. inl p; right = λ s q. inr q; only = λ s r. r }) best found l m

-- a rule about one node: its violation where the test holds
pub one_violation : (Q : Type 0) (violation : Violation) (b : Bool) (found : Option Violation) → (b ≡ true → Q) → (b ≡ false → Q → ⊥) → found ≡ cond b (Some violation) None → FirstWhere (λ s. Q × (violation ≡ s)) found
one_violation Q violation true found if_true if_false e = subst (FirstWhere (λ s. Q × (violation ≡ s))) (sym e) (record { holds = (if_true refl, refl); first = λ t q before. not_before_same violation t q.1 before })
one_violation Q violation false found if_true if_false e = subst (FirstWhere (λ s. Q × (violation ≡ s))) (sym e) (λ t q. if_false refl q.0)

-- the same of a rule that speaks of no other place
pub one_place : (Q : Type 0) (at : Place) (b : Bool) (found : Option Violation) → (b ≡ true → Q) → (b ≡ false → Q → ⊥) → found ≡ cond b (Some (violation_at at)) None → FirstWhere (λ s. Q × (violation_at at ≡ s)) found
one_place Q at b found if_true if_false e = one_violation Q (violation_at at) b found if_true if_false e
