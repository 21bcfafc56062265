-- The least over a list, an item at a time; and of joined rules, a rule at a time.
use Rattle.std.proofs.Common.{◌≡◌, ◌⊎◌, inl, inr, ℕ, ◌+◌, ◌<◌, Bool, true, false, List, [], ◌∷◌, length, take, get_or, slice_get, slice_index_or, zero, suc, Option, None, Some, option_map, arith, refl, sym, ap, subst, ◌∙◌, nat_lt, nat_eq, ◌&&◌, ◌||◌}
use Rattle.std.proofs.lemmas.Option.{slice_get_read}
use Rattle.widl_idl.specs.declared.refusal.Refusal.{Refusal}
use Rattle.widl_idl.specs.declared.violation.Violation.{Violation}
use Rattle.widl_text.specs.declared.place.Place.{Place}
use Rattle.widl_first.specs.First as first
use Rattle.widl_first.specs.First.{Either, Tells}
use Rattle.widl_first.proofs.Firsts.{first_either, first_of_one, same_first}
use Rattle.widl_idl.specs.First.{ComesBefore, SamePlace, is_other_before, earlier, FirstWhere, Upto, AtOne}
use Rattle.widl_idl.specs.FirstRefusal.{Earlier, LowerBefore, is_earlier, is_lower, refusal_at, violation_of, join, Broken, FirstBroken}
use Rattle.widl_idl.proofs.Order as violations
use Rattle.widl_idl.proofs.Order.{first_of, first_trans, neither_before, neither_other, not_first, not_other, other_of, other_trans}

module _ {X : Type 0} (P : List X → X → Violation → Type 0) (xs : List X) where
  pub first_start : FirstWhere (Upto P xs 0) None
  first_start = λ q u. absurd (let h = u.below in omega arith)

  some_is : {x y : X} → Some x ≡ Some y → x ≡ y
  some_is e = (cc)

  by_index : (n : ℕ) (x : X) (s : Violation) → slice_get xs n ≡ Some x → (u : Upto P xs (n + 1) s) → (b : Bool) → nat_lt u.index n ≡ b → Upto P xs n s ⊎ P (take n xs) x s
  by_index n x s is u true h = inl (record { index = u.index; below = grind arith; item = u.item; is = u.is; breaks = u.breaks })
  by_index n x s is u false h = let h2 = u.below in let e : u.index ≡ n = grind arith in inr (subst (λ k. P (take k xs) x s) e (subst (λ y. P (take u.index xs) y s) (some_is (sym u.is ∙ ap (slice_get xs) e ∙ is)) u.breaks))

  either_item : (n : ℕ) (x : X) → slice_get xs n ≡ Some x → Either (Upto P xs n) (P (take n xs) x) (Upto P xs (n + 1))
  either_item n x is = record { left = λ s u. record { index = u.index; below = (let h = u.below in omega arith); item = u.item; is = u.is; breaks = u.breaks }; right = λ s b. record { index = n; below = omega arith; item = x; is = is; breaks = b }; only = λ s u. by_index n x s is u (nat_lt u.index n) refl }

  -- one item more
  pub first_item : (n : ℕ) (x : X) (best found : Option Violation) → slice_get xs n ≡ Some x → FirstWhere (Upto P xs n) best → FirstWhere (P (take n xs) x) found → FirstWhere (Upto P xs (n + 1)) (earlier best found)
  first_item n x best found is l m = violations.first_either (Upto P xs n) (P (take n xs) x) (Upto P xs (n + 1)) (either_item n x is) best found l m

  -- the same, as a loop over the items has it
  pub first_next : (n : ℕ) (x : X) (best found now : Option Violation) → n < length xs → x ≡ get_or xs n x → FirstWhere (Upto P xs n) best → FirstWhere (P (take n xs) x) found → now ≡ earlier best found → FirstWhere (Upto P xs (n + 1)) now
  first_next n x best found now l is m h e = subst (FirstWhere (Upto P xs (n + 1))) (sym e) (first_item n x best found (slice_get_read xs (length xs) n x refl l is) m h)

  -- after the last item
  pub first_all : (n : ℕ) (best : Option Violation) → n ≡ length xs → FirstWhere (Upto P xs n) best → FirstWhere (AtOne P xs) best
  first_all n best e m = subst (λ k. FirstWhere (Upto P xs k) best) e m

abbrev refusal_place : Refusal → Place
refusal_place r = r.at

lower_trans : (p q r : Refusal) → LowerBefore p q → LowerBefore q r → LowerBefore p r
lower_trans p q r (inl a) (inl b) = inl (omega (arith, a, b))
lower_trans p q r (inl a) (inr b) = let same = b.0 in inl (omega (arith, a, same))
lower_trans p q r (inr a) (inl b) = let same = a.0 in inl (omega (arith, same, b))
lower_trans p q r (inr a) (inr b) = inr (a.0 ∙ b.0, other_trans p.other q.other r.other a.1 b.1)

lower_tests : (p q : Refusal) (a b c : Bool) → nat_lt p.rule q.rule ≡ a → nat_eq p.rule q.rule ≡ b → is_other_before p.other q.other ≡ c → (a || (b && c)) ≡ true → LowerBefore p q
lower_tests p q true b c less same other e = inl (grind arith)
lower_tests p q false true true less same other e = inr (grind arith, other_of p.other q.other other)
lower_tests p q false true false less same other e = absurd (cc)
lower_tests p q false false c less same other e = absurd (cc)

lower_of : (p q : Refusal) → is_lower p q ≡ true → LowerBefore p q
lower_of p q e = lower_tests p q (nat_lt p.rule q.rule) (nat_eq p.rule q.rule) (is_other_before p.other q.other) refl refl refl e

not_lower_tests : (p q r : Refusal) (a b c : Bool) → nat_lt q.rule p.rule ≡ a → nat_eq q.rule p.rule ≡ b → is_other_before q.other p.other ≡ c → (a || (b && c)) ≡ false → LowerBefore r p → LowerBefore r q
not_lower_tests p q r true b c less same other e l = absurd (cc)
not_lower_tests p q r false b c less same other e (inl l) = inl (grind arith)
not_lower_tests p q r false true true less same other e (inr l) = absurd (cc)
not_lower_tests p q r false true false less same other e (inr l) = let one = l.0 in inr (grind arith, not_other p.other q.other r.other other l.1)
not_lower_tests p q r false false c less same other e (inr l) = let one = l.0 in inl (grind arith)

not_lower : (p q r : Refusal) → is_lower q p ≡ false → LowerBefore r p → LowerBefore r q
not_lower p q r e l = not_lower_tests p q r (nat_lt q.rule p.rule) (nat_eq q.rule p.rule) (is_other_before q.other p.other) refl refl refl e l

earlier_trans : (p q r : Refusal) → Earlier p q → Earlier q r → Earlier p r
earlier_trans = first_trans refusal_place LowerBefore is_lower lower_trans

-- what the test tells where it holds
earlier_of : (p q : Refusal) → is_earlier p q ≡ true → Earlier p q
earlier_of = first_of refusal_place LowerBefore is_lower lower_of

-- what it tells where it does not: what is earlier than p is earlier than q too
not_earlier : (p q r : Refusal) → is_earlier q p ≡ false → Earlier r p → Earlier r q
not_earlier = not_first refusal_place LowerBefore is_lower not_lower

-- refusals of which neither is earlier are one
neither_earlier : (r s : Refusal) → (Earlier r s → ⊥) → (Earlier s r → ⊥) → r ≡ s
neither_earlier r s a b =
    let one_place : r.at ≡ s.at = neither_before r.at s.at (λ h. a (inl h)) (λ h. b (inl h)) in
    let here : SamePlace r.at s.at = (ap (λ p. p.file) one_place, ap (λ p. p.at) one_place) in
    let there : SamePlace s.at r.at = (sym here.0, sym here.1) in
    let not_below : r.rule < s.rule → ⊥ = λ h. a (inr (here, inl h)) in
    let not_above : s.rule < r.rule → ⊥ = λ h. b (inr (there, inl h)) in
    let one_rule : r.rule ≡ s.rule = omega (arith, not_below, not_above) in
    let one_other : r.other ≡ s.other = neither_other r.other s.other (λ h. a (inr (here, inr (one_rule, h)))) (λ h. b (inr (there, inr (sym one_rule, h)))) in
    ap (λ rule. refusal rule r.at r.other) one_rule ∙ ap (λ at. refusal s.rule at r.other) one_place ∙ ap (λ other. refusal s.rule s.at other) one_other
  where
    refusal : ℕ → Place → Option Place → Refusal
    refusal rule at other = record { rule = rule; at = at; other = other }

-- the test of refusals tells their order
pub refusal_order : Tells Earlier is_earlier
refusal_order = record { told = earlier_of; not_told = not_earlier; trans = earlier_trans }

module _ {R : Type 0} (number : R → ℕ) (Breaks : R → Violation → Type 0) where
  pub no_rules : FirstBroken number Breaks [] None
  no_rules = λ s b. absurd (omega (arith, b.listed.1))

  -- there is one first refusal
  pub same_refusal : (rules : List R) (a b : Option Refusal) → FirstBroken number Breaks rules a → FirstBroken number Breaks rules b → a ≡ b
  same_refusal rules = same_first neither_earlier (Broken number Breaks rules)

module _ {R : Type 0} (number : R → ℕ) (Breaks : R → Violation → Type 0) (rule : R) (rules : List R) where
  -- the rule is broken as the refusal says
  abbrev HeadBroken : Refusal → Type 0
  HeadBroken r = (number rule ≡ r.rule) × Breaks rule (violation_of r)

  broken_parts : (r : Refusal) → Broken number Breaks (rule ∷ rules) r → Broken number Breaks rules r ⊎ HeadBroken r
  broken_parts r b = by_place b.listed.0 b.listed.1 b.listed.2
    where
      by_place : (k : ℕ) → k < length (rule ∷ rules) → slice_index_or (rule ∷ rules) k b.which ≡ b.which → Broken number Breaks rules r ⊎ HeadBroken r
      by_place zero l e = inr (ap number e ∙ b.numbered, subst (λ n. Breaks n (violation_of r)) (sym e) b.breaks)
      by_place (suc k) l e = inl (record { which = b.which; listed = (k, omega arith, e); numbered = b.numbered; breaks = b.breaks })

  one_more : Either (Broken number Breaks rules) HeadBroken (Broken number Breaks (rule ∷ rules))
  one_more = record {
    left = λ r b. record { which = b.which; listed = (suc b.listed.0, omega (arith, b.listed.1), b.listed.2); numbered = b.numbered; breaks = b.breaks };
    right = λ r h. record { which = rule; listed = (0, omega arith, refl); numbered = h.0; breaks = h.1 };
    only = broken_parts;
  }

  not_same_rule : (s : Violation) (r : Refusal) → number rule ≡ r.rule → Earlier r (refusal_at (number rule) s) → ComesBefore (violation_of r) s
  not_same_rule s r e (inl before) = inl before
  not_same_rule s r e (inr h) = elim h.1 [ inl below ↦ absurd (omega (arith, e, below)) | inr o ↦ inr (h.0, o.1) ]

  -- the first violation of the rule is its first refusal
  first_head : (found : Option Violation) → FirstWhere (Breaks rule) found → first.FirstWhere Earlier HeadBroken (option_map (refusal_at (number rule)) found)
  first_head None l = λ r h. l (violation_of r) h.1
  first_head (Some s) l = record { holds = (refl, l.holds); first = λ r h before. l.first (violation_of r) h.1 (not_same_rule s r h.0 before) }

  -- one rule more: the least of a joined list is the lesser of the least of its parts
  pub first_joined : (found : Option Violation) (best : Option Refusal) → FirstWhere (Breaks rule) found → FirstBroken number Breaks rules best → FirstBroken number Breaks (rule ∷ rules) (join (number rule) found best)
  first_joined None best l m = subst (FirstBroken number Breaks (rule ∷ rules)) (first_of_one is_earlier best) (first_either refusal_order (Broken number Breaks rules) HeadBroken (Broken number Breaks (rule ∷ rules)) one_more best None m (first_head None l))
  first_joined (Some s) best l m = first_either refusal_order (Broken number Breaks rules) HeadBroken (Broken number Breaks (rule ∷ rules)) one_more best (Some (refusal_at (number rule) s)) m (first_head (Some s) l)

  -- the same, as the joining function has it
  pub first_rule : (found : Option Violation) (best now : Option Refusal) → FirstWhere (Breaks rule) found → now ≡ join (number rule) found best → FirstBroken number Breaks rules best → FirstBroken number Breaks (rule ∷ rules) now
  first_rule found best now l e m = subst (FirstBroken number Breaks (rule ∷ rules)) (sym e) (first_joined found best l m)

  -- the same, where the number of the rule was computed before
  pub first_rule_by : (printed : ℕ) (found : Option Violation) (best now : Option Refusal) → printed ≡ number rule → FirstWhere (Breaks rule) found → now ≡ join printed found best → FirstBroken number Breaks rules best → FirstBroken number Breaks (rule ∷ rules) now
  first_rule_by printed found best now is l e m = first_rule found best now l (e ∙ ap (λ n. join n found best) is) m
