-- The first of what breaks one rule or another, by keys.
use Rattle.std.proofs.Common.{◌≡◌, ℕ, ◌⊎◌, inl, inr, Bool, true, false, ◌||◌, ◌&&◌, nat_lt, nat_eq, Option, Some, List, [], ◌∷◌, refl, sym, ◌∙◌, ap, subst, arith, ltb-true, ltb-false, lt-ltb, eqb-true, eq-eqb}
use Rattle.widl_first.specs.First.{Tells}
use Rattle.widl_first.specs.Keys.{Either, IsFirst, Precedes, first_of, lex_lt, precedes}
use Rattle.widl_first.proofs.Firsts as firsts

-- how two lists of numbers stand
data Order (xs ys : List ℕ) : Type 0 where
  less : lex_lt xs ys ≡ true → Order xs ys
  same : xs ≡ ys → Order xs ys
  more : lex_lt ys xs ≡ true → Order xs ys

step_less : (x y : ℕ) (xs ys : List ℕ) → nat_lt x y ≡ true → lex_lt (x ∷ xs) (y ∷ ys) ≡ true
step_less x y xs ys e = ap (λ v. v || (nat_eq x y && lex_lt xs ys)) e

or_true : (a : Bool) → (a || true) ≡ true
or_true true = refl
or_true false = refl

step_same : (x y : ℕ) (xs ys : List ℕ) → x ≡ y → lex_lt xs ys ≡ true → lex_lt (x ∷ xs) (y ∷ ys) ≡ true
step_same x y xs ys e h = ap (λ v. nat_lt x y || (v && lex_lt xs ys)) (eq-eqb x y e) ∙ ap (λ v. nat_lt x y || v) h ∙ or_true (nat_lt x y)

or_cases : (a b c : Bool) → (a || (b && c)) ≡ true → (a ≡ true) ⊎ ((b ≡ true) × (c ≡ true))
or_cases true b c h = inl refl
or_cases false true c h = inr (refl, h)
or_cases false false c h = cc

order : (xs ys : List ℕ) → Order xs ys
order [] [] = same refl
order [] (y ∷ ys) = less refl
order (x ∷ xs) [] = more refl
order (x ∷ xs) (y ∷ ys) = by (nat_lt x y) refl (nat_lt y x) refl (order xs ys)
  where
    heads : nat_lt x y ≡ false → nat_lt y x ≡ false → x ≡ y
    heads e f = omega (arith, ltb-false x y e, ltb-false y x f)

    by : (c : Bool) → nat_lt x y ≡ c → (d : Bool) → nat_lt y x ≡ d → Order xs ys → Order (x ∷ xs) (y ∷ ys)
    by true e d f o = less (step_less x y xs ys e)
    by false e true f o = more (step_less y x ys xs f)
    by false e false f (less o) = less (step_same x y xs ys (heads e f) o)
    by false e false f (same o) = same (let h : x ≡ y = heads e f in cc)
    by false e false f (more o) = more (step_same y x ys xs (sym (heads e f)) o)

lex_trans : (xs ys zs : List ℕ) → lex_lt xs ys ≡ true → lex_lt ys zs ≡ true → lex_lt xs zs ≡ true
lex_trans [] [] zs a b = cc
lex_trans (x ∷ xs) [] zs a b = cc
lex_trans xs (y ∷ ys) [] a b = cc
lex_trans [] (y ∷ ys) (z ∷ zs) a b = refl
lex_trans (x ∷ xs) (y ∷ ys) (z ∷ zs) a b = by (or_cases _ _ _ a) (or_cases _ _ _ b) (lex_trans xs ys zs)
  where
    by : (nat_lt x y ≡ true) ⊎ ((nat_eq x y ≡ true) × (lex_lt xs ys ≡ true)) → (nat_lt y z ≡ true) ⊎ ((nat_eq y z ≡ true) × (lex_lt ys zs ≡ true)) → (lex_lt xs ys ≡ true → lex_lt ys zs ≡ true → lex_lt xs zs ≡ true) → lex_lt (x ∷ xs) (z ∷ zs) ≡ true
    by (inl p) (inl q) t = step_less x z xs zs (lt-ltb x z (omega (arith, ltb-true x y p, ltb-true y z q)))
    by (inl p) (inr q) t = step_less x z xs zs (subst (λ v. nat_lt x v ≡ true) (eqb-true y z q.0) p)
    by (inr p) (inl q) t = step_less x z xs zs (subst (λ v. nat_lt v z ≡ true) (sym (eqb-true x y p.0)) q)
    by (inr p) (inr q) t = step_same x z xs zs (eqb-true x y p.0 ∙ eqb-true y z q.0) (t p.1 q.1)

never : (xs : List ℕ) → lex_lt xs xs ≡ true → ⊥
never [] e = cc
never (x ∷ xs) e = elim (or_cases (nat_lt x x) (nat_eq x x) (lex_lt xs xs) e) [ inl l ↦ omega (arith, ltb-true x x l) | inr s ↦ never xs s.1 ]

not_lex : (xs ys zs : List ℕ) → lex_lt ys xs ≡ false → lex_lt zs xs ≡ true → lex_lt zs ys ≡ true
not_lex xs ys zs e h = by (order ys xs)
  where
    by : Order ys xs → lex_lt zs ys ≡ true
    by (less o) = cc
    by (same o) = subst (λ us. lex_lt zs us ≡ true) (sym o) h
    by (more o) = lex_trans zs xs ys h o

module _ {X : Type 0} (key : X → List ℕ) where
  tells : Tells (Precedes key) (precedes key)
  tells = record {
    told = λ p q e. e;
    not_told = λ p q r. not_lex (key p) (key q) (key r);
    trans = λ p q r. lex_trans (key p) (key q) (key r);
  }

  -- the first of two sorts of breaks
  pub first_either : (A B : X → Type 0) (a b : Option X) → IsFirst key A a → IsFirst key B b → IsFirst key (Either A B) (first_of key a b)
  first_either A B a b f g = firsts.first_either tells A B (Either A B) (record { left = λ p x. inl x; right = λ p y. inr y; only = λ p h. h }) a b f g

  -- two wordings of the same breaks
  pub first_same : (A B : X → Type 0) (a : Option X) → ((p : X) → A p → B p) → ((p : X) → B p → A p) → IsFirst key A a → IsFirst key B a
  first_same A B a there back f = firsts.first_same (Precedes key) A B a there back f

  -- two firsts have one key
  pub one_key : (A : X → Type 0) (p q : X) → IsFirst key A (Some p) → IsFirst key A (Some q) → key p ≡ key q
  one_key A p q f g = by (order (key p) (key q))
    where
      by : Order (key p) (key q) → key p ≡ key q
      by (less o) = absurd (g.first p f.holds o)
      by (same o) = o
      by (more o) = absurd (f.first q g.holds o)

  -- what alone breaks something is the first
  pub first_alone : (A : X → Type 0) (p : X) → A p → ((q : X) → A q → p ≡ q) → IsFirst key A (Some p)
  first_alone A p h one = record { holds = h; first = λ q g before. never (key p) (subst (λ r. lex_lt (key r) (key p) ≡ true) (sym (one q g)) before) }
