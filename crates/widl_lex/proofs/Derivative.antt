-- What a pattern still wants after a byte (its derivative), and that it is exactly that.
use Rattle.std.proofs.Common.{◌≡◌, ℕ, ◌≤◌, Bool, true, false, List, [], ◌∷◌, ◌++◌, refl, sym, ◌∙◌, ap, subst, if◌then◌else◌, eqb, leb, eqb-true, leb-true, le-leb, inl, inr, ◌⊎◌}
use Rattle.std.specs.Prelude.{◌&&◌, ◌||◌}
use Rattle.widl_lex.proofs.Computed.{and_cases, or_cases}
use Rattle.widl_lex.specs.Pattern.{Pattern, Never, Nothing, Range, Cat, Alt, Star, Matches, nothing, range, cat, left, right, stop, more}

-- whether the pattern matches the empty text
abbrev pub empties : Pattern → Bool
empties Never = false
empties Nothing = true
empties (Range l h) = false
empties (Cat p q) = empties p && empties q
empties (Alt p q) = empties p || empties q
empties (Star p) = true

pub empties_matches : (r : Pattern) → empties r ≡ true → Matches r []
empties_matches Never e = cc
empties_matches Nothing e = nothing
empties_matches (Range l h) e = cc
empties_matches (Cat p q) e = let a = and_cases (empties p) (empties q) e in cat [] [] (empties_matches p a.0) (empties_matches q a.1) refl
empties_matches (Alt p q) e = elim (or_cases (empties p) (empties q) e) [ inl a ↦ left (empties_matches p a) | inr a ↦ right (empties_matches q a) ]
empties_matches (Star p) e = stop

pub both : (a b : Bool) → a ≡ true → b ≡ true → (a && b) ≡ true
both true b g h = h
both false b g h = cc

either_left : (a b : Bool) → a ≡ true → (a || b) ≡ true
either_left true b h = refl
either_left false b h = cc

either_right : (a b : Bool) → b ≡ true → (a || b) ≡ true
either_right true b h = refl
either_right false b h = h

nil_left : (u v : List ℕ) → [] ≡ u ++ v → u ≡ []
nil_left [] v e = refl
nil_left (x ∷ u) v e = cc

nil_right : (u v : List ℕ) → [] ≡ u ++ v → v ≡ []
nil_right [] v e = sym e
nil_right (x ∷ u) v e = cc

pub matches_empties : {r : Pattern} {w : List ℕ} → Matches r w → w ≡ [] → empties r ≡ true
matches_empties nothing e = refl
matches_empties (range a b) e = cc
matches_empties (cat {p} {q} u v m n f) e = both (empties p) (empties q) (matches_empties m (nil_left u v (sym e ∙ f))) (matches_empties n (nil_right u v (sym e ∙ f)))
matches_empties (left {p} {q} m) e = either_left (empties p) (empties q) (matches_empties m e)
matches_empties (right {p} {q} m) e = either_right (empties p) (empties q) (matches_empties m e)
matches_empties stop e = refl
matches_empties (more u v m n f) e = refl

-- patterns put together, the trivial ones left out
abbrev pub cats : Pattern → Pattern → Pattern
cats Never q = Never
cats Nothing q = q
cats p q = Cat p q

abbrev pub alts : Pattern → Pattern → Pattern
alts Never q = q
alts p Never = p
alts p q = Alt p q

-- what the pattern still wants after a byte
abbrev pub after : ℕ → Pattern → Pattern
after b Never = Never
after b Nothing = Never
after b (Range l h) = if leb l b && leb b h then Nothing else Never
after b (Cat p q) = if empties p then alts (cats (after b p) q) (after b q) else cats (after b p) q
after b (Alt p q) = alts (after b p) (after b q)
after b (Star p) = cats (after b p) (Star p)

never : {w : List ℕ} → Matches Never w → ⊥
never m = elim m [ ]

nothing_only : {w : List ℕ} → Matches Nothing w → w ≡ []
nothing_only nothing = refl

cats_from : (p q : Pattern) (w : List ℕ) → Matches (cats p q) w → Matches (Cat p q) w
cats_from Never q w m = absurd (never m)
cats_from Nothing q w m = cat [] w nothing m refl
cats_from _ q w m = m

cats_to_parts : (p q : Pattern) (w u v : List ℕ) → Matches p u → Matches q v → w ≡ u ++ v → Matches (cats p q) w
cats_to_parts Never q w u v m n e = absurd (never m)
cats_to_parts Nothing q w u v m n e = subst (Matches q) (sym (e ∙ ap (λ x. x ++ v) (nothing_only m))) n
cats_to_parts _ q w u v m n e = cat u v m n e

alts_from : (p q : Pattern) (w : List ℕ) → Matches (alts p q) w → Matches (Alt p q) w
alts_from Never q w m = right m
alts_from p Never w m = left m
alts_from p q w m = m

alts_left : (p q : Pattern) (w : List ℕ) → Matches p w → Matches (alts p q) w
alts_left Never q w m = absurd (never m)
alts_left p Never w m = m
alts_left p q w m = left m

alts_right : (p q : Pattern) (w : List ℕ) → Matches q w → Matches (alts p q) w
alts_right Never q w m = m
alts_right p Never w m = absurd (never m)
alts_right p q w m = right m

pub cat_parts : {p q : Pattern} {w : List ℕ} → Matches (Cat p q) w → (u : List ℕ) × (v : List ℕ) × Matches p u × Matches q v × (w ≡ u ++ v)
cat_parts (cat u v m n e) = (u, v, m, n, e)

pub alt_parts : {p q : Pattern} {w : List ℕ} → Matches (Alt p q) w → Matches p w ⊎ Matches q w
alt_parts (left m) = inl m
alt_parts (right m) = inr m

range_from : (l h b : ℕ) (c : Bool) (w : List ℕ) → (leb l b && leb b h) ≡ c → Matches (if c then Nothing else Never) w → Matches (Range l h) (b ∷ w)
range_from l h b true w e m = let a = and_cases (leb l b) (leb b h) e in subst (λ x. Matches (Range l h) (b ∷ x)) (sym (nothing_only m)) (range (leb-true l b a.0) (leb-true b h a.1))
range_from l h b false w e m = absurd (never m)

cat_front : (b : ℕ) (p q : Pattern) (w : List ℕ) → ((u : List ℕ) → Matches (after b p) u → Matches p (b ∷ u)) → Matches (cats (after b p) q) w → Matches (Cat p q) (b ∷ w)
cat_front b p q w known m = let a = cat_parts (cats_from (after b p) q w m) in cat (b ∷ a.0) a.1 (known a.0 a.2) a.3 (ap (λ x. b ∷ x) a.4)

cat_whole : (b : ℕ) (p q : Pattern) (w : List ℕ) → ((u : List ℕ) → Matches (after b p) u → Matches p (b ∷ u)) → (Matches (after b q) w → Matches q (b ∷ w)) → (c : Bool) → empties p ≡ c → Matches (if c then alts (cats (after b p) q) (after b q) else cats (after b p) q) w → Matches (Cat p q) (b ∷ w)
cat_whole b p q w known next true e m = elim (alt_parts (alts_from (cats (after b p) q) (after b q) w m)) [
  | inl f ↦ cat_front b p q w known f
  | inr g ↦ cat [] (b ∷ w) (empties_matches p e) (next g) refl
]
cat_whole b p q w known next false e m = cat_front b p q w known m

pub after_from : (b : ℕ) (r : Pattern) (w : List ℕ) → Matches (after b r) w → Matches r (b ∷ w)
after_from b Never w m = absurd (never m)
after_from b Nothing w m = absurd (never m)
after_from b (Range l h) w m = range_from l h b (leb l b && leb b h) w refl m
after_from b (Cat p q) w m = cat_whole b p q w (after_from b p) (after_from b q w) (empties p) refl m
after_from b (Alt p q) w m = elim (alt_parts (alts_from (after b p) (after b q) w m)) [ inl f ↦ left (after_from b p w f) | inr g ↦ right (after_from b q w g) ]
after_from b (Star p) w m = let a = cat_parts (cats_from (after b p) (Star p) w m) in more (b ∷ a.0) a.1 (after_from b p a.0 a.2) a.3 (ap (λ x. b ∷ x) a.4)

-- the other way
head_same : {b c : ℕ} {u w : List ℕ} → c ∷ u ≡ b ∷ w → c ≡ b
head_same e = cc

tail_same : {b c : ℕ} {u w : List ℕ} → c ∷ u ≡ b ∷ w → u ≡ w
tail_same e = cc

range_to : (l h b : ℕ) → l ≤ b → b ≤ h → Matches (after b (Range l h)) []
range_to l h b m n = subst (λ c. Matches (if c then Nothing else Never) []) (sym (both (leb l b) (leb b h) (le-leb l b m) (le-leb b h n))) nothing

cat_to : (b : ℕ) (p q : Pattern) (w u v : List ℕ) → Matches p u → Matches q v → b ∷ w ≡ u ++ v → ((y : List ℕ) → u ≡ b ∷ y → Matches (after b p) y) → (v ≡ b ∷ w → Matches (after b q) w) → Matches (after b (Cat p q)) w
cat_to b p q w [] v m n e known next = subst (λ c. Matches (if c then alts (cats (after b p) q) (after b q) else cats (after b p) q) w) (sym (matches_empties m refl)) (alts_right (cats (after b p) q) (after b q) w (next (sym e)))
cat_to b p q w (c ∷ u) v m n e known next = go (empties p)
  where
    front : Matches (cats (after b p) q) w
    front = cats_to_parts (after b p) q w u v (known u (ap (λ x. x ∷ u) (head_same (sym e)))) n (sym (tail_same (sym e)))

    go : (d : Bool) → Matches (if d then alts (cats (after b p) q) (after b q) else cats (after b p) q) w
    go true = alts_left (cats (after b p) q) (after b q) w front
    go false = front

star_to : (b : ℕ) (p : Pattern) (w u v : List ℕ) → Matches (Star p) v → b ∷ w ≡ u ++ v → ((y : List ℕ) → u ≡ b ∷ y → Matches (after b p) y) → (v ≡ b ∷ w → Matches (after b (Star p)) w) → Matches (after b (Star p)) w
star_to b p w [] v n e known next = next (sym e)
star_to b p w (c ∷ u) v n e known next = cats_to_parts (after b p) (Star p) w u v (known u (ap (λ x. x ∷ u) (head_same (sym e)))) n (sym (tail_same (sym e)))

pub after_to : {r : Pattern} {x : List ℕ} → Matches r x → (b : ℕ) (w : List ℕ) → x ≡ b ∷ w → Matches (after b r) w
after_to nothing b w e = cc
after_to (range {low} {high} {b = c} m n) b w e = subst (λ y. Matches (after b (Range low high)) y) (tail_same e) (subst (λ y. Matches (after y (Range low high)) []) (head_same e) (range_to low high c m n))
after_to (cat {p} {q} u v m n f) b w e = cat_to b p q w u v m n (sym e ∙ f) (λ y g. after_to m b y g) (λ g. after_to n b w g)
after_to (left {p} {q} m) b w e = alts_left (after b p) (after b q) w (after_to m b w e)
after_to (right {p} {q} m) b w e = alts_right (after b p) (after b q) w (after_to m b w e)
after_to stop b w e = cc
after_to (more {p} u v m n f) b w e = star_to b p w u v n (sym e ∙ f) (λ y g. after_to m b y g) (λ g. after_to n b w g)

-- a test for equal patterns
unfoldable pub same : Pattern → Pattern → Bool
same Never Never = true
same Nothing Nothing = true
same (Range a b) (Range c d) = eqb a c && eqb b d
same (Cat p q) (Cat r s) = same p r && same q s
same (Alt p q) (Alt r s) = same p r && same q s
same (Star p) (Star q) = same p q
same _ _ = false

pub same_true : (p q : Pattern) → same p q ≡ true → p ≡ q
unfolding same
same_true Never Never e = refl
same_true Nothing Nothing e = refl
same_true (Range a b) (Range c d) e = let h = and_cases (eqb a c) (eqb b d) e in ap (λ x. Range x b) (eqb-true a c h.0) ∙ ap (λ x. Range c x) (eqb-true b d h.1)
same_true (Cat p q) (Cat r s) e = let h = and_cases (same p r) (same q s) e in ap (λ x. Cat x q) (same_true p r h.0) ∙ ap (λ x. Cat r x) (same_true q s h.1)
same_true (Alt p q) (Alt r s) e = let h = and_cases (same p r) (same q s) e in ap (λ x. Alt x q) (same_true p r h.0) ∙ ap (λ x. Alt r x) (same_true q s h.1)
same_true (Star p) (Star q) e = ap Star (same_true p q e)
same_true _ _ e = cc
