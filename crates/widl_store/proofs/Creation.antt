-- What the order of creation keeps: a new entry comes last, a changed one keeps its place, a removed one leaves the order of the others.
use Rattle.std.proofs.Common.{◌≡◌, ℕ, zero, suc, ◌<◌, Bool, true, false, nat_eq, if◌then◌else◌, Option, Some, None, List, [], ◌∷◌, ◌++◌, refl, sym, ◌∙◌, ap, subst, inl, inr, ◌⊎◌, arith, map, filter, eqb-true, eq-eqb}
use Rattle.std.specs.Prelude.{Contains}
use Rattle.widl_store.specs.Leaving.{Leaves}
use Rattle.widl_store.specs.Order.{Entry, at, listed, gathered}

abbrev pub AllBelow : ℕ → List Entry → Type 0
AllBelow n es = (e : Entry) → Contains es e → e.1.number < n

abbrev pub EachOnce : List Entry → Type 0
EachOnce es = (a b : Entry) → Contains es a → Contains es b → a.1.number ≡ b.1.number → a ≡ b

pub in_cons : (x e : Entry) (es : List Entry) → Contains (x ∷ es) e → (x ≡ e) ⊎ Contains es e
in_cons x e es (zero, lt, is) = inl is
in_cons x e es (suc k, lt, is) = inr (k, omega arith, is)

pub in_head : (x : Entry) (es : List Entry) → Contains (x ∷ es) x
in_head x es = (0, omega arith, refl)

pub in_tail : (x e : Entry) (es : List Entry) → Contains es e → Contains (x ∷ es) e
in_tail x e es (k, lt, is) = (suc k, omega arith, is)

pub nobody : (e : Entry) → Contains [] e → ⊥
nobody e (k, lt, is) = omega arith

-- what is found at a number
pub at_in : (n : ℕ) (es : List Entry) (e : Entry) → at n es ≡ Some e → Contains es e × (e.1.number ≡ n)
at_in n [] e h = absurd (let bad : None ≡ Some e = h in cc)
at_in n (x ∷ es) e h = go (nat_eq x.1.number n) refl (at_in n es e)
  where
    go : (b : Bool) → nat_eq x.1.number n ≡ b → (at n es ≡ Some e → Contains es e × (e.1.number ≡ n)) → Contains (x ∷ es) e × (e.1.number ≡ n)
    go true t rest =
        let same : x ≡ e = let f : Some x ≡ Some e = ap (λ b. if b then Some x else at n es) (sym t) ∙ h in cc in
        (subst (Contains (x ∷ es)) same (in_head x es), ap (λ y. y.1.number) (sym same) ∙ eqb-true x.1.number n t)
    go false t rest = let r = rest (ap (λ b. if b then Some x else at n es) (sym t) ∙ h) in (in_tail x e es r.0, r.1)

-- an entry is found at its number, or another of the same is
pub found : (n : ℕ) (es : List Entry) (e : Entry) → Contains es e → e.1.number ≡ n → (f : Entry) × (at n es ≡ Some f)
found n [] e h k = absurd (nobody e h)
found n (x ∷ es) e h k = go (nat_eq x.1.number n) refl (λ i. found n es e i k)
  where
    go : (b : Bool) → nat_eq x.1.number n ≡ b → (Contains es e → (f : Entry) × (at n es ≡ Some f)) → (f : Entry) × (at n (x ∷ es) ≡ Some f)
    go true t further = (x, ap (λ b. if b then Some x else at n es) t)
    go false t further = elim (in_cons x e es h) [
      | inl same ↦ absurd (let other : nat_eq x.1.number n ≡ true = eq-eqb x.1.number n (ap (λ y. y.1.number) same ∙ k) in let bad : true ≡ false = sym other ∙ t in cc)
      | inr rest ↦ let r = further rest in (r.0, ap (λ b. if b then Some x else at n es) t ∙ r.1)
    ]

pub in_at : (n : ℕ) (es : List Entry) (e : Entry) → EachOnce es → Contains es e → e.1.number ≡ n → at n es ≡ Some e
in_at n es e once h k =
    let f = found n es e h k in
    let g = at_in n es f.0 f.1 in
    f.1 ∙ ap Some (once f.0 e g.0 h (g.1 ∙ sym k))

-- lists that have the same at each number are in the same order
pub gathered_same : (n : ℕ) (es fs : List Entry) → ((k : ℕ) → k < n → at k es ≡ at k fs) → gathered n es ≡ gathered n fs
unfolding gathered
gathered_same zero es fs h = refl
gathered_same (suc n) es fs h = let one : gathered n es ≡ gathered n fs = gathered_same n es fs (λ k lt. h k (omega arith)) in let two : at n es ≡ at n fs = h n (omega arith) in cc

-- 1. a new entry comes last
pub at_past : (n : ℕ) (es : List Entry) → AllBelow n es → at n es ≡ None
at_past n es below = go (at n es) refl
  where
    go : (o : Option Entry) → at n es ≡ o → o ≡ None
    go None h = refl
    go (Some e) h = let r = at_in n es e h in absurd (omega (arith, below e r.0, r.1))

pub at_before : (k : ℕ) (es : List Entry) (e : Entry) → (e.1.number ≡ k → ⊥) → at k (es ++ e ∷ []) ≡ at k es
at_before k [] e other = go (nat_eq e.1.number k) refl
  where
    go : (b : Bool) → nat_eq e.1.number k ≡ b → at k (e ∷ []) ≡ None
    go true t = absurd (other (eqb-true e.1.number k t))
    go false t = ap (λ b. if b then Some e else None) t
at_before k (x ∷ es) e other = ap (λ o. if nat_eq x.1.number k then Some x else o) (at_before k es e other)

pub at_last : (n : ℕ) (es : List Entry) (e : Entry) → at n es ≡ None → e.1.number ≡ n → at n (es ++ e ∷ []) ≡ Some e
at_last n [] e h k = ap (λ b. if b then Some e else None) (eq-eqb e.1.number n k)
at_last n (x ∷ es) e h k = go (nat_eq x.1.number n) refl (λ i. at_last n es e i k)
  where
    go : (b : Bool) → nat_eq x.1.number n ≡ b → (at n es ≡ None → at n (es ++ e ∷ []) ≡ Some e) → at n ((x ∷ es) ++ e ∷ []) ≡ Some e
    go true t rest = absurd (let bad : Some x ≡ None = ap (λ b. if b then Some x else at n es) (sym t) ∙ h in cc)
    go false t rest = ap (λ b. if b then Some x else at n (es ++ e ∷ [])) t ∙ rest (ap (λ b. if b then Some x else at n es) (sym t) ∙ h)

pub new_last : (n : ℕ) (es : List Entry) (e : Entry) → AllBelow n es → e.1.number ≡ n → gathered (suc n) (es ++ e ∷ []) ≡ gathered n es ++ e ∷ []
unfolding gathered
new_last n es e below k =
    let one : gathered n (es ++ e ∷ []) ≡ gathered n es = gathered_same n (es ++ e ∷ []) es (λ j lt. at_before j es e (λ same. absurd (omega arith))) in
    let two : at n (es ++ e ∷ []) ≡ Some e = at_last n es e (at_past n es below) k in
    ap (λ x. gathered n (es ++ e ∷ []) ++ listed x) two ∙ ap (λ x. x ++ e ∷ []) one

-- 2. an entry that is changed keeps its place
pub map_append : {X Y : Type 0} (f : X → Y) (xs ys : List X) → map f (xs ++ ys) ≡ map f xs ++ map f ys
map_append f [] ys = refl
map_append f (x ∷ xs) ys = ap (λ r. f x ∷ r) (map_append f xs ys)

pub map_option : (Entry → Entry) → Option Entry → Option Entry
map_option f None = None
map_option f (Some e) = Some (f e)

pub at_changed : (f : Entry → Entry) → ((e : Entry) → (f e).1.number ≡ e.1.number) → (k : ℕ) (es : List Entry) → at k (map f es) ≡ map_option f (at k es)
unfolding map_option
at_changed f same k [] = refl
at_changed f same k (e ∷ es) = ap (λ n. if nat_eq n k then Some (f e) else at k (map f es)) (same e) ∙ go (nat_eq e.1.number k) (at_changed f same k es)
  where
    go : (b : Bool) → at k (map f es) ≡ map_option f (at k es) → (if b then Some (f e) else at k (map f es)) ≡ map_option f (if b then Some e else at k es)
    go true rest = refl
    go false rest = rest

pub changed_in_place : (f : Entry → Entry) → ((e : Entry) → (f e).1.number ≡ e.1.number) → (n : ℕ) (es : List Entry) → gathered n (map f es) ≡ map f (gathered n es)
unfolding gathered map_option
changed_in_place f same zero es = refl
changed_in_place f same (suc n) es =
    ap (λ x. gathered n (map f es) ++ listed x) (at_changed f same n es)
    ∙ ap (λ x. x ++ listed (map_option f (at n es))) (changed_in_place f same n es)
    ∙ ap (λ x. map f (gathered n es) ++ x) (go (at n es))
    ∙ sym (map_append f (gathered n es) (listed (at n es)))
  where
    go : (o : Option Entry) → listed (map_option f o) ≡ map f (listed o)
    go None = refl
    go (Some e) = refl

-- 3. a removed entry leaves the order of the others
pub filter_append : {X : Type 0} (p : X → Bool) (xs ys : List X) → filter p (xs ++ ys) ≡ filter p xs ++ filter p ys
filter_append p [] ys = refl
filter_append p (x ∷ xs) ys = go (p x) (filter_append p xs ys)
  where
    go : (b : Bool) → filter p (xs ++ ys) ≡ filter p xs ++ filter p ys → (if b then x ∷ filter p (xs ++ ys) else filter p (xs ++ ys)) ≡ (if b then x ∷ filter p xs else filter p xs) ++ filter p ys
    go true rest = ap (λ r. x ∷ r) rest
    go false rest = rest

pub once_left : (p : Entry → Bool) (es fs : List Entry) → Leaves p es fs → EachOnce es → EachOnce fs
once_left p es fs l once = λ a b h k e. once a b (l.sub a h) (l.sub b k) e

pub left_at : (p : Entry → Bool) (es fs : List Entry) → Leaves p es fs → EachOnce es → (k : ℕ) → listed (at k fs) ≡ filter p (listed (at k es))
left_at p es fs l once k = go (at k es) refl (at k fs) refl
  where
    one : (e : Entry) → at k es ≡ Some e → (q : Option Entry) → at k fs ≡ q → (b : Bool) → p e ≡ b → listed q ≡ (if b then e ∷ [] else [])
    one e g None f true t = absurd (let r = at_in k es e g in let there : at k fs ≡ Some e = in_at k fs e (once_left p es fs l once) (l.kept e r.0 t) r.1 in let bad : None ≡ Some e = sym f ∙ there in cc)
    one e g None f false t = refl
    one e g (Some h) f b t =
        let r = at_in k es e g in
        let s = at_in k fs h f in
        let same : h ≡ e = once h e (l.sub h s.0) r.0 (s.1 ∙ sym r.1) in
        let passes : true ≡ b = sym (l.pass h s.0) ∙ ap p same ∙ t in
        subst (λ c. h ∷ [] ≡ (if c then e ∷ [] else [])) passes (ap (λ x. x ∷ []) same)

    go : (o : Option Entry) → at k es ≡ o → (q : Option Entry) → at k fs ≡ q → listed q ≡ filter p (listed o)
    go None g None f = refl
    go None g (Some h) f = absurd (let s = at_in k fs h f in let there : at k es ≡ Some h = in_at k es h once (l.sub h s.0) s.1 in let bad : None ≡ Some h = sym g ∙ there in cc)
    go (Some e) g q f = one e g q f (p e) refl

pub left_in_order : (p : Entry → Bool) (es fs : List Entry) → Leaves p es fs → EachOnce es → (n : ℕ) → gathered n fs ≡ filter p (gathered n es)
unfolding gathered
left_in_order p es fs l once zero = refl
left_in_order p es fs l once (suc n) =
    ap (λ x. x ++ listed (at n fs)) (left_in_order p es fs l once n)
    ∙ ap (λ x. filter p (gathered n es) ++ x) (left_at p es fs l once n)
    ∙ sym (filter_append p (gathered n es) (listed (at n es)))
