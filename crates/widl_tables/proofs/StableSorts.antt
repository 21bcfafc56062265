-- Two lists in order, of which those that tie with any item are the same in both, are the same list.
use Rattle.std.proofs.Common.{◌≡◌, ℕ, suc, ◌+◌, ◌<◌, Bool, true, false, cond, List, [], ◌∷◌, length, Bor, refl, sym, ap, subst, ◌∙◌, arith}
use Rattle.std.specs.Prelude.{slice_index_or, not, ◌&&◌}
use Rattle.std.specs.Cmp.{IsStrictWeakOrder}
use Rattle.std.specs.List.{filter}
use Rattle.std.specs.List.Sorted.{IsSortedBy, ties}
use Rattle.std.specs.Fn.{Called, ComparesAs, Mut}
use Rattle.std.specs.Ordering.{is_lt}
use Rattle.std.specs.declared.cmp.Ordering.{Ordering}
use Rattle.std.proofs.lemmas.Fn.{always_returns_same}

-- what `sort_by` asks, where each call of a closure compares its elements so
pub compares : {F X : Type 0} (cmp : X → X → Ordering) {g : Mut F (Bor X × (Bor X × Unit {0})) Ordering} {f : F}
    → ((a : Bor X × (Bor X × Unit {0})) (r : Ordering) (f' : F) → Called g f a r f' → (r ≡ cmp a.0.now a.1.0.now) × (f' ≡ f)) → ComparesAs g (λ x y. is_lt (cmp x y)) f
compares cmp {g = g} {f = f} h = always_returns_same g (λ a r. is_lt r ≡ is_lt (cmp a.0.now a.1.0.now)) f (λ a r f' k. (ap is_lt (h a r f' k).0, (h a r f' k).1))

module _ {X : Type 0} (lt : X → X → Bool) where
  -- none of these is less
  abbrev pub NoneLess : X → List X → Type 0
  NoneLess x [] = Unit {0}
  NoneLess x (y ∷ ys) = (lt y x ≡ false) × NoneLess x ys

  abbrev pub First : X → List X → Type 0
  First x [] = Unit {0}
  First x (y ∷ ys) = lt y x ≡ false

  -- none is less than the one before it
  abbrev pub Ascends : List X → Type 0
  Ascends [] = Unit {0}
  Ascends (x ∷ xs) = First x xs × Ascends xs

  pub ascends : (xs : List X) → IsSortedBy lt xs → Ascends xs
  ascends [] up = tt
  ascends (x ∷ []) up = (tt, tt)
  ascends (x ∷ y ∷ ys) up = (up 0 x (omega arith) (omega arith), ascends (y ∷ ys) (λ k d low high. later k d high))
    where
      later : (k : ℕ) (d : X) → k + 1 < length (y ∷ ys) → lt (slice_index_or (y ∷ ys) (k + 1) d) (slice_index_or (y ∷ ys) k d) ≡ false
      later k d high =
          let next : suc k + 1 ≡ suc (k + 1) = omega arith in
          subst (λ (i : ℕ). lt (slice_index_or (x ∷ y ∷ ys) i d) (slice_index_or (x ∷ y ∷ ys) (suc k) d) ≡ false) next (up (suc k) d (omega arith) (omega (arith, high)))

  module _ (order : IsStrictWeakOrder lt) where
    -- an item isn't less than itself
    itself : (b : Bool) (x : X) → lt x x ≡ b → lt x x ≡ false
    itself true x e = order.one_way x x e
    itself false x e = e

    less_not : (x : X) → lt x x ≡ false
    less_not x = itself (lt x x) x refl

    both : (a b : Bool) → a ≡ false → b ≡ false → (not a && not b) ≡ true
    both true b e f = absurd (cc)
    both false true e f = absurd (cc)
    both false false e f = refl

    first_of : (a b : Bool) → (not a && not b) ≡ true → a ≡ false
    first_of true b e = absurd (cc)
    first_of false b e = refl

    tie : (x y : X) → lt x y ≡ false → lt y x ≡ false → ties lt x y ≡ true
    tie x y e f = both (lt x y) (lt y x) e f

    all_after : (x y : X) (ys : List X) → lt y x ≡ false → First y ys → Ascends ys → NoneLess x ys
    all_after x y [] e f up = tt
    all_after x y (z ∷ ys) e f up = let here = order.chain z y x f e in (here, all_after x z ys here up.0 up.1)

    above : (x : X) (xs : List X) → Ascends (x ∷ xs) → NoneLess x (x ∷ xs)
    above x xs up = (less_not x, all_after x x xs (less_not x) up.0 up.1)

    -- where one of these ties with x, their least isn't above it
    not_above : (x y : X) (ys : List X) → NoneLess y ys → (w : X) (ws : List X) → filter (ties lt x) ys ≡ w ∷ ws → lt x y ≡ false
    not_above x y [] all w ws e = absurd (cc)
    not_above x y (v ∷ ys) all w ws e = by (ties lt x v) refl (not_above x y ys all.1 w ws)
      where
        by : (b : Bool) → ties lt x v ≡ b → (filter (ties lt x) ys ≡ w ∷ ws → lt x y ≡ false) → lt x y ≡ false
        by true t later = order.chain x v y (first_of (lt x v) (lt v x) t) all.0
        by false t later = later (sym (ap (λ (b : Bool). cond b (v ∷ filter (ties lt x) ys) (filter (ties lt x) ys)) t) ∙ e)

    with_itself : (x : X) (xs : List X) → filter (ties lt x) (x ∷ xs) ≡ x ∷ filter (ties lt x) xs
    with_itself x xs = ap (λ (b : Bool). cond b (x ∷ filter (ties lt x) xs) (filter (ties lt x) xs)) (tie x x (less_not x) (less_not x))

    heads : (x y : X) (xs ys : List X) → ◌≡◌ {A = List X} (x ∷ xs) (y ∷ ys) → x ≡ y
    heads x y xs ys e = cc

    tails : (b : Bool) (x : X) (xs ys : List X) → cond b (x ∷ xs) xs ≡ cond b (x ∷ ys) ys → xs ≡ ys
    tails true x xs ys e = cc
    tails false x xs ys e = e

    pub one_order : (xs ys : List X) → Ascends xs → Ascends ys → ((x : X) → filter (ties lt x) xs ≡ filter (ties lt x) ys) → xs ≡ ys
    one_order [] [] up down same = refl
    one_order [] (y ∷ ys) up down same = absurd (let e = same y in let f = with_itself y ys in cc)
    one_order (x ∷ xs) [] up down same = absurd (let e = same x in let f = with_itself x xs in cc)
    one_order (x ∷ xs) (y ∷ ys) up down same = by (one_order xs ys up.1 down.1)
      where
        more : lt x y ≡ false
        more = not_above x y (y ∷ ys) (above y ys down) x (filter (ties lt x) xs) (sym (same x) ∙ with_itself x xs)

        less : lt y x ≡ false
        less = not_above y x (x ∷ xs) (above x xs up) y (filter (ties lt y) ys) (same y ∙ with_itself y ys)

        alike : x ≡ y
        alike = heads x y (filter (ties lt x) xs) (filter (ties lt x) ys) (sym (with_itself x xs) ∙ same x ∙ ap (λ (b : Bool). cond b (y ∷ filter (ties lt x) ys) (filter (ties lt x) ys)) (tie x y more less))

        rest : (z : X) → filter (ties lt z) xs ≡ filter (ties lt z) ys
        rest z = tails (ties lt z x) x (filter (ties lt z) xs) (filter (ties lt z) ys) (subst (λ (w : X). filter (ties lt z) (x ∷ xs) ≡ filter (ties lt z) (w ∷ ys)) (sym alike) (same z))

        by : (((z : X) → filter (ties lt z) xs ≡ filter (ties lt z) ys) → xs ≡ ys) → ◌≡◌ {A = List X} (x ∷ xs) (y ∷ ys)
        by later = ap (λ (w : X). w ∷ xs) alike ∙ ap (λ (ws : List X). y ∷ ws) (later rest)
