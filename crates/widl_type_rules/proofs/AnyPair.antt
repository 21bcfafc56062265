-- Whether one of a list and a later one pass a test: of a list with one item more, and of lists that are seen through a function.
use Rattle.std.proofs.Common.{◌≡◌, ℕ, zero, suc, ◌+◌, ◌<◌, ◌++◌, Bool, true, false, ◌||◌, List, [], ◌∷◌, length, take, get_or, drop, slice_get, None, Some, arith, refl, sym, ap, ◌∙◌}
use Rattle.std.proofs.lemmas.List.{take_more, take-append-drop}
use Rattle.std.proofs.lemmas.List.Folds.{list_any-append}
use Rattle.std.proofs.lemmas.Option.{same_Some}
use Rattle.std.proofs.Math.Bool.{or-false}
use Rattle.std.specs.List.{list_any}
use Rattle.widl_type_rules.specs.IndistinguishablePairs.{any_pair}

pub or_four : (a b c d : Bool) → ((a || b) || (c || d)) ≡ ((a || c) || (b || d))
or_four true b c d = refl
or_four false true true d = refl
or_four false true false d = refl
or_four false false c d = refl

pub or_true : (b : Bool) → (b || true) ≡ true
or_true true = refl
or_true false = refl

module _ {X : Type 0} (test : X → X → Bool) where
  -- one item more
  pub any_pair_push : (xs : List X) (x : X) → any_pair test (xs ++ x ∷ []) ≡ (any_pair test xs || list_any (λ y. test y x) xs)
  any_pair_push [] x = refl
  any_pair_push (y ∷ xs) x =
      ap (λ b. list_any (test y) (xs ++ x ∷ []) || b) (any_pair_push xs x)
      ∙ ap (λ b. b || (any_pair test xs || list_any (λ z. test z x) xs)) (list_any-append (test y) xs (x ∷ []) ∙ ap (λ b. list_any (test y) xs || b) (or-false (test y x)))
      ∙ or_four (list_any (test y) xs) (test y x) (any_pair test xs) (list_any (λ z. test z x) xs)

  pub any_pair_more : (xs : List X) (i : ℕ) (x : X) → i < length xs → x ≡ get_or xs i x → any_pair test (take (i + 1) xs) ≡ (any_pair test (take i xs) || list_any (λ y. test y x) (take i xs))
  any_pair_more xs i x below is = ap (any_pair test) (take_more xs i x below ∙ ap (λ y. take i xs ++ y ∷ []) (sym is)) ∙ any_pair_push (take i xs) x

  -- what holds of the first ones and one more
  pub any_pair_none : (xs : List X) (x : X) → any_pair test xs ≡ false → list_any (λ y. test y x) xs ≡ false → any_pair test (xs ++ x ∷ []) ≡ false
  any_pair_none xs x none so = any_pair_push xs x ∙ (λ j. none j || so j)

  list_any_start : (p : X → Bool) (xs ys : List X) → list_any p xs ≡ true → list_any p (xs ++ ys) ≡ true
  list_any_start p xs ys h = list_any-append p xs ys ∙ ap (λ b. b || list_any p ys) h

  start_of : (a b c d : Bool) → (a || b) ≡ true → (a ≡ true → c ≡ true) → (b ≡ true → d ≡ true) → (c || d) ≡ true
  start_of true b c d h f g = ap (λ e. e || d) (f refl)
  start_of false b c d h f g = ap (λ e. c || e) (g h) ∙ or_true c

  -- a pair among the first ones is one among all
  pub any_pair_start : (xs ys : List X) → any_pair test xs ≡ true → any_pair test (xs ++ ys) ≡ true
  any_pair_start [] ys h = absurd (let f : false ≡ true = h in (cc))
  any_pair_start (x ∷ xs) ys h = start_of (list_any (test x) xs) (any_pair test xs) (list_any (test x) (xs ++ ys)) (any_pair test (xs ++ ys)) h (list_any_start (test x) xs ys) (any_pair_start xs ys)

-- an item of a list and a later one that pass a test
pub record PassingPair {X : Type 0} (test : X → X → Bool) (xs : List X) : Type 0 where
  pub first : ℕ
  pub second : ℕ
  pub follows : first < second
  pub one : X
  pub other : X
  pub one_is : slice_get xs first ≡ Some one
  pub other_is : slice_get xs second ≡ Some other
  pub passes : test one other ≡ true

-- an item that passes a test
record PassingItem {X : Type 0} (p : X → Bool) (xs : List X) : Type 0 where
  pub index : ℕ
  pub item : X
  pub is : slice_get xs index ≡ Some item
  pub passes : p item ≡ true

item_by : {X : Type 0} (p : X → Bool) (x : X) (xs : List X) (b : Bool) → p x ≡ b → (b || list_any p xs) ≡ true → (list_any p xs ≡ true → PassingItem p xs) → PassingItem p (x ∷ xs)
item_by p x xs true e h k = record { index = 0; item = x; is = refl; passes = e }
item_by p x xs false e h k = let w = k h in record { index = suc w.index; item = w.item; is = w.is; passes = w.passes }

item_found : {X : Type 0} (p : X → Bool) (xs : List X) → list_any p xs ≡ true → PassingItem p xs
item_found p [] h = absurd (let f : false ≡ true = h in (cc))
item_found p (x ∷ xs) h = item_by p x xs (p x) refl h (item_found p xs)

item_here : {X : Type 0} (p : X → Bool) (xs : List X) (i : ℕ) (x : X) → slice_get xs i ≡ Some x → p x ≡ true → list_any p xs ≡ true
item_here p [] i x is h = absurd (let f : None ≡ Some x = is in (cc))
item_here p (y ∷ xs) zero x is h = ap (λ b. b || list_any p xs) (ap p (same_Some y x is) ∙ h)
item_here p (y ∷ xs) (suc i) x is h = ap (λ b. p y || b) (item_here p xs i x is h) ∙ or_true (p y)

pair_by : {X : Type 0} (test : X → X → Bool) (x : X) (xs : List X) (b : Bool) → list_any (test x) xs ≡ b → (b || any_pair test xs) ≡ true → (any_pair test xs ≡ true → PassingPair test xs) → PassingPair test (x ∷ xs)
pair_by test x xs true e h k = let w = item_found (test x) xs e in record { first = 0; second = suc w.index; follows = omega arith; one = x; other = w.item; one_is = refl; other_is = w.is; passes = w.passes }
pair_by test x xs false e h k = let w = k h in record { first = suc w.first; second = suc w.second; follows = omega (arith, w.follows); one = w.one; other = w.other; one_is = w.one_is; other_is = w.other_is; passes = w.passes }

pub any_pair_found : {X : Type 0} (test : X → X → Bool) (xs : List X) → any_pair test xs ≡ true → PassingPair test xs
any_pair_found test [] h = absurd (let f : false ≡ true = h in (cc))
any_pair_found test (x ∷ xs) h = pair_by test x xs (list_any (test x) xs) refl h (any_pair_found test xs)

pub any_pair_here : {X : Type 0} (test : X → X → Bool) (xs : List X) (i j : ℕ) (x y : X) → i < j → slice_get xs i ≡ Some x → slice_get xs j ≡ Some y → test x y ≡ true → any_pair test xs ≡ true
any_pair_here test [] i j x y below x_is y_is h = absurd (let f : None ≡ Some x = x_is in (cc))
any_pair_here test (z ∷ xs) i zero x y below x_is y_is h = absurd (omega arith)
any_pair_here test (z ∷ xs) zero (suc j) x y below x_is y_is h = ap (λ b. b || any_pair test xs) (item_here (test z) xs j y y_is (ap (λ w. test w y) (same_Some z x x_is) ∙ h))
any_pair_here test (z ∷ xs) (suc i) (suc j) x y below x_is y_is h = ap (λ b. list_any (test z) xs || b) (any_pair_here test xs i j x y (omega arith) x_is y_is h) ∙ or_true (list_any (test z) xs)

-- one of two tests
list_any_either : {X : Type 0} (p q : X → Bool) (xs : List X) → list_any (λ x. p x || q x) xs ≡ (list_any p xs || list_any q xs)
list_any_either p q [] = refl
list_any_either p q (x ∷ xs) = ap (λ b. (p x || q x) || b) (list_any_either p q xs) ∙ or_four (p x) (q x) (list_any p xs) (list_any q xs)

pub any_pair_either : {X : Type 0} (p q : X → X → Bool) (xs : List X) → any_pair (λ x y. p x y || q x y) xs ≡ (any_pair p xs || any_pair q xs)
any_pair_either p q [] = refl
any_pair_either p q (x ∷ xs) = (λ j. list_any_either (p x) (q x) xs j || any_pair_either p q xs j) ∙ or_four (list_any (p x) xs) (list_any (q x) xs) (any_pair p xs) (any_pair q xs)

-- a later item passes with one of the first ones
module _ {X : Type 0} (test : X → X → Bool) (xs : List X) (i : ℕ) (x : X) (below : i < length xs) (is : x ≡ get_or xs i x) where
  pub pair_found : list_any (λ y. test y x) (take i xs) ≡ true → any_pair test xs ≡ true
  pair_found h =
      let first : any_pair test (take (i + 1) xs) ≡ true = any_pair_more test xs i x below is ∙ ap (λ b. any_pair test (take i xs) || b) h ∙ or_true (any_pair test (take i xs)) in
      ap (any_pair test) (sym (take-append-drop (i + 1) xs)) ∙ any_pair_start test (take (i + 1) xs) (drop (i + 1) xs) first

  pub pair_none : any_pair test (take i xs) ≡ false → list_any (λ y. test y x) (take i xs) ≡ false → any_pair test (take (i + 1) xs) ≡ false
  pair_none none so = any_pair_more test xs i x below is ∙ (λ j. none j || so j)
