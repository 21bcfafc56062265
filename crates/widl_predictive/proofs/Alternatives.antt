-- An expression as a list of alternatives, each a list of tokens, rules and repetitions.
use Rattle.std.proofs.Common.{◌≡◌, Bool, true, false, List, [], ◌∷◌, ◌++◌, refl, sym, ◌∙◌, ap, subst, inl, inr, append_assoc, append-nil, ◌⊎◌}
use Rattle.std.specs.Prelude.{◌||◌, ◌&&◌}
use Rattle.widl_predictive.specs.Expression.{Expression, token, rule, ◌·◌, ◌∣◌, maybe, many}
use Rattle.widl_predictive.proofs.Booleans.{or_cases, and_cases}

abbrev pub prefixed : {X : Type 0} → List X → List (List X) → List (List X)
prefixed x [] = []
prefixed x (y ∷ ys) = (x ++ y) ∷ prefixed x ys

-- each of the one followed by each of the other
abbrev pub products : {X : Type 0} → List (List X) → List (List X) → List (List X)
products [] ys = []
products (x ∷ xs) ys = prefixed x ys ++ products xs ys

abbrev pub alternatives : {T P : Type 0} → Expression T P → List (List (Expression T P))
alternatives (token a) = (token a ∷ []) ∷ []
alternatives (rule p) = (rule p ∷ []) ∷ []
alternatives (e · f) = products (alternatives e) (alternatives f)
alternatives (e ∣ f) = alternatives e ++ alternatives f
alternatives (maybe e) = [] ∷ alternatives e
alternatives (many e) = (many e ∷ []) ∷ []

-- a repetition that stands first, taken apart once
abbrev pub unrolled : {T P : Type 0} → List (Expression T P) → List (List (Expression T P))
unrolled (many e ∷ y) = y ∷ products (alternatives e) ((many e ∷ y) ∷ [])
unrolled x = x ∷ []

abbrev pub all_unrolled : {T P : Type 0} → List (List (Expression T P)) → List (List (Expression T P))
all_unrolled [] = []
all_unrolled (x ∷ xs) = unrolled x ++ all_unrolled xs

-- one list of tokens after another, each in A
pub data Repeats {T : Type 0} (A : List T → Type 0) : List T → Type 0 where
  stop : {w : List T} → w ≡ [] → Repeats A w
  again : {w : List T} (u v : List T) → A u → Repeats A v → w ≡ u ++ v → Repeats A w

pub repeats_map : {T : Type 0} (A B : List T → Type 0) → ((u : List T) → A u → B u) → {w : List T} → Repeats A w → Repeats B w
repeats_map A B f (stop e) = stop e
repeats_map A B f (again u v a r e) = again u v (f u a) (repeats_map A B f r) e

module _ {T P : Type 0} (D : P → List T → Type 0) where
  -- the expression stands for the tokens, where D says what each rule stands for
  abbrev pub Denotes : Expression T P → List T → Type 0
  Denotes (token a) w = w ≡ a ∷ []
  Denotes (rule p) w = D p w
  Denotes (e · f) w = (u : List T) × (v : List T) × Denotes e u × Denotes f v × (w ≡ u ++ v)
  Denotes (e ∣ f) w = Denotes e w ⊎ Denotes f w
  Denotes (maybe e) w = (w ≡ []) ⊎ Denotes e w
  Denotes (many e) w = Repeats (Denotes e) w

  abbrev pub All : List (Expression T P) → List T → Type 0
  All [] w = w ≡ []
  All (e ∷ x) w = (u : List T) × (v : List T) × Denotes e u × All x v × (w ≡ u ++ v)

  abbrev pub Among : List (List (Expression T P)) → List T → Type 0
  Among [] w = ⊥
  Among (x ∷ xs) w = All x w ⊎ Among xs w

  pub all_append : (x y : List (Expression T P)) (u v : List T) → All x u → All y v → All (x ++ y) (u ++ v)
  all_append [] y u v a b = subst (λ t. All y (t ++ v)) (sym a) b
  all_append (e ∷ x) y u v a b = (a.0, a.1 ++ v, a.2, all_append x y a.1 v a.3 b, ap (λ t. t ++ v) a.4 ∙ append_assoc a.0 a.1 v)

  pub all_split : (x y : List (Expression T P)) (w : List T) → All (x ++ y) w → (u : List T) × (v : List T) × All x u × All y v × (w ≡ u ++ v)
  all_split [] y w h = ([], w, refl, h, refl)
  all_split (e ∷ x) y w h =
      let t = all_split x y h.1 h.3 in
      (h.0 ++ t.0, t.1, (h.0, t.0, h.2, t.2, refl), t.3, h.4 ∙ ap (λ z. h.0 ++ z) t.4 ∙ sym (append_assoc h.0 t.0 t.1))

  pub among_left : (xs ys : List (List (Expression T P))) (w : List T) → Among xs w → Among (xs ++ ys) w
  among_left [] ys w h = absurd h
  among_left (x ∷ xs) ys w h = elim h [ inl a ↦ inl a | inr b ↦ inr (among_left xs ys w b) ]

  pub among_right : (xs ys : List (List (Expression T P))) (w : List T) → Among ys w → Among (xs ++ ys) w
  among_right [] ys w h = h
  among_right (x ∷ xs) ys w h = inr (among_right xs ys w h)

  pub among_cases : (xs ys : List (List (Expression T P))) (w : List T) → Among (xs ++ ys) w → Among xs w ⊎ Among ys w
  among_cases [] ys w h = inr h
  among_cases (x ∷ xs) ys w h = elim h [ inl a ↦ inl (inl a) | inr b ↦ elim (among_cases xs ys w b) [ inl c ↦ inl (inr c) | inr c ↦ inr c ] ]

  prefixed_to : (x : List (Expression T P)) (ys : List (List (Expression T P))) (u v : List T) → All x u → Among ys v → Among (prefixed x ys) (u ++ v)
  prefixed_to x [] u v a b = absurd b
  prefixed_to x (y ∷ ys) u v a b = elim b [ inl c ↦ inl (all_append x y u v a c) | inr c ↦ inr (prefixed_to x ys u v a c) ]

  prefixed_from : (x : List (Expression T P)) (ys : List (List (Expression T P))) (w : List T) → Among (prefixed x ys) w → (u : List T) × (v : List T) × All x u × Among ys v × (w ≡ u ++ v)
  prefixed_from x [] w h = absurd h
  prefixed_from x (y ∷ ys) w h = elim h [
    | inl a ↦ let t = all_split x y w a in (t.0, t.1, t.2, inl t.3, t.4)
    | inr b ↦ let t = prefixed_from x ys w b in (t.0, t.1, t.2, inr t.3, t.4)
  ]

  pub products_to : (xs ys : List (List (Expression T P))) (u v : List T) → Among xs u → Among ys v → Among (products xs ys) (u ++ v)
  products_to [] ys u v a b = absurd a
  products_to (x ∷ xs) ys u v a b = elim a [
    | inl c ↦ among_left (prefixed x ys) (products xs ys) (u ++ v) (prefixed_to x ys u v c b)
    | inr c ↦ among_right (prefixed x ys) (products xs ys) (u ++ v) (products_to xs ys u v c b)
  ]

  pub products_from : (xs ys : List (List (Expression T P))) (w : List T) → Among (products xs ys) w → (u : List T) × (v : List T) × Among xs u × Among ys v × (w ≡ u ++ v)
  products_from [] ys w h = absurd h
  products_from (x ∷ xs) ys w h = elim (among_cases (prefixed x ys) (products xs ys) w h) [
    | inl a ↦ let t = prefixed_from x ys w a in (t.0, t.1, inl t.2, t.3, t.4)
    | inr b ↦ let t = products_from xs ys w b in (t.0, t.1, inr t.2, t.3, t.4)
  ]

  single_to : (e : Expression T P) (w : List T) → Denotes e w → Among ((e ∷ []) ∷ []) w
  single_to e w h = inl (w, [], h, refl, sym (append-nil w))

  single_from : (e : Expression T P) (w : List T) → Among ((e ∷ []) ∷ []) w → Denotes e w
  single_from e w h = elim h [
    | inl a ↦ subst (Denotes e) (sym (a.4 ∙ ap (λ t. a.0 ++ t) a.3 ∙ append-nil a.0)) a.2
    | inr b ↦ absurd b
  ]

  pub alternatives_to : (e : Expression T P) (w : List T) → Denotes e w → Among (alternatives e) w
  alternatives_to (token a) w h = single_to (token a) w h
  alternatives_to (rule p) w h = single_to (rule p) w h
  alternatives_to (e · f) w h = subst (Among (products (alternatives e) (alternatives f))) (sym h.4) (products_to (alternatives e) (alternatives f) h.0 h.1 (alternatives_to e h.0 h.2) (alternatives_to f h.1 h.3))
  alternatives_to (e ∣ f) w h = elim h [
    | inl a ↦ among_left (alternatives e) (alternatives f) w (alternatives_to e w a)
    | inr b ↦ among_right (alternatives e) (alternatives f) w (alternatives_to f w b)
  ]
  alternatives_to (maybe e) w h = elim h [ inl a ↦ inl a | inr b ↦ inr (alternatives_to e w b) ]
  alternatives_to (many e) w h = single_to (many e) w h

  pub alternatives_from : (e : Expression T P) (w : List T) → Among (alternatives e) w → Denotes e w
  alternatives_from (token a) w h = single_from (token a) w h
  alternatives_from (rule p) w h = single_from (rule p) w h
  alternatives_from (e · f) w h = let t = products_from (alternatives e) (alternatives f) w h in (t.0, t.1, alternatives_from e t.0 t.2, alternatives_from f t.1 t.3, t.4)
  alternatives_from (e ∣ f) w h = elim (among_cases (alternatives e) (alternatives f) w h) [ inl a ↦ inl (alternatives_from e w a) | inr b ↦ inr (alternatives_from f w b) ]
  alternatives_from (maybe e) w h = elim h [ inl a ↦ inl a | inr b ↦ inr (alternatives_from e w b) ]
  alternatives_from (many e) w h = single_from (many e) w h

  repeats_unrolled : (e : Expression T P) (y : List (Expression T P)) (u v w : List T) → Repeats (Denotes e) u → All y v → w ≡ u ++ v → Among (unrolled (many e ∷ y)) w
  repeats_unrolled e y u v w (stop z) s q = inl (subst (All y) (sym (q ∙ ap (λ t. t ++ v) z)) s)
  repeats_unrolled e y u v w (again a b d r z) s q =
      let rest : Among ((many e ∷ y) ∷ []) (b ++ v) = inl (b, v, r, s, refl) in
      inr (subst (Among (products (alternatives e) ((many e ∷ y) ∷ []))) (sym (q ∙ ap (λ t. t ++ v) z ∙ append_assoc a b v)) (products_to (alternatives e) ((many e ∷ y) ∷ []) a (b ++ v) (alternatives_to e a d) rest))

  unrolled_to : (x : List (Expression T P)) (w : List T) → All x w → Among (unrolled x) w
  unrolled_to (many e ∷ y) w h = repeats_unrolled e y h.0 h.1 w h.2 h.3 h.4
  unrolled_to x w h = inl h

  rolled : (e : Expression T P) (y : List (Expression T P)) (w : List T) → Among (products (alternatives e) ((many e ∷ y) ∷ [])) w → All (many e ∷ y) w
  rolled e y w h =
      let t = products_from (alternatives e) ((many e ∷ y) ∷ []) w h in
      elim t.3 [
        | inl s ↦ (t.0 ++ s.0, s.1, again t.0 s.0 (alternatives_from e t.0 t.2) s.2 refl, s.3, t.4 ∙ ap (λ z. t.0 ++ z) s.4 ∙ sym (append_assoc t.0 s.0 s.1))
        | inr b ↦ absurd b
      ]

  unrolled_from : (x : List (Expression T P)) (w : List T) → Among (unrolled x) w → All x w
  unrolled_from (many e ∷ y) w h = elim h [ inl a ↦ ([], w, stop refl, a, refl) | inr b ↦ rolled e y w b ]
  unrolled_from x w h = elim h [ inl a ↦ a | inr b ↦ absurd b ]

  pub all_unrolled_to : (xs : List (List (Expression T P))) (w : List T) → Among xs w → Among (all_unrolled xs) w
  all_unrolled_to [] w h = h
  all_unrolled_to (x ∷ xs) w h = elim h [
    | inl a ↦ among_left (unrolled x) (all_unrolled xs) w (unrolled_to x w a)
    | inr b ↦ among_right (unrolled x) (all_unrolled xs) w (all_unrolled_to xs w b)
  ]

  pub all_unrolled_from : (xs : List (List (Expression T P))) (w : List T) → Among (all_unrolled xs) w → Among xs w
  all_unrolled_from [] w h = h
  all_unrolled_from (x ∷ xs) w h = elim (among_cases (unrolled x) (all_unrolled xs) w h) [ inl a ↦ inl (unrolled_from x w a) | inr b ↦ inr (all_unrolled_from xs w b) ]

-- a test of two expressions, by tests of their tokens and rules
module _ {T P : Type 0} (same_token : T → T → Bool) (same_rule : P → P → Bool) where
  unfoldable pub same : Expression T P → Expression T P → Bool
  same (token a) (token b) = same_token a b
  same (rule p) (rule q) = same_rule p q
  same (e · f) (g · h) = same e g && same f h
  same (e ∣ f) (g ∣ h) = same e g && same f h
  same (maybe e) (maybe f) = same e f
  same (many e) (many f) = same e f
  same e f = false

  unfoldable pub same_row : List (Expression T P) → List (Expression T P) → Bool
  same_row [] [] = true
  same_row (e ∷ x) (f ∷ y) = same e f && same_row x y
  same_row x y = false

  unfoldable pub some_same : List (Expression T P) → List (List (Expression T P)) → Bool
  some_same x [] = false
  some_same x (y ∷ ys) = same_row x y || some_same x ys

  unfoldable pub covered : List (List (Expression T P)) → List (List (Expression T P)) → Bool
  covered [] ys = true
  covered (x ∷ xs) ys = some_same x ys && covered xs ys

  module _ (token_holds : (a b : T) → same_token a b ≡ true → a ≡ b) (rule_holds : (p q : P) → same_rule p q ≡ true → p ≡ q) where
    pub same_holds : (e f : Expression T P) → same e f ≡ true → e ≡ f
    unfolding same
    same_holds (token a) (token b) h = ap token (token_holds a b h)
    same_holds (rule p) (rule q) h = ap rule (rule_holds p q h)
    same_holds (e · f) (g · k) h = let p = and_cases (same e g) _ h in ap (λ x. x · f) (same_holds e g p.0) ∙ ap (λ x. g · x) (same_holds f k p.1)
    same_holds (e ∣ f) (g ∣ k) h = let p = and_cases (same e g) _ h in ap (λ x. x ∣ f) (same_holds e g p.0) ∙ ap (λ x. g ∣ x) (same_holds f k p.1)
    same_holds (maybe e) (maybe f) h = ap maybe (same_holds e f h)
    same_holds (many e) (many f) h = ap many (same_holds e f h)
    same_holds e f h = cc

    same_row_holds : (x y : List (Expression T P)) → same_row x y ≡ true → x ≡ y
    unfolding same_row
    same_row_holds [] [] h = refl
    same_row_holds (e ∷ x) (f ∷ y) h = let p = and_cases (same e f) _ h in ap (λ z. z ∷ x) (same_holds e f p.0) ∙ ap (λ z. f ∷ z) (same_row_holds x y p.1)
    same_row_holds x y h = cc

    module _ (D : P → List T → Type 0) where
      some_holds : (x : List (Expression T P)) (ys : List (List (Expression T P))) → some_same x ys ≡ true → (w : List T) → All D x w → Among D ys w
      unfolding some_same
      some_holds x [] h w a = cc
      some_holds x (y ∷ ys) h w a = elim (or_cases (same_row x y) _ h) [
        | inl e ↦ inl (subst (λ z. All D z w) (same_row_holds x y e) a)
        | inr e ↦ inr (some_holds x ys e w a)
      ]

      -- what one list of alternatives stands for, one that covers it stands for
      pub covered_holds : (xs ys : List (List (Expression T P))) → covered xs ys ≡ true → (w : List T) → Among D xs w → Among D ys w
      unfolding covered
      covered_holds [] ys h w a = absurd a
      covered_holds (x ∷ xs) ys h w a =
          let p = and_cases (some_same x ys) _ h in
          elim a [
            | inl b ↦ some_holds x ys p.0 w b
            | inr b ↦ covered_holds xs ys p.1 w b
          ]
