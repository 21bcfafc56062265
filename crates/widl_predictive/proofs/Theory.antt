-- The theory of predictive rows: what is ahead tells the row, and a token list has at most one tree.
use Rattle.std.proofs.Common.{◌≡◌, Bool, true, Option, Some, List, [], ◌∷◌, ◌++◌, refl, sym, ◌∙◌, ap, subst, inl, inr, append_assoc, ◌⊎◌}
use Rattle.std.specs.Prelude.{Contains, ◌||◌, ◌&&◌}
use Rattle.widl_predictive.specs.Derivation.{Symbol, Terminal, Nonterminal, Derives, done, token, row, tree_of}
use Rattle.widl_predictive.specs.Predictive as theory
use Rattle.widl_predictive.specs.Predictive.{ahead, is_end, never}
use Rattle.widl_predictive.proofs.Booleans.{or_cases, or_left, or_right, and_cases, and_both}

-- two derivations one after the other
pub derives_append : {T N : Type 0} {rows : N → List (List (Symbol T N))} {s t : List (Symbol T N)} {v w : List T} → Derives rows s v → Derives rows t w → Derives rows (s ++ t) (v ++ w)
derives_append done e = e
derives_append (token d) e = token (derives_append d e)
derives_append {rows} {s = Nonterminal n ∷ s} {t} {v} {w} (row α mem d) e = row α mem (subst (λ x. Derives rows x (v ++ w)) (append_assoc α s t) (derives_append d e))

tree_end : {T N : Type 0} {rows : N → List (List (Symbol T N))} (w : List T) (x : Derives rows [] w) → tree_of x ≡ []
tree_end w done = refl

tree_token : {T N : Type 0} {rows : N → List (List (Symbol T N))} {t : T} {s : List (Symbol T N)} {w : List T} (x : Derives rows (Terminal t ∷ s) w) → (u : List T) × (w ≡ t ∷ u) × (d : Derives rows s u) × (tree_of x ≡ tree_of d)
tree_token (token {w} d) = (w, refl, d, refl)

tree_row : {T N : Type 0} {rows : N → List (List (Symbol T N))} {n : N} {s : List (Symbol T N)} {w : List T} (x : Derives rows (Nonterminal n ∷ s) w) → (α : List (Symbol T N)) × Contains (rows n) α × (d : Derives rows (α ++ s) w) × (tree_of x ≡ α ∷ tree_of d)
tree_row (row α mem d) = (α, mem, d, refl)

moved_word : {T N : Type 0} {rows : N → List (List (Symbol T N))} (s : List (Symbol T N)) (w v : List T) → w ≡ v → (d : Derives rows s w) → (e : Derives rows s v) × (tree_of d ≡ tree_of e)
moved_word {rows} s w v q d = subst (λ x. (e : Derives rows s x) × (tree_of d ≡ tree_of e)) q (d, refl)

moved_stack : {T N : Type 0} {rows : N → List (List (Symbol T N))} (α β s : List (Symbol T N)) (w : List T) → α ≡ β → (d : Derives rows (α ++ s) w) → (e : Derives rows (β ++ s) w) × (tree_of d ≡ tree_of e)
moved_stack {rows} α β s w q d = subst (λ x. (e : Derives rows (x ++ s) w) × (tree_of d ≡ tree_of e)) q (d, refl)

tail_is : {T : Type 0} {t : T} {u v : List T} → t ∷ u ≡ t ∷ v → u ≡ v
tail_is e = cc

same_some : {X : Type 0} (o : Option X) (a b : X) → o ≡ Some a → o ≡ Some b → a ≡ b
same_some o a b e f = cc

module _ {T N : Type 0} (is : T → Option T → Bool) (nullable : N → Bool) (first : N → Option T → Bool) where
  abbrev selects : List (Symbol T N) → (Option T → Bool) → Option T → Bool
  selects = theory.selects is nullable first

  abbrev vanishes : List (Symbol T N) → Bool
  vanishes = theory.vanishes is nullable first

  pub selects-append : (α s : List (Symbol T N)) (after : Option T → Bool) (l : Option T) → selects (α ++ s) after l ≡ selects α (selects s after) l
  selects-append [] s after l = refl
  selects-append (Terminal a ∷ α) s after l = refl
  selects-append (Nonterminal n ∷ α) s after l = ap (λ v. first n l || (nullable n && v)) (selects-append α s after l)

  pub selects-more : (s : List (Symbol T N)) (after G : Option T → Bool) (l : Option T) → (after l ≡ true → G l ≡ true) → selects s after l ≡ true → selects s G l ≡ true
  selects-more [] after G l more h = more h
  selects-more (Terminal a ∷ s) after G l more h = h
  selects-more (Nonterminal n ∷ s) after G l more h = elim (or_cases (first n l) _ h) [
    | inl f ↦ or_left (first n l) _ f
    | inr r ↦ or_right (first n l) _ (and_both (nullable n) _ (and_cases (nullable n) _ r).0 (selects-more s after G l more (and_cases (nullable n) _ r).1))
  ]

  pub selects-split : (s : List (Symbol T N)) (after : Option T → Bool) (l : Option T) → selects s after l ≡ true → (selects s never l ≡ true) ⊎ ((vanishes s ≡ true) × (after l ≡ true))
  selects-split [] after l h = inr (refl, h)
  selects-split (Terminal a ∷ s) after l h = inl h
  selects-split (Nonterminal n ∷ s) after l h = elim (or_cases (first n l) _ h) [
    | inl f ↦ inl (or_left (first n l) _ f)
    | inr r ↦ elim (selects-split s after l (and_cases (nullable n) _ r).1) [
      | inl g ↦ inl (or_right (first n l) _ (and_both (nullable n) _ (and_cases (nullable n) _ r).0 g))
      | inr g ↦ inr (and_both (nullable n) _ (and_cases (nullable n) _ r).0 g.0, g.1)
    ]
  ]

  module _ (follow : N → Option T → Bool) where
    abbrev Keeps : List (Symbol T N) → (Option T → Bool) → Type 0
    Keeps = theory.Keeps is nullable first follow

    pub Keeps-append : (α s : List (Symbol T N)) (after G : Option T → Bool) → Keeps α after → ((l : Option T) → selects s G l ≡ true → after l ≡ true) → Keeps s G → Keeps (α ++ s) G
    Keeps-append [] s after G k sub rest = rest
    Keeps-append (Terminal a ∷ α) s after G k sub rest = Keeps-append α s after G k sub rest
    Keeps-append (Nonterminal n ∷ α) s after G k sub rest = (
      λ l h. k.0 l (selects-more α (selects s G) after l (sub l) (sym (selects-append α s G l) ∙ h)),
      Keeps-append α s after G k.1 sub rest,
    )

    module _ (rows : N → List (List (Symbol T N))) (pick : N → Option T → Option (List (Symbol T N))) where
      module _ (p : theory.Predictive is nullable first follow rows pick) where
        pub derives_selects : {s : List (Symbol T N)} {w : List T} → Derives rows s w → selects s is_end (ahead w) ≡ true
        derives_selects done = refl
        derives_selects (token {a} d) = p.self a
        derives_selects (row {n} {s} {w} α mem d) =
            elim (selects-split α (selects s is_end) (ahead w) (sym (selects-append α s is_end (ahead w)) ∙ derives_selects d)) [
              | inl f ↦ or_left (first n (ahead w)) _ (p.starts n α mem (ahead w) f)
              | inr g ↦ or_right (first n (ahead w)) _ (and_both (nullable n) _ (p.empty n α mem g.0) g.1)
            ]

        -- a row that stands in a derivation is the one that is picked
        pub picks : (n : N) (s : List (Symbol T N)) (w : List T) (α : List (Symbol T N)) → Keeps (Nonterminal n ∷ s) is_end → Contains (rows n) α → Derives rows (α ++ s) w → pick n (ahead w) ≡ Some α
        picks n s w α k mem d = p.chosen n α mem (ahead w) (selects-more α (selects s is_end) (follow n) (ahead w) (k.0 (ahead w)) (sym (selects-append α s is_end (ahead w)) ∙ derives_selects d))

        -- the look-ahead tells the row
        pub determined : (n : N) (s : List (Symbol T N)) (w : List T) → Keeps (Nonterminal n ∷ s) is_end → Derives rows (Nonterminal n ∷ s) w → (α : List (Symbol T N)) × (pick n (ahead w) ≡ Some α) × Derives rows (α ++ s) w
        determined n s w k (row α mem d) = (
          α,
          p.chosen n α mem (ahead w) (selects-more α (selects s is_end) (follow n) (ahead w) (k.0 (ahead w)) (sym (selects-append α s is_end (ahead w)) ∙ derives_selects d)),
          d,
        )

        -- the stack after a row was put in place of its nonterminal
        pub keeps_row : (n : N) (s : List (Symbol T N)) (α : List (Symbol T N)) → Keeps (Nonterminal n ∷ s) is_end → Contains (rows n) α → Keeps (α ++ s) is_end
        keeps_row n s α k mem = Keeps-append α s (follow n) is_end (p.inside n α mem) k.0 k.1

        -- each stack derives something
        pub some_word : (s : List (Symbol T N)) → (w : List T) × Derives rows s w
        some_word [] = ([], done)
        some_word (Terminal a ∷ s) = (a ∷ (some_word s).0, token (some_word s).1)
        some_word (Nonterminal n ∷ s) = ((p.word n).0 ++ (some_word s).0, derives_append (p.word n).1 (some_word s).1)

        -- a token list has at most one tree
        pub one_tree : {s : List (Symbol T N)} {w : List T} → (d : Derives rows s w) → Keeps s is_end → (e : Derives rows s w) → tree_of d ≡ tree_of e
        one_tree done k e = sym (tree_end [] e)
        one_tree (token {a} {s} {w} d) k e =
            let t = tree_token e in
            let m = moved_word s t.0 w (tail_is (sym t.1)) t.2 in
            one_tree d k m.0 ∙ sym m.1 ∙ sym t.3
        one_tree (row {n} {s} {w} α mem d) k e =
            let t = tree_row e in
            let same_α : t.0 ≡ α = same_some (pick n (ahead w)) t.0 α (picks n s w t.0 k t.1 t.2) (picks n s w α k mem d) in
            let m = moved_stack t.0 α s w same_α t.2 in
            ap (λ x. α ∷ x) (one_tree d (keeps_row n s α k mem) m.0 ∙ sym m.1) ∙ ap (λ x. x ∷ tree_of t.2) (sym same_α) ∙ sym t.3
