-- A sentence without a type that is too deep is read at levels at which none is.
use Rattle.std.proofs.Common.{◌≡◌, ℕ, zero, suc, ◌+◌, ◌<◌, ◌≤◌, Bool, true, false, Option, Some, None, List, [], ◌∷◌, ◌++◌, length, take, drop, refl, sym, ◌∙◌, ap, subst, arith, inl, inr, ltb, ltb-true, ltb-false, eq-eqb, if◌then◌else◌, nat_eq}
use Rattle.std.proofs.lemmas.List.{take-append-drop}
use Rattle.std.specs.Prelude.{◌&&◌, nat_lt}
use Rattle.widl_predictive.specs.declared.grammar.Symbol.{Symbol as RowSymbol}
use Rattle.widl_predictive.specs.declared.grammar.Symbol.TheVariants.{Token, Part, Inner}
use Rattle.widl_predictive.specs.Derivation.{Symbol, Terminal, Nonterminal, Derives, done, token, row, begins_at}
use Rattle.widl_predictive.specs.Predictive as theory
use Rattle.widl_predictive.specs.Predictive.{ahead, is_end}
use Rattle.widl_predictive.specs.Grammar as gr
use Rattle.widl_predictive.specs.Grammar.{Grammar, Leveled, IsAccepted}
use Rattle.widl_predictive.specs.Lookahead as look
use Rattle.widl_predictive.specs.Lookahead.{Sets, IsPredictive}
use Rattle.widl_predictive.proofs.Booleans.{and_cases, and_both}
use Rattle.widl_predictive.proofs.Running.{chosen_row}
use Rattle.widl_predictive.proofs.Theory
use Rattle.widl_syntax.specs.Leveled.{IsWithin, Levels, over, taken, chosen}

module _ {T R : Type 0} (g : Grammar T R) (s : Sets T R) (owed : IsPredictive g s) where
  abbrev Stack : Type 0
  Stack = List (Symbol T (Leveled R))

  abbrev rows : Leveled R → List Stack
  rows = gr.rows g

  abbrev Keeps : Stack → (Option T → Bool) → Type 0
  Keeps = theory.Keeps s.is (look.nullable g s) (look.first g s) (look.follow g s)

  -- the levels are levels of types
  abbrev Bounded : Stack → Type 0
  Bounded [] = Unit {0}
  Bounded (Terminal t ∷ z) = Bounded z
  Bounded (Nonterminal n ∷ z) = (1 ≤ n.1) × (n.1 ≤ g.deep_level) × Bounded z

  next_bounded : (l : ℕ) → 1 ≤ l → l ≤ g.deep_level → (1 ≤ gr.next_level g.deep_level l) × (gr.next_level g.deep_level l ≤ g.deep_level)
  next_bounded l low high = go (nat_lt l g.deep_level) refl
    where
      go : (b : Bool) → nat_lt l g.deep_level ≡ b → (1 ≤ (if b then l + 1 else l)) × ((if b then l + 1 else l) ≤ g.deep_level)
      go true e = let lt = ltb-true l g.deep_level e in (omega arith, omega (arith, lt))
      go false e = (low, high)

  row_bounded : (l : ℕ) → 1 ≤ l → l ≤ g.deep_level → (a : List (RowSymbol T R)) (z : Stack) → Bounded z → Bounded (gr.row_at g l a ++ z)
  row_bounded l low high [] z b = b
  row_bounded l low high (Token t ∷ a) z b = row_bounded l low high a z b
  row_bounded l low high (Part r ∷ a) z b = (low, high, row_bounded l low high a z b)
  row_bounded l low high (Inner r ∷ a) z b = let next = next_bounded l low high in (next.0, next.1, row_bounded l low high a z b)

  below_deep : (l : ℕ) → l ≤ g.deep_level → (nat_eq l g.deep_level ≡ true → ⊥) → l < g.deep_level
  below_deep l le other = go (ltb l g.deep_level) refl
    where
      go : (b : Bool) → ltb l g.deep_level ≡ b → l < g.deep_level
      go true e = ltb-true l g.deep_level e
      go false e = let same : l ≡ g.deep_level = omega (arith, le, ltb-false l g.deep_level e) in absurd (other (eq-eqb l g.deep_level same))

  within : (n : Leveled R) → 1 ≤ n.1 → n.1 ≤ g.deep_level → (gr.is_deep g n ≡ true → ⊥) → IsWithin g s n
  within n low high not_deep = record {
    low = low;
    high = high;
    begins = λ b. below_deep n.1 high (λ e. not_deep (and_both (g.begins_level n.0) (nat_eq n.1 g.deep_level) b e));
  }

  levels_of : {z : Stack} {w : List T} (d : Derives rows z w) → Keeps z is_end → Bounded z → ((k : ℕ) → begins_at (gr.is_deep g) d k → ⊥) → Levels g s z w
  levels_of done k b none = over
  levels_of (token d) k b none = taken (levels_of d k b (λ j h. none (suc j) h))
  levels_of (row {n} {s = z} {w} α mem d) k b none =
      let p = Theory.picks s.is (look.nullable g s) (look.first g s) (look.follow g s) rows (look.pick g s) owed.theory n z w α k mem d in
      let c = chosen_row g n.1 (g.rows n.0) (s.picked n.0 (ahead w)) α p in
      let inside = Theory.keeps_row s.is (look.nullable g s) (look.first g s) (look.follow g s) rows (look.pick g s) owed.theory n z α k mem in
      let bounds = subst (λ x. Bounded (x ++ z)) c.2 (row_bounded n.1 b.0 b.1 c.0 z b.2) in
      chosen c.0 c.1 (within n b.0 b.1 (λ deep. none 0 (inl (deep, refl)))) (subst (λ x. Levels g s (x ++ z) w) (sym c.2) (levels_of d inside bounds (λ j h. none j (inr h))))

  -- a level begins at a token
  module _ (no_end : (r : R) → g.begins_level r ≡ true → look.choice g s r None ≡ None) where
    some_left : (r : R) (w : List T) (a : List (RowSymbol T R)) → look.choice g s r None ≡ None → look.choice g s r (ahead w) ≡ Some a → 0 < length w
    some_left r [] a none c = cc
    some_left r (x ∷ w) a none c = omega arith

    at_token : {z : Stack} {w : List T} (d : Derives rows z w) → Keeps z is_end → (k : ℕ) → begins_at (gr.is_deep g) d k → k < length w
    at_token done keeps k h = absurd h
    at_token (token d) keeps zero h = absurd h
    at_token (token d) keeps (suc k) h = let lt = at_token d keeps k h in omega (arith, lt)
    at_token (row {n} {s = z} {w} α mem d) keeps k h =
        let p = Theory.picks s.is (look.nullable g s) (look.first g s) (look.follow g s) rows (look.pick g s) owed.theory n z w α keeps mem d in
        let c = chosen_row g n.1 (g.rows n.0) (s.picked n.0 (ahead w)) α p in
        let inside = Theory.keeps_row s.is (look.nullable g s) (look.first g s) (look.follow g s) rows (look.pick g s) owed.theory n z α keeps mem in
        let later : begins_at (gr.is_deep g) d k → k < length w = λ q. at_token d inside k q in
        elim h [
          | inl deep ↦ let some = some_left n.0 w c.0 (no_end n.0 (and_cases (g.begins_level n.0) (nat_eq n.1 g.deep_level) deep.0).0) c.1 in omega (arith, deep.1, some)
          | inr q ↦ later q
        ]

    deep_at : (r : R) (w : List T) (d : gr.Sentence g r w) (k : ℕ) → begins_at (gr.is_deep g) d k → gr.DeepAt g r w k
    deep_at r w d k h =
        let e : w ≡ take (k + 1) w ++ drop (k + 1) w = sym (take-append-drop (k + 1) w) in
        let moved = subst (λ x. (f : gr.Sentence g r x) × begins_at (gr.is_deep g) f k) e (d, h) in
        (drop (k + 1) w, moved.0, moved.1)

    none_at : (r : R) (w : List T) → IsAccepted g r w → (n k : ℕ) → k < n → k < length w → gr.DeepAt g r w k → ⊥
    none_at r w accepted zero k lt inside h = absurd (omega (arith, lt))
    none_at r w accepted (suc n) k lt inside h = accepted.no_deep k (record {
      within = inside;
      deep = h;
      least = λ j less q. none_at r w accepted n j (omega (arith, lt, less)) (omega (arith, inside, less)) q;
    })

    start_keeps : (r : R) → g.starts r ≡ true → Keeps (gr.start g r) is_end
    start_keeps r may = (λ l h. go l h, tt)
      where
        go : (l : Option T) → is_end l ≡ true → s.follow r l ≡ true
        go None h = owed.end_follows r may
        go (Some t) h = cc

    pub accepted_levels : (r : R) (w : List T) → g.starts r ≡ true → 1 ≤ g.deep_level → IsAccepted g r w → Levels g s (gr.start g r) w
    accepted_levels r w may high accepted =
        let d = accepted.sentence in
        levels_of d (start_keeps r may) (omega arith, high, tt) (λ k h. none_at r w accepted (suc k) k (omega arith) (at_token d (start_keeps r may) k h) (deep_at r w d k h))
