-- A table is predictive where a test that the checker computes says so.
use Rattle.std.proofs.Common.{◌≡◌, ℕ, zero, suc, ◌+◌, ◌<◌, ◌≤◌, Bool, true, false, if◌then◌else◌, Option, Some, None, List, [], ◌∷◌, ◌++◌, length, get_or, refl, sym, ◌∙◌, ap, subst, arith, eqb, ltb, eq-eqb, eqb-true, ltb-true, append-nil}
use Rattle.std.specs.Prelude.{Contains, ◌&&◌}
use Rattle.widl_predictive.specs.declared.grammar.Symbol.{Symbol as RowSymbol}
use Rattle.widl_predictive.specs.declared.grammar.Symbol.TheVariants.{Token, Part, Inner}
use Rattle.widl_predictive.specs.Derivation.{Symbol, Terminal, Nonterminal, Derives, done, token, row}
use Rattle.widl_predictive.specs.Coded.{Coded}
use Rattle.widl_predictive.specs.Grammar as gr
use Rattle.widl_predictive.specs.Grammar.{Grammar}
use Rattle.widl_predictive.specs.Lookahead as look
use Rattle.widl_predictive.specs.Lookahead.{Sets, nth, IsPredictive}
use Rattle.widl_predictive.specs.Table as tables
use Rattle.widl_predictive.specs.Table.{Table, has}
use Rattle.widl_predictive.specs.Predictive as theory
use Rattle.widl_predictive.proofs.Theory
use Rattle.widl_predictive.proofs.Booleans.{and_cases}

abbrev pub imp : Bool → Bool → Bool
imp true b = b
imp false b = true

pub imp_holds : (a b : Bool) → imp a b ≡ true → a ≡ true → b ≡ true
imp_holds true b h g = h
imp_holds false b h g = cc

-- a test on each item of a list
unfoldable pub each : {X : Type 0} → (X → Bool) → List X → Bool
each p [] = true
each p (x ∷ xs) = p x && each p xs

pub each_at : {X : Type 0} (p : X → Bool) (xs : List X) → each p xs ≡ true → (i : ℕ) → i < length xs → (d : X) → p (get_or xs i d) ≡ true
unfolding each
each_at p [] h i lt d = absurd (omega arith)
each_at p (x ∷ xs) h zero lt d = (and_cases (p x) _ h).0
each_at p (x ∷ xs) h (suc i) lt d = each_at p xs (and_cases (p x) _ h).1 i (omega arith) d

pub each_coded : {X : Type 0} (c : Coded X) (p : X → Bool) → each p c.all ≡ true → (x : X) → p x ≡ true
each_coded c p h x = subst (λ y. p y ≡ true) (c.at x x) (each_at p c.all h (c.code x) (c.below x) x)

nth_some : {X : Type 0} (xs : List X) (k : ℕ) (x : X) → k < length xs → get_or xs k x ≡ x → nth xs k ≡ Some x
nth_some [] k x lt e = absurd (omega arith)
nth_some (y ∷ xs) zero x lt e = ap Some e
nth_some (y ∷ xs) (suc k) x lt e = nth_some xs k x (omega arith) e

nth_contains : {X : Type 0} (xs : List X) (k : ℕ) (x : X) → nth xs k ≡ Some x → Contains xs x
nth_contains [] k x e = cc
nth_contains (y ∷ xs) zero x e = (0, omega arith, cc)
nth_contains (y ∷ xs) (suc k) x e = let m = nth_contains xs k x e in (suc m.0, omega (arith, m.1), m.2)

cost_step : (n van : Bool) (k x y c : ℕ) → x ≡ y + (if van then c else 0) → (if n then k + x else k) ≡ (if n then k + y else k) + (if n && van then c else 0)
cost_step true van k x y c e = omega (arith, e)
cost_step false van k x y c e = omega arith

module _ {T R : Type 0} (t : Table T R) where
  abbrev Leveled : Type 0
  Leveled = gr.Leveled R

  abbrev rows : Leveled → List (List (Symbol T Leveled))
  rows = gr.rows t.grammar

  abbrev row_at : ℕ → List (RowSymbol T R) → List (Symbol T Leveled)
  row_at = gr.row_at t.grammar

  abbrev rows_at : ℕ → List (List (RowSymbol T R)) → List (List (Symbol T Leveled))
  rows_at = gr.rows_at t.grammar

  abbrev next_level : ℕ → ℕ
  next_level = gr.next_level t.grammar.deep_level

  abbrev alternatives_of : R → List (List (RowSymbol T R))
  alternatives_of = t.grammar.rows

  abbrev is : T → Option T → Bool
  is = (tables.sets_of t).is

  abbrev nullable : Leveled → Bool
  nullable = look.nullable t.grammar (tables.sets_of t)

  abbrev first : Leveled → Option T → Bool
  first = look.first t.grammar (tables.sets_of t)

  abbrev follow : Leveled → Option T → Bool
  follow = look.follow t.grammar (tables.sets_of t)

  abbrev pick : Leveled → Option T → Option (List (Symbol T Leveled))
  pick = look.pick t.grammar (tables.sets_of t)

  abbrev picked : R → Option T → ℕ
  picked = tables.picked t

  unfoldable pub inside : List (Symbol T Leveled) → (Option T → Bool) → Option T → Bool
  inside [] F l = true
  inside (Terminal a ∷ s) F l = inside s F l
  inside (Nonterminal n ∷ s) F l = imp (theory.selects is nullable first s F l) (follow n l) && inside s F l

  unfoldable pub fine : Leveled → Option T → ℕ → List (Symbol T Leveled) → Bool
  fine n l k α =
      imp (theory.selects is nullable first α theory.never l) (first n l)
      && imp (theory.vanishes is nullable first α) (nullable n)
      && imp (theory.selects is nullable first α (follow n) l) (eqb (picked n.0 l) k)
      && inside α (follow n) l

  unfoldable pub all_fine : Leveled → Option T → ℕ → List (List (Symbol T Leveled)) → Bool
  all_fine n l k [] = true
  all_fine n l k (α ∷ more) = fine n l k α && all_fine n l (suc k) more

  unfoldable pub over_rules : ℕ → Option T → Bool
  over_rules v l = each (λ r. all_fine (r, v) l 0 (rows (r, v))) t.rules.all

  unfoldable pub over_looks : ℕ → Bool
  over_looks v = over_rules v None && each (λ a. over_rules v (Some a)) t.terminals.all

  fine_each : (n : Leveled) (l : Option T) (k : ℕ) (rs : List (List (Symbol T Leveled))) → all_fine n l k rs ≡ true → (i : ℕ) → i < length rs → (d : List (Symbol T Leveled)) → fine n l (k + i) (get_or rs i d) ≡ true
  unfolding all_fine
  fine_each n l k [] h i lt d = absurd (omega arith)
  fine_each n l k (α ∷ more) h zero lt d = let e : k ≡ k + 0 = omega arith in subst (λ x. fine n l x α ≡ true) e (and_cases (fine n l k α) _ h).0
  fine_each n l k (α ∷ more) h (suc i) lt d = let e : suc k + i ≡ k + suc i = omega arith in subst (λ x. fine n l x (get_or more i d) ≡ true) e (fine_each n l (suc k) more (and_cases (fine n l k α) _ h).1 i (omega arith) d)

  record Fine (n : Leveled) (l : Option T) (k : ℕ) (α : List (Symbol T Leveled)) : Type 0 where
    starts : theory.selects is nullable first α theory.never l ≡ true → first n l ≡ true
    empty : theory.vanishes is nullable first α ≡ true → nullable n ≡ true
    chosen : theory.selects is nullable first α (follow n) l ≡ true → picked n.0 l ≡ k
    within : inside α (follow n) l ≡ true

  fine_parts : (n : Leveled) (l : Option T) (k : ℕ) (α : List (Symbol T Leveled)) → fine n l k α ≡ true → Fine n l k α
  unfolding fine
  fine_parts n l k α h =
      let a = and_cases _ (inside α (follow n) l) h in
      let b = and_cases _ (imp (theory.selects is nullable first α (follow n) l) (eqb (picked n.0 l) k)) a.0 in
      let c = and_cases _ (imp (theory.vanishes is nullable first α) (nullable n)) b.0 in
      record {
        starts = imp_holds _ _ c.0;
        empty = imp_holds _ _ c.1;
        chosen = λ s. eqb-true _ _ (imp_holds _ _ b.1 s);
        within = a.1;
      }

  keeps_of : (s : List (Symbol T Leveled)) (F : Option T → Bool) → ((l : Option T) → inside s F l ≡ true) → theory.Keeps is nullable first follow s F
  unfolding inside
  keeps_of [] F h = tt
  keeps_of (Terminal a ∷ s) F h = keeps_of s F h
  keeps_of (Nonterminal n ∷ s) F h = (
    λ l g. imp_holds _ _ (and_cases (imp (theory.selects is nullable first s F l) (follow n l)) _ (h l)).0 g,
    keeps_of s F (λ l. (and_cases (imp (theory.selects is nullable first s F l) (follow n l)) _ (h l)).1),
  )

  -- each rule derives something
  unfoldable pub all_low : ℕ → List (RowSymbol T R) → Bool
  all_low b [] = true
  all_low b (Token a ∷ s) = all_low b s
  all_low b (Part r ∷ s) = ltb (t.rank_of r) b && all_low b s
  all_low b (Inner r ∷ s) = ltb (t.rank_of r) b && all_low b s

  unfoldable pub low_rule : R → Bool
  low_rule r = elim (nth (alternatives_of r) (t.shortest_of r)) as (λ x. Bool) [ None ↦ false | Some s ↦ ltb 0 (t.rank_of r) && all_low (t.rank_of r) s ]

  low_row_of : (b : ℕ) (o : Option (List (RowSymbol T R))) → (elim o as (λ x. Bool) [ None ↦ false | Some s ↦ ltb 0 b && all_low b s ]) ≡ true → (s : List (RowSymbol T R)) × (o ≡ Some s) × (ltb 0 b && all_low b s ≡ true)
  low_row_of b None h = cc
  low_row_of b (Some s) h = (s, refl, h)

  pub rows_contains : (v : ℕ) (xs : List (List (RowSymbol T R))) (k : ℕ) (s : List (RowSymbol T R)) → nth xs k ≡ Some s → nth (rows_at v xs) k ≡ Some (row_at v s)
  rows_contains v [] k s e = cc
  rows_contains v (a ∷ more) zero s e = ap (λ x. Some (row_at v x)) (let f : a ≡ s = cc in f)
  rows_contains v (a ∷ more) (suc k) s e = rows_contains v more k s e

  append_derives : {s t : List (Symbol T Leveled)} {v w : List T} → Derives rows s v → Derives rows t w → Derives rows (s ++ t) (v ++ w)
  append_derives d e = Theory.derives_append d e

  words_of : (f : ℕ) → ((r : R) (v : ℕ) → t.rank_of r ≤ f → (w : List T) × Derives rows (Nonterminal (r, v) ∷ []) w) → (v b : ℕ) → b ≤ suc f → (s : List (RowSymbol T R)) → all_low b s ≡ true → (w : List T) × Derives rows (row_at v s) w
  unfolding all_low
  words_of f known v b le [] h = ([], done)
  words_of f known v b le (Token a ∷ s) h = let t = words_of f known v b le s h in (a ∷ t.0, token t.1)
  words_of f known v b le (Part r ∷ s) h =
      let p = and_cases (ltb (t.rank_of r) b) _ h in
      let t = words_of f known v b le s p.1 in
      let u = known r v (omega (arith, ltb-true _ _ p.0)) in
      (u.0 ++ t.0, append_derives u.1 t.1)
  words_of f known v b le (Inner r ∷ s) h =
      let p = and_cases (ltb (t.rank_of r) b) _ h in
      let t = words_of f known v b le s p.1 in
      let u = known r (next_level v) (omega (arith, ltb-true _ _ p.0)) in
      (u.0 ++ t.0, append_derives u.1 t.1)

  abbrev stack_cost : List (Symbol T Leveled) → ℕ
  stack_cost = look.stack_cost t.grammar (tables.sets_of t)

  -- the cost of a row over what costs c
  abbrev row_cost : List (RowSymbol T R) → ℕ → ℕ
  row_cost [] c = c
  row_cost (Token t ∷ s) c = 0
  row_cost (Part r ∷ s) c = if t.nullable_of r then t.cost_of r + row_cost s c else t.cost_of r
  row_cost (Inner r ∷ s) c = if t.nullable_of r then t.cost_of r + row_cost s c else t.cost_of r

  row_cost-is : (v : ℕ) (a : List (RowSymbol T R)) (s : List (Symbol T Leveled)) → stack_cost (row_at v a ++ s) ≡ row_cost a (stack_cost s)
  row_cost-is v [] s = refl
  row_cost-is v (Token t ∷ a) s = refl
  row_cost-is v (Part r ∷ a) s = ap (λ c. if t.nullable_of r then t.cost_of r + c else t.cost_of r) (row_cost-is v a s)
  row_cost-is v (Inner r ∷ a) s = ap (λ c. if t.nullable_of r then t.cost_of r + c else t.cost_of r) (row_cost-is v a s)

  unfoldable pub vanishing : List (RowSymbol T R) → Bool
  vanishing [] = true
  vanishing (Token t ∷ s) = false
  vanishing (Part r ∷ s) = t.nullable_of r && vanishing s
  vanishing (Inner r ∷ s) = t.nullable_of r && vanishing s

  cost_split : (a : List (RowSymbol T R)) (c : ℕ) → row_cost a c ≡ row_cost a 0 + (if vanishing a then c else 0)
  unfolding vanishing
  cost_split [] c = omega arith
  cost_split (Token t ∷ a) c = refl
  cost_split (Part r ∷ a) c = cost_step (t.nullable_of r) (vanishing a) _ _ _ c (cost_split a c)
  cost_split (Inner r ∷ a) c = cost_step (t.nullable_of r) (vanishing a) _ _ _ c (cost_split a c)

  unfoldable pub cheap : R → List (List (RowSymbol T R)) → Bool
  cheap r [] = true
  cheap r (a ∷ more) = ltb (row_cost a 0) (t.cost_of r) && (if vanishing a then t.nullable_of r else true) && cheap r more

  cheap_row : (r : R) (xs : List (List (RowSymbol T R))) → cheap r xs ≡ true → (k : ℕ) (a : List (RowSymbol T R)) → nth xs k ≡ Some a → (row_cost a 0 < t.cost_of r) × (vanishing a ≡ true → t.nullable_of r ≡ true)
  unfolding cheap
  cheap_row r [] h k a e = cc
  cheap_row r (x ∷ more) h zero a e =
      let p = and_cases _ (cheap r more) h in
      let q = and_cases (ltb (row_cost x 0) (t.cost_of r)) _ p.0 in
      let same : x ≡ a = cc in
      subst (λ y. (row_cost y 0 < t.cost_of r) × (vanishing y ≡ true → t.nullable_of r ≡ true)) same (ltb-true _ _ q.0, λ v. subst (λ b. (if b then t.nullable_of r else true) ≡ true) v q.1)
  cheap_row r (x ∷ more) h (suc k) a e = cheap_row r more (and_cases _ (cheap r more) h).1 k a e

  cost_falls : (r : R) (a : List (RowSymbol T R)) (c : ℕ) → row_cost a 0 < t.cost_of r → (vanishing a ≡ true → t.nullable_of r ≡ true) → row_cost a c < (if t.nullable_of r then t.cost_of r + c else t.cost_of r)
  cost_falls r a c lt null = go (vanishing a) (t.nullable_of r) (cost_split a c) null
    where
      go : (v n : Bool) → row_cost a c ≡ row_cost a 0 + (if v then c else 0) → (v ≡ true → n ≡ true) → row_cost a c < (if n then t.cost_of r + c else t.cost_of r)
      go true true e f = omega arith
      go true false e f = let g : false ≡ true = f refl in cc
      go false true e f = omega arith
      go false false e f = omega arith

  -- the test
  unfoldable pub test : ℕ → Bool
  test v = over_looks v && each low_rule t.rules.all && each (λ r. cheap r (alternatives_of r)) t.rules.all && each (λ r. imp (t.grammar.starts r) (follow (r, 1) None)) t.rules.all

  module _ (passed : (v : ℕ) → test v ≡ true) where
    passed_looks : (v : ℕ) → over_looks v ≡ true
    unfolding test
    passed_looks v = (and_cases (over_looks v) _ (and_cases (over_looks v && each low_rule t.rules.all) _ (and_cases (over_looks v && each low_rule t.rules.all && each (λ r. cheap r (alternatives_of r)) t.rules.all) _ (passed v)).0).0).0

    passed_low : each low_rule t.rules.all ≡ true
    unfolding test
    passed_low = (and_cases (over_looks 0) _ (and_cases (over_looks 0 && each low_rule t.rules.all) _ (and_cases (over_looks 0 && each low_rule t.rules.all && each (λ r. cheap r (alternatives_of r)) t.rules.all) _ (passed 0)).0).0).1

    passed_cheap : each (λ r. cheap r (alternatives_of r)) t.rules.all ≡ true
    unfolding test
    passed_cheap = (and_cases (over_looks 0 && each low_rule t.rules.all) _ (and_cases (over_looks 0 && each low_rule t.rules.all && each (λ r. cheap r (alternatives_of r)) t.rules.all) _ (passed 0)).0).1

    passed_ends : each (λ r. imp (t.grammar.starts r) (follow (r, 1) None)) t.rules.all ≡ true
    unfolding test
    passed_ends = (and_cases (over_looks 0 && each low_rule t.rules.all && each (λ r. cheap r (alternatives_of r)) t.rules.all) _ (passed 0)).1

    look_good : (v : ℕ) (l : Option T) → over_rules v l ≡ true
    unfolding over_looks
    look_good v None = (and_cases (over_rules v None) _ (passed_looks v)).0
    look_good v (Some a) = each_coded t.terminals (λ x. over_rules v (Some x)) (and_cases (over_rules v None) _ (passed_looks v)).1 a

    rule_good : (r : R) (v : ℕ) (l : Option T) → all_fine (r, v) l 0 (rows (r, v)) ≡ true
    unfolding over_rules
    rule_good r v l = each_coded t.rules (λ x. all_fine (x, v) l 0 (rows (x, v))) (look_good v l) r

    -- the test at a row
    row_good : (n : Leveled) (α : List (Symbol T Leveled)) (mem : Contains (rows n) α) (l : Option T) → fine n l mem.0 α ≡ true
    row_good n α mem l =
        let e : 0 + mem.0 ≡ mem.0 = omega arith in
        let h : fine n l (0 + mem.0) (get_or (rows n) mem.0 α) ≡ true = fine_each n l 0 (rows n) (rule_good n.0 n.1 l) mem.0 mem.1 α in
        subst (λ x. fine n l x α ≡ true) e (subst (λ x. fine n l (0 + mem.0) x ≡ true) mem.2 h)

    low_row : (r : R) → (s : List (RowSymbol T R)) × (nth (alternatives_of r) (t.shortest_of r) ≡ Some s) × (ltb 0 (t.rank_of r) && all_low (t.rank_of r) s ≡ true)
    unfolding low_rule
    low_row r = low_row_of (t.rank_of r) (nth (alternatives_of r) (t.shortest_of r)) (each_coded t.rules low_rule passed_low r)

    rank_positive : (r : R) → 0 < t.rank_of r
    rank_positive r = let s = low_row r in ltb-true 0 (t.rank_of r) (and_cases (ltb 0 (t.rank_of r)) _ s.2).0

    word_below : (f : ℕ) (r : R) (v : ℕ) → t.rank_of r ≤ f → (w : List T) × Derives rows (Nonterminal (r, v) ∷ []) w
    word_below zero r v le = absurd (omega (arith, rank_positive r))
    word_below (suc f) r v le =
        let s = low_row r in
        let w = words_of f (word_below f) v (t.rank_of r) le s.0 (and_cases (ltb 0 (t.rank_of r)) _ s.2).1 in
        (w.0, row (row_at v s.0) (nth_contains (rows (r, v)) (t.shortest_of r) _ (rows_contains v (alternatives_of r) (t.shortest_of r) s.0 s.1)) (subst (λ x. Derives rows x w.0) (sym (append-nil (row_at v s.0))) w.1))

    cheap_at : (r : R) → cheap r (alternatives_of r) ≡ true
    cheap_at r = each_coded t.rules (λ x. cheap x (alternatives_of x)) passed_cheap r

    falls : (r : R) (v k : ℕ) (a : List (RowSymbol T R)) (s : List (Symbol T Leveled)) → nth (alternatives_of r) k ≡ Some a → stack_cost (row_at v a ++ s) < stack_cost (Nonterminal (r, v) ∷ s)
    falls r v k a s e =
        let p = cheap_row r (alternatives_of r) (cheap_at r) k a e in
        subst (λ x. x < stack_cost (Nonterminal (r, v) ∷ s)) (sym (row_cost-is v a s)) (cost_falls r a (stack_cost s) p.0 p.1)

    pub predictive : IsPredictive t.grammar (tables.sets_of t)
    predictive = record {
      theory = record {
        same = λ a b h. sym (t.terminals.at a a) ∙ ap (λ k. get_or t.terminals.all k a) (eqb-true _ _ h) ∙ t.terminals.at b a;
        self = λ a. eq-eqb _ _ refl;
        starts = λ n α mem l h. (fine_parts n l mem.0 α (row_good n α mem l)).starts h;
        empty = λ n α mem h. (fine_parts n None mem.0 α (row_good n α mem None)).empty h;
        inside = λ n α mem. keeps_of α (follow n) (λ l. (fine_parts n l mem.0 α (row_good n α mem l)).within);
        chosen = λ n α mem l h. ap (nth (rows n)) ((fine_parts n l mem.0 α (row_good n α mem l)).chosen h) ∙ nth_some (rows n) mem.0 α mem.1 mem.2;
        from_rows = λ n l α h. nth_contains (rows n) (picked n.0 l) α h;
        word = λ n. word_below (t.rank_of n.0) n.0 n.1 (omega arith);
      };
      end_follows = λ r h. imp_holds _ _ (each_coded t.rules (λ x. imp (t.grammar.starts x) (follow (x, 1) None)) passed_ends r) h;
      falls = falls;
    }
