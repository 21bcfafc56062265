-- A grammar of rows has the sentences of a printed one where a test that the checker computes says so.
use Rattle.std.proofs.Common.{◌≡◌, ℕ, zero, suc, ◌+◌, ◌*◌, ◌<◌, ◌≤◌, Bool, true, false, Option, Some, None, List, [], ◌∷◌, ◌++◌, length, get_or, refl, sym, ◌∙◌, ap, subst, inl, inr, arith, append-nil, eqb, eqb-true, ltb, ltb-true}
use Rattle.std.proofs.lemmas.List.{length-append}
use Rattle.std.specs.Prelude.{Contains, ◌||◌, ◌&&◌, not, is_some}
use Rattle.widl_predictive.specs.declared.grammar.Symbol.{Symbol as RowSymbol}
use Rattle.widl_predictive.specs.declared.grammar.Symbol.TheVariants.{Token, Part, Inner}
use Rattle.widl_predictive.specs.Derivation.{Symbol, Terminal, Nonterminal, Derives, done, token as derives_token, row}
use Rattle.widl_predictive.specs.Predictive as theory
use Rattle.widl_predictive.specs.Coded.{Coded}
use Rattle.widl_predictive.specs.Grammar as gr
use Rattle.widl_predictive.specs.Grammar.{Leveled}
use Rattle.widl_predictive.specs.Lookahead as look
use Rattle.widl_predictive.specs.Lookahead.{IsPredictive}
use Rattle.widl_predictive.specs.Table.{Table, sets_of}
use Rattle.widl_predictive.specs.Expression.{Expression, token, rule, ◌·◌, ◌∣◌, maybe, many, Spells, one, named, both, left, right, absent, present, stop as no_more, again as one_more}
use Rattle.widl_predictive.proofs.Booleans.{or_cases, and_cases, and_both}
use Rattle.widl_predictive.proofs.Theory
use Rattle.widl_predictive.proofs.Check.{each, each_at, each_coded}
use Rattle.widl_predictive.proofs.Alternatives as alt
use Rattle.widl_predictive.proofs.Alternatives.{alternatives, products, all_unrolled, Repeats, stop, again, repeats_map}

-- how the rules of rows and the printed rules lie together
pub record Comparison (T R P : Type 0) : Type 0 where
  pub printed : P → Expression T P
  pub names : Coded P
  -- the rule that stands for what the printed rule does; with none the printed rule is put in place of its name
  pub rule_of : P → Option R
  -- the printed rule that the rule stands for, or else the part of printed rules that it stands for
  pub prints : R → Option P
  pub part : R → Expression T P
  -- a rule with a part is below those in whose rows it stands where nothing before it takes a token
  pub rank : R → ℕ

same_code : {X : Type 0} (c : Coded X) (x y : X) → eqb (c.code x) (c.code y) ≡ true → x ≡ y
same_code c x y h = sym (c.at x x) ∙ ap (λ k. get_or c.all k x) (eqb-true _ _ h) ∙ c.at y x

module _ {T R P : Type 0} (t : Table T R) (c : Comparison T R P) where
  abbrev rows : Leveled R → List (List (Symbol T (Leveled R)))
  rows = gr.rows t.grammar

  -- printed rules without a rule of their own are put in place of their names
  abbrev pub in_place : P → Option R → Expression T P
  in_place p None = c.printed p
  in_place p (Some r) = rule p

  abbrev pub expanded : Expression T P → Expression T P
  expanded (token a) = token a
  expanded (rule p) = in_place p (c.rule_of p)
  expanded (e · f) = expanded e · expanded f
  expanded (e ∣ f) = expanded e ∣ expanded f
  expanded (maybe e) = maybe (expanded e)
  expanded (many e) = many (expanded e)

  abbrev pub meaning_by : Option P → Expression T P → Expression T P
  meaning_by None e = e
  meaning_by (Some p) e = rule p

  abbrev pub definition_by : Option P → Expression T P → Expression T P
  definition_by None e = e
  definition_by (Some p) e = expanded (c.printed p)

  -- what a rule stands for by its name, and what it stands for by its rows
  abbrev pub meaning : R → Expression T P
  meaning r = meaning_by (c.prints r) (c.part r)

  abbrev pub definition : R → Expression T P
  definition r = definition_by (c.prints r) (c.part r)

  abbrev pub row_meaning : List (RowSymbol T R) → List (Expression T P)
  row_meaning [] = []
  row_meaning (Token a ∷ s) = token a ∷ row_meaning s
  row_meaning (Part r ∷ s) = meaning r ∷ row_meaning s
  row_meaning (Inner r ∷ s) = meaning r ∷ row_meaning s

  abbrev pub row_alternatives : List (Expression T P) → List (List (Expression T P))
  row_alternatives [] = [] ∷ []
  row_alternatives (e ∷ x) = products (alternatives e) (row_alternatives x)

  abbrev pub rows_alternatives : List (List (RowSymbol T R)) → List (List (Expression T P))
  rows_alternatives [] = []
  rows_alternatives (a ∷ more) = row_alternatives (row_meaning a) ++ rows_alternatives more

  -- the tests
  abbrev pub same_token : T → T → Bool
  same_token a b = eqb (t.terminals.code a) (t.terminals.code b)

  abbrev pub same_name : P → P → Bool
  same_name p q = eqb (c.names.code p) (c.names.code q)

  unfoldable pub by_rows : R → List (List (Expression T P))
  by_rows r = all_unrolled (rows_alternatives (t.grammar.rows r))

  unfoldable pub by_print : R → List (List (Expression T P))
  by_print r = all_unrolled (alternatives (definition r))

  unfoldable pub rows_covered : R → Bool
  rows_covered r = alt.covered same_token same_name (by_rows r) (by_print r)

  unfoldable pub print_covered : R → Bool
  print_covered r = alt.covered same_token same_name (by_print r) (by_rows r)

  unfoldable pub is_rule : R → Option R → Bool
  is_rule r None = false
  is_rule r (Some n) = eqb (t.rules.code n) (t.rules.code r)

  unfoldable pub is_name : P → Option P → Bool
  is_name p None = false
  is_name p (Some q) = same_name q p

  unfoldable pub names_back : R → Option P → Bool
  names_back r None = true
  names_back r (Some p) = is_rule r (c.rule_of p)

  unfoldable pub ruled : P → Option R → Bool
  ruled p None = alt.same same_token same_name (expanded (c.printed p)) (c.printed p)
  ruled p (Some r) = is_name p (c.prints r)

  -- a rule with a part stands in a row only below the row's rule, or behind what takes a token
  unfoldable pub low_row : ℕ → Bool → List (RowSymbol T R) → Bool
  low_row k taken [] = true
  low_row k taken (Token a ∷ s) = low_row k true s
  low_row k taken (Part r ∷ s) = (is_some (c.prints r) || (taken || ltb (c.rank r) k)) && low_row k (taken || not (t.nullable_of r)) s
  low_row k taken (Inner r ∷ s) = (is_some (c.prints r) || (taken || ltb (c.rank r) k)) && low_row k (taken || not (t.nullable_of r)) s

  unfoldable pub all_low_rows : R → Bool
  all_low_rows r = ltb (c.rank r) 16 && each (low_row (c.rank r) false) (t.grammar.rows r)

  pub record Passed : Type 0 where
    pub rows_test : each rows_covered t.rules.all ≡ true
    pub print_test : each print_covered t.rules.all ≡ true
    pub names_test : each (λ r. names_back r (c.prints r)) t.rules.all ≡ true
    pub ruled_test : each (λ p. ruled p (c.rule_of p)) c.names.all ≡ true
    pub low_test : each all_low_rows t.rules.all ≡ true

  module _ (passed : Passed) where
    token_holds : (a b : T) → same_token a b ≡ true → a ≡ b
    token_holds a b h = same_code t.terminals a b h

    name_holds : (p q : P) → same_name p q ≡ true → p ≡ q
    name_holds p q h = same_code c.names p q h

    module _ (D : P → List T → Type 0) where
      row_to : (x : List (Expression T P)) (w : List T) → alt.All D x w → alt.Among D (row_alternatives x) w
      row_to [] w h = inl h
      row_to (e ∷ x) w h = subst (alt.Among D (products (alternatives e) (row_alternatives x))) (sym h.4) (alt.products_to D (alternatives e) (row_alternatives x) h.0 h.1 (alt.alternatives_to D e h.0 h.2) (row_to x h.1 h.3))

      row_from : (x : List (Expression T P)) (w : List T) → alt.Among D (row_alternatives x) w → alt.All D x w
      row_from [] w h = elim h [ inl a ↦ a | inr b ↦ absurd b ]
      row_from (e ∷ x) w h = let s = alt.products_from D (alternatives e) (row_alternatives x) w h in (s.0, s.1, alt.alternatives_from D e s.0 s.2, row_from x s.1 s.3, s.4)

      -- some row stands for the tokens
      abbrev pub SomeRow : List (List (RowSymbol T R)) → List T → Type 0
      SomeRow xs w = (a : List (RowSymbol T R)) × Contains xs a × alt.All D (row_meaning a) w

      there : (b : List (RowSymbol T R)) (xs : List (List (RowSymbol T R))) (a : List (RowSymbol T R)) → Contains xs a → Contains (b ∷ xs) a
      there b xs a m = (suc m.0, omega (arith, m.1), m.2)

      rows_from : (xs : List (List (RowSymbol T R))) (w : List T) → alt.Among D (rows_alternatives xs) w → SomeRow xs w
      rows_from [] w h = absurd h
      rows_from (b ∷ xs) w h = elim (alt.among_cases D (row_alternatives (row_meaning b)) (rows_alternatives xs) w h) [
        | inl x ↦ (b, (0, omega arith, refl), row_from (row_meaning b) w x)
        | inr y ↦ let s = rows_from xs w y in (s.0, there b xs s.0 s.1, s.2)
      ]

      pub definition_row : (r : R) (w : List T) → alt.Denotes D (definition r) w → SomeRow (t.grammar.rows r) w
      unfolding by_rows by_print print_covered
      definition_row r w h =
          let full = alt.all_unrolled_to D (alternatives (definition r)) w (alt.alternatives_to D (definition r) w h) in
          let test = each_coded t.rules print_covered passed.print_test r in
          rows_from (t.grammar.rows r) w (alt.all_unrolled_from D (rows_alternatives (t.grammar.rows r)) w (alt.covered_holds same_token same_name token_holds name_holds D (by_print r) (by_rows r) test w full))

      pub row_definition : (r : R) (w : List T) → alt.Among D (rows_alternatives (t.grammar.rows r)) w → alt.Denotes D (definition r) w
      unfolding by_rows by_print rows_covered
      row_definition r w h =
          let full = alt.all_unrolled_to D (rows_alternatives (t.grammar.rows r)) w h in
          let test = each_coded t.rules rows_covered passed.rows_test r in
          alt.alternatives_from D (definition r) w (alt.all_unrolled_from D (alternatives (definition r)) w (alt.covered_holds same_token same_name token_holds name_holds D (by_rows r) (by_print r) test w full))

    -- from rows to the printed grammar
    abbrev Printed : P → List T → Type 0
    Printed p w = Spells c.printed (rule p) w

    repeats_spell : (e : Expression T P) → ((u : List T) → alt.Denotes Printed e u → Spells c.printed e u) → {w : List T} → Repeats (alt.Denotes Printed e) w → Spells c.printed (many e) w
    repeats_spell e f (stop z) = subst (Spells c.printed (many e)) (sym z) no_more
    repeats_spell e f (again u v a r q) = one_more u v (f u a) (repeats_spell e f r) q

    to_spells : (e : Expression T P) (w : List T) → alt.Denotes Printed e w → Spells c.printed e w
    to_spells (token a) w h = subst (Spells c.printed (token a)) (sym h) one
    to_spells (rule p) w h = h
    to_spells (e · f) w h = both h.0 h.1 (to_spells e h.0 h.2) (to_spells f h.1 h.3) h.4
    to_spells (e ∣ f) w h = elim h [ inl a ↦ left (to_spells e w a) | inr b ↦ right (to_spells f w b) ]
    to_spells (maybe e) w h = elim h [ inl a ↦ subst (Spells c.printed (maybe e)) (sym a) absent | inr b ↦ present (to_spells e w b) ]
    to_spells (many e) w h = repeats_spell e (λ u. to_spells e u) h

    unplaced : (p : P) (o : Option R) (w : List T) → alt.Denotes Printed (in_place p o) w → Spells c.printed (rule p) w
    unplaced p None w h = named (to_spells (c.printed p) w h)
    unplaced p (Some r) w h = h

    unexpanded : (e : Expression T P) (w : List T) → alt.Denotes Printed (expanded e) w → alt.Denotes Printed e w
    unexpanded (token a) w h = h
    unexpanded (rule p) w h = unplaced p (c.rule_of p) w h
    unexpanded (e · f) w h = (h.0, h.1, unexpanded e h.0 h.2, unexpanded f h.1 h.3, h.4)
    unexpanded (e ∣ f) w h = elim h [ inl a ↦ inl (unexpanded e w a) | inr b ↦ inr (unexpanded f w b) ]
    unexpanded (maybe e) w h = elim h [ inl a ↦ inl a | inr b ↦ inr (unexpanded e w b) ]
    unexpanded (many e) w h = repeats_map (alt.Denotes Printed (expanded e)) (alt.Denotes Printed e) (λ u. unexpanded e u) h

    defined : (o : Option P) (e : Expression T P) (w : List T) → alt.Denotes Printed (definition_by o e) w → alt.Denotes Printed (meaning_by o e) w
    defined None e w h = h
    defined (Some p) e w h = named (to_spells (c.printed p) w (unexpanded (c.printed p) w h))

    abbrev meanings : List (Symbol T (Leveled R)) → List (Expression T P)
    meanings [] = []
    meanings (Terminal a ∷ s) = token a ∷ meanings s
    meanings (Nonterminal n ∷ s) = meaning n.0 ∷ meanings s

    meanings-append : (a s : List (Symbol T (Leveled R))) → meanings (a ++ s) ≡ meanings a ++ meanings s
    meanings-append [] s = refl
    meanings-append (Terminal x ∷ a) s = ap (λ y. token x ∷ y) (meanings-append a s)
    meanings-append (Nonterminal n ∷ a) s = ap (λ y. meaning n.0 ∷ y) (meanings-append a s)

    meanings_row : (v : ℕ) (a : List (RowSymbol T R)) → meanings (gr.row_at t.grammar v a) ≡ row_meaning a
    meanings_row v [] = refl
    meanings_row v (Token x ∷ a) = ap (λ y. token x ∷ y) (meanings_row v a)
    meanings_row v (Part r ∷ a) = ap (λ y. meaning r ∷ y) (meanings_row v a)
    meanings_row v (Inner r ∷ a) = ap (λ y. meaning r ∷ y) (meanings_row v a)

    rows_to : (v : ℕ) (xs : List (List (RowSymbol T R))) (α : List (Symbol T (Leveled R))) (w : List T) (i : ℕ) → i < length (gr.rows_at t.grammar v xs) → get_or (gr.rows_at t.grammar v xs) i α ≡ α → alt.All Printed (meanings α) w → alt.Among Printed (rows_alternatives xs) w
    rows_to v [] α w i lt e h = absurd (omega arith)
    rows_to v (a ∷ xs) α w zero lt e h = alt.among_left Printed (row_alternatives (row_meaning a)) (rows_alternatives xs) w (row_to Printed (row_meaning a) w (subst (λ x. alt.All Printed x w) (ap meanings (sym e) ∙ meanings_row v a) h))
    rows_to v (a ∷ xs) α w (suc i) lt e h = alt.among_right Printed (row_alternatives (row_meaning a)) (rows_alternatives xs) w (rows_to v xs α w i (omega arith) e h)

    derived : {s : List (Symbol T (Leveled R))} {w : List T} → Derives rows s w → alt.All Printed (meanings s) w
    derived done = refl
    derived (derives_token {a} {w} d) = (a ∷ [], w, refl, derived d, refl)
    derived (row {n} {s} {w} α mem d) =
        let x = alt.all_split Printed (meanings α) (meanings s) w (subst (λ y. alt.All Printed y w) (meanings-append α s) (derived d)) in
        let m = rows_to n.1 (t.grammar.rows n.0) α x.0 mem.0 mem.1 mem.2 x.2 in
        (x.0, x.1, defined (c.prints n.0) (c.part n.0) x.0 (row_definition Printed n.0 x.0 m), x.3, x.4)

    -- each sentence of the rows is one of the printed grammar
    pub sentence_spelled : (r : R) (p : P) → c.prints r ≡ None → c.part r ≡ c.printed p → (w : List T) → gr.Sentence t.grammar r w → Spells c.printed (rule p) w
    sentence_spelled r p none is w d =
        let x = derived d in
        let whole : w ≡ x.0 = x.4 ∙ ap (λ y. x.0 ++ y) x.3 ∙ append-nil x.0 in
        let by_part : alt.Denotes Printed (c.part r) x.0 = subst (λ o. alt.Denotes Printed (meaning_by o (c.part r)) x.0) none x.2 in
        subst (Spells c.printed (rule p)) (sym whole) (named (to_spells (c.printed p) x.0 (subst (λ e. alt.Denotes Printed e x.0) is by_part)))

    -- from the printed grammar to rows
    module _ (owed : IsPredictive t.grammar (sets_of t)) where
      abbrev DerivesAlone : R → ℕ → List T → Type 0
      DerivesAlone r v w = Derives rows (Nonterminal (r, v) ∷ []) w

      abbrev derived_by : Option R → List T → Type 0
      derived_by None w = ⊥
      derived_by (Some r) w = (v : ℕ) → DerivesAlone r v w

      abbrev Derived : P → List T → Type 0
      Derived p w = derived_by (c.rule_of p) w

      abbrev nullable : Leveled R → Bool
      nullable = look.nullable t.grammar (sets_of t)

      abbrev first : Leveled R → Option T → Bool
      first = look.first t.grammar (sets_of t)

      abbrev vanishes : List (Symbol T (Leveled R)) → Bool
      vanishes = theory.vanishes (sets_of t).is nullable first

      vanishes_parts : (a s : List (Symbol T (Leveled R))) → vanishes (a ++ s) ≡ true → (vanishes a ≡ true) × (vanishes s ≡ true)
      vanishes_parts [] s h = (refl, h)
      vanishes_parts (Terminal x ∷ a) s h = cc
      vanishes_parts (Nonterminal n ∷ a) s h =
          let p = and_cases (nullable n) _ h in
          let q = vanishes_parts a s p.1 in
          (and_both (nullable n) _ p.0 q.0, q.1)

      -- what derives no token vanishes
      derives_none : {s : List (Symbol T (Leveled R))} {w : List T} → Derives rows s w → w ≡ [] → vanishes s ≡ true
      derives_none done e = refl
      derives_none (derives_token d) e = cc
      derives_none (row {n} {s} α mem d) e =
          let p = vanishes_parts α s (derives_none d e) in
          and_both (nullable n) _ (owed.theory.empty n α mem p.0) p.1

      some_token : (r : R) (v : ℕ) (u : List T) → DerivesAlone r v u → t.nullable_of r ≡ false → 0 < length u
      some_token r v [] d h = let p = and_cases (t.nullable_of r) true (derives_none d refl) in let q : t.nullable_of r ≡ true = p.0 in cc
      some_token r v (x ∷ u) d h = omega arith

      by_rule : (r : R) (o : Option R) (u : List T) → is_rule r o ≡ true → derived_by o u → (v : ℕ) → DerivesAlone r v u
      unfolding is_rule
      by_rule r None u h d v = cc
      by_rule r (Some n) u h d v = subst (λ x. DerivesAlone x v u) (same_code t.rules n r h) (d v)

      by_meaning : (r : R) (u : List T) (o : Option P) → names_back r o ≡ true → (o ≡ None → alt.Denotes Derived (c.part r) u → (v : ℕ) → DerivesAlone r v u) → alt.Denotes Derived (meaning_by o (c.part r)) u → (v : ℕ) → DerivesAlone r v u
      unfolding names_back
      by_meaning r u None h known d v = known refl d v
      by_meaning r u (Some p) h known d v = by_rule r (c.rule_of p) u h d v

      rank_small : (r : R) → c.rank r < 16
      unfolding all_low_rows
      rank_small r = ltb-true _ _ (and_cases (ltb (c.rank r) 16) _ (each_coded t.rules all_low_rows passed.low_test r)).0

      low_rows : (r : R) (a : List (RowSymbol T R)) → Contains (t.grammar.rows r) a → low_row (c.rank r) false a ≡ true
      unfolding all_low_rows
      low_rows r a mem =
          let p = and_cases (ltb (c.rank r) 16) (each (low_row (c.rank r) false) (t.grammar.rows r)) (each_coded t.rules all_low_rows passed.low_test r) in
          subst (λ x. low_row (c.rank r) false x ≡ true) mem.2 (each_at (low_row (c.rank r) false) (t.grammar.rows r) p.1 mem.0 mem.1 a)

      none_low : (o : Option P) (x : Bool) → o ≡ None → (is_some o || x) ≡ true → x ≡ true
      none_low None x e h = h
      none_low (Some p) x e h = cc

      not_true : (b : Bool) → not b ≡ true → b ≡ false
      not_true true e = cc
      not_true false e = refl

      -- the work that is left where a rule with a part of a text is to be derived
      abbrev work : R → List T → ℕ
      work r u = 16 * length u + c.rank r

      module _ (f : ℕ) (known : (r : R) (u : List T) → work r u < f → alt.Denotes Derived (definition r) u → (v : ℕ) → DerivesAlone r v u) (k n : ℕ) (all_work : 16 * n + k ≤ f) where
        -- what is left of a row, behind what took a token or not
        abbrev Left : Bool → List T → Type 0
        Left taken w = (length w ≤ n) × (taken ≡ true → length w < n)

        small_work : (r : R) (taken : Bool) (u z w : List T) → Left taken w → w ≡ u ++ z → (taken || ltb (c.rank r) k) ≡ true → work r u < f
        small_work r taken u z w in_row q h =
            let lengths : length w ≡ length u + length z = ap length q ∙ length-append u z in
            let rank_is = rank_small r in
            elim (or_cases taken (ltb (c.rank r) k) h) [
              | inl took ↦ let less : length w < n = in_row.1 took in omega (arith, lengths, rank_is, all_work)
              | inr low ↦ let less : c.rank r < k = ltb-true _ _ low in let le : length w ≤ n = in_row.0 in omega (arith, lengths, all_work)
            ]

        part_derived : (r : R) (taken : Bool) (u z w : List T) → Left taken w → w ≡ u ++ z → (is_some (c.prints r) || (taken || ltb (c.rank r) k)) ≡ true → alt.Denotes Derived (meaning r) u → (v : ℕ) → DerivesAlone r v u
        part_derived r taken u z w in_row q low d v =
            let back = each_coded t.rules (λ x. names_back x (c.prints x)) passed.names_test r in
            by_meaning r u (c.prints r) back
            (λ none by_part. known r u (small_work r taken u z w in_row q (none_low (c.prints r) _ none low)) (subst (λ o. alt.Denotes Derived (definition_by o (c.part r)) u) (sym none) by_part))
            d v

        left_behind : (r : R) (taken : Bool) (u z w : List T) → Left taken w → w ≡ u ++ z → (v : ℕ) → DerivesAlone r v u → Left (taken || not (t.nullable_of r)) z
        left_behind r taken u z w in_row q v d =
            let lengths : length w ≡ length u + length z = ap length q ∙ length-append u z in
            let le : length w ≤ n = in_row.0 in (
              omega (arith, lengths),
              λ h. elim (or_cases taken (not (t.nullable_of r)) h) [
                | inl took ↦ let less : length w < n = in_row.1 took in omega (arith, lengths)
                | inr solid ↦ let some : 0 < length u = some_token r v u d (not_true (t.nullable_of r) solid) in omega (arith, lengths)
              ],
            )

        part_step : (r : R) (taken : Bool) (v : ℕ) (a : List (RowSymbol T R)) (s : List (Symbol T (Leveled R))) (w : List T) → ((more : Bool) (z : List T) → low_row k more a ≡ true → Left more z → alt.All Derived (row_meaning a) z → Derives rows s z) → (is_some (c.prints r) || (taken || ltb (c.rank r) k)) ≡ true → low_row k (taken || not (t.nullable_of r)) a ≡ true → Left taken w → alt.All Derived (meaning r ∷ row_meaning a) w → Derives rows (Nonterminal (r, v) ∷ s) w
        part_step r taken v a s w rest low low_rest in_row h =
            let d = part_derived r taken h.0 h.1 w in_row h.4 low h.2 v in
            let e = rest (taken || not (t.nullable_of r)) h.1 low_rest (left_behind r taken h.0 h.1 w in_row h.4 v d) h.3 in
            subst (Derives rows (Nonterminal (r, v) ∷ s)) (sym h.4) (Theory.derives_append d e)

        build : (v : ℕ) (taken : Bool) (a : List (RowSymbol T R)) (w : List T) → low_row k taken a ≡ true → Left taken w → alt.All Derived (row_meaning a) w → Derives rows (gr.row_at t.grammar v a) w
        unfolding low_row
        build v taken [] w low in_row h = subst (Derives rows []) (sym h) done
        build v taken (Token x ∷ a) w low in_row h =
            let whole : w ≡ x ∷ h.1 = h.4 ∙ ap (λ y. y ++ h.1) h.2 in
            let lengths : length w ≡ suc (length h.1) = ap length whole in
            let le : length w ≤ n = in_row.0 in
            subst (Derives rows (Terminal x ∷ gr.row_at t.grammar v a)) (sym whole) (derives_token (build v true a h.1 low (omega (arith, lengths), λ y. omega (arith, lengths)) h.3))
        build v taken (Part r ∷ a) w low in_row h =
            let p = and_cases (is_some (c.prints r) || (taken || ltb (c.rank r) k)) _ low in
            part_step r taken v a (gr.row_at t.grammar v a) w (λ more z. build v more a z) p.0 p.1 in_row h
        build v taken (Inner r ∷ a) w low in_row h =
            let p = and_cases (is_some (c.prints r) || (taken || ltb (c.rank r) k)) _ low in
            part_step r taken (gr.next_level t.grammar.deep_level v) a (gr.row_at t.grammar v a) w (λ more z. build v more a z) p.0 p.1 in_row h

      rows_at_contains : (v : ℕ) (xs : List (List (RowSymbol T R))) (a : List (RowSymbol T R)) (i : ℕ) → i < length xs → get_or xs i a ≡ a → Contains (gr.rows_at t.grammar v xs) (gr.row_at t.grammar v a)
      rows_at_contains v [] a i lt e = absurd (omega arith)
      rows_at_contains v (b ∷ xs) a zero lt e = (0, omega arith, ap (gr.row_at t.grammar v) e)
      rows_at_contains v (b ∷ xs) a (suc i) lt e = let m = rows_at_contains v xs a i (omega arith) e in (suc m.0, omega (arith, m.1), m.2)

      -- what a rule stands for its rows derive
      complete : (f : ℕ) (r : R) (w : List T) → work r w < f → alt.Denotes Derived (definition r) w → (v : ℕ) → DerivesAlone r v w
      complete zero r w lt h v = absurd (omega arith)
      complete (suc f) r w lt h v =
          let s = definition_row Derived r w h in
          let x = build f (complete f) (c.rank r) (length w) (omega (arith, lt)) v false s.0 w (low_rows r s.0 s.1) (omega arith, λ e. cc) s.2 in
          row (gr.row_at t.grammar v s.0) (rows_at_contains v (t.grammar.rows r) s.0 s.1.0 s.1.1 s.1.2) (subst (λ y. Derives rows y w) (sym (append-nil (gr.row_at t.grammar v s.0))) x)

      completed : (r : R) (w : List T) → alt.Denotes Derived (definition r) w → (v : ℕ) → DerivesAlone r v w
      completed r w h v = complete (suc (work r w)) r w (omega arith) h v

      name_is : (p : P) (o : Option P) → is_name p o ≡ true → o ≡ Some p
      unfolding is_name
      name_is p None h = cc
      name_is p (Some q) h = ap Some (name_holds q p h)

      placed : (p : P) (w : List T) (o : Option R) → c.rule_of p ≡ o → ruled p o ≡ true → alt.Denotes Derived (expanded (c.printed p)) w → alt.Denotes Derived (in_place p o) w
      unfolding ruled
      placed p w None e h d = subst (λ x. alt.Denotes Derived x w) (alt.same_holds same_token same_name token_holds name_holds (expanded (c.printed p)) (c.printed p) h) d
      placed p w (Some r) e h d =
          let named_so = name_is p (c.prints r) h in
          let by_definition : alt.Denotes Derived (definition r) w = subst (λ o. alt.Denotes Derived (definition_by o (c.part r)) w) (sym named_so) d in
          subst (λ o. derived_by o w) (sym e) (λ v. completed r w by_definition v)

      from_spells : {e : Expression T P} {w : List T} → Spells c.printed e w → alt.Denotes Derived (expanded e) w
      from_spells one = refl
      from_spells (named {p} {w} d) = placed p w (c.rule_of p) refl (each_coded c.names (λ x. ruled x (c.rule_of x)) passed.ruled_test p) (from_spells d)
      from_spells (both u v a b q) = (u, v, from_spells a, from_spells b, q)
      from_spells (left d) = inl (from_spells d)
      from_spells (right d) = inr (from_spells d)
      from_spells absent = inl refl
      from_spells (present d) = inr (from_spells d)
      from_spells no_more = stop refl
      from_spells (one_more u v a r q) = again u v (from_spells a) (from_spells r) q

      -- each sentence of the printed grammar is one of the rows
      pub spelled_sentence : (r : R) (p : P) → c.prints r ≡ None → c.part r ≡ c.printed p → c.rule_of p ≡ None → (w : List T) → Spells c.printed (rule p) w → gr.Sentence t.grammar r w
      spelled_sentence r p none is unruled w d =
          let by_print : alt.Denotes Derived (c.printed p) w = subst (λ o. alt.Denotes Derived (in_place p o) w) unruled (from_spells d) in
          let by_part : alt.Denotes Derived (c.part r) w = subst (λ e. alt.Denotes Derived e w) (sym is) by_print in
          completed r w (subst (λ o. alt.Denotes Derived (definition_by o (c.part r)) w) (sym none) by_part) 1
