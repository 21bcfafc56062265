-- Parts of the grammar are read one after the other.
use Rattle.std.proofs.Common.{◌≡◌, ℕ, zero, suc, ◌+◌, ◌<◌, ◌≤◌, Bool, true, false, Option, Some, None, List, [], ◌∷◌, ◌++◌, length, drop, nat_eq, refl, sym, ◌∙◌, ap, subst, arith, inl, inr, append_assoc, eqb-true, leb-true}
use Rattle.std.specs.Prelude.{Result, Ok, Err, IfOk, OnOk, map, ◌||◌, ◌&&◌, nat_le, ◌⊎◌}
use Rattle.widl_predictive.specs.declared.grammar.Symbol.{Symbol as RowSymbol}
use Rattle.widl_predictive.specs.declared.grammar.Symbol.TheVariants.{Token, Part, Inner}
use Rattle.widl_predictive.specs.Derivation.{Symbol, Terminal as Term, Nonterminal}
use Rattle.widl_predictive.specs.Predictive.{ahead}
use Rattle.widl_predictive.specs.Lookahead.{choice, nth}
use Rattle.widl_predictive.specs.Runs as runs
use Rattle.widl_predictive.specs.Runs.{plain}
use Rattle.widl_predictive.proofs.Inversion.{runs_over, runs_terminal, runs_nonterminal}
use Rattle.widl_predictive.proofs.Check.{each, each_coded}
use Rattle.widl_predictive.proofs.Booleans.{or_cases, and_cases, and_both}
use Rattle.widl_lines.specs.declared.grammar.Rule.{Rule}
use Rattle.widl_lines.specs.declared.grammar.Terminal.{Terminal}
use Rattle.widl_lines.specs.declared.grammar.Terminal.TheVariants.{Unknown}
use Rattle.widl_lines.specs.declared.words.Word.{Word}
use Rattle.widl_lines.specs.TerminalNumbers.{all_terminals, terminals}
use Rattle.widl_lines.specs.Grammar.{grammar, rows_of}
use Rattle.widl_lines.specs.Tables.{sets}
use Rattle.widl_lines.specs.Words.{Lexeme}
use Rattle.widl_lines.specs.WordTerms.{lexeme_of}
use Rattle.widl_script_words.specs.Signs.{Sign, Is, Stands, Spells, SpellsLine, word, ◌⧺◌}
use Rattle.widl_script_words.specs.Reading.{Symbols, token, part, terminal_of, Runs, Reads, Never, terminal_ahead, IfAhead}

-- the words from the next one on
pub one_further : (words : List Word) (k : ℕ) → map lexeme_of (drop (k + 1) words) ≡ drop 1 (map lexeme_of (drop k words))
one_further [] zero = refl
one_further [] (suc k) = let e : suc k + 1 ≡ suc (k + 1) = omega arith in ap (λ n. map lexeme_of (drop {A = Word} n [])) e
one_further (w ∷ words) zero = refl
one_further (w ∷ words) (suc k) = let e : suc k + 1 ≡ suc (k + 1) = omega arith in ap (λ n. map lexeme_of (drop n (w ∷ words))) e ∙ one_further words k

abbrev pub Row : Type 0
Row = List (RowSymbol Terminal Rule)

pub part_first : {r : Rule} {z : Symbols} {w : List Terminal} → runs.Runs grammar sets (Nonterminal r ∷ z) w → (α : Row) × (choice grammar sets r (ahead w) ≡ Some α) × runs.Runs grammar sets (plain α ++ z) w
part_first d = runs_nonterminal grammar sets d

-- a word of the terminal comes first
pub record First (a : Terminal) (z : Symbols) (from : List Lexeme) : Type 0 where
  pub lexeme : Lexeme
  pub rest : List Lexeme
  pub is : from ≡ lexeme ∷ rest
  pub terminal : lexeme.terminal ≡ a
  pub runs : Runs z rest

pub first_of_token : (a : Terminal) (z : Symbols) (from : List Lexeme) → Runs (Term a ∷ z) from → First a z from
first_of_token a z [] d = let i = runs_terminal grammar sets d in absurd (let e : [] ≡ a ∷ i.0 = i.1 in cc)
first_of_token a z (l ∷ v) d =
    let i = runs_terminal grammar sets d in
    let same : map terminal_of v ≡ i.0 = cc in
    record { lexeme = l; rest = v; is = refl; terminal = cc; runs = subst (runs.Runs grammar sets z) (sym same) i.2 }

pub spells_append : (x y : List Sign) (from mid to : List Lexeme) → Spells x from mid → Spells y mid to → Spells (x ++ y) from to
spells_append [] y from mid to e h = subst (λ u. Spells y u to) (sym e) h
spells_append (s ∷ x) y from mid to e h = (e.0, e.1, e.2, e.3, spells_append x y e.1 mid to e.4 h)

-- one after another
pub follow : {a b c : Symbols} {x y : List Sign} {from mid to : List Lexeme} → Reads a b x from mid → Reads b c y mid to → Reads a c (x ++ y) from to
follow {x} {y} {from} {mid} {to} f g = record {
  reads = λ z d. let one = f.reads z d in let two = g.reads z one.1 in (spells_append x y from mid to one.0 two.0, two.1);
}

-- with other symbols to come
pub before : {a b : Symbols} {x : List Sign} {from to : List Lexeme} (c : Symbols) → Reads a b x from to → Reads (a ++ c) (b ++ c) x from to
before {a} {b} {x} {from} {to} c f = record {
  reads = λ z d.
      let r = f.reads (c ++ z) (subst (λ s. Runs s from) (append_assoc a c z) d) in
      (r.0, subst (λ s. Runs s to) (sym (append_assoc b c z)) r.1);
}

pub nothing : {a : Symbols} {from : List Lexeme} → Reads a a [] from from
nothing = record { reads = λ z d. (refl, d) }

pub of_signs : {a b : Symbols} {x y : List Sign} {from to : List Lexeme} → y ≡ x → Reads a b x from to → Reads a b y from to
of_signs {a} {b} {x} {y} {from} {to} e f = subst (λ s. Reads a b s from to) (sym e) f

pub to_same : {a b : Symbols} {x : List Sign} {from to mid : List Lexeme} → mid ≡ to → Reads a b x from to → Reads a b x from mid
to_same {a} {b} {x} {from} e f = subst (λ s. Reads a b x from s) (sym e) f

-- a word, by a sign that stands for each word of the terminal there
pub took_as : (a : Terminal) (b : Symbols) (x : Sign) {from to : List Lexeme} → to ≡ drop 1 from → IfAhead from (λ w. w.terminal ≡ a → Stands x w) → Reads (Term a ∷ b) b (x ∷ []) from to
took_as a b x {from} {to} e s = record {
  reads = λ z d.
      let f = first_of_token a (b ++ z) from d in
      let behind : to ≡ f.rest = e ∙ ap (drop 1) f.is in
      let stands : Stands x f.lexeme = subst (λ u. IfAhead u (λ w. w.terminal ≡ a → Stands x w)) f.is s f.terminal in
      ((f.lexeme, f.rest, f.is, stands, sym behind), subst (Runs (b ++ z)) (sym behind) f.runs);
}

each_ahead : (from : List Lexeme) (P : Lexeme → Type 0) → ((w : Lexeme) → P w) → IfAhead from P
each_ahead [] P f = tt
each_ahead (w ∷ words) P f = f w

-- a word by its terminal
pub took : (a : Terminal) (b : Symbols) {from to : List Lexeme} → to ≡ drop 1 from → Reads (Term a ∷ b) b (word a) from to
took a b {from} e = took_as a b (Is a) e (each_ahead from (λ w. w.terminal ≡ a → Stands (Is a) w) (λ w h. h))

abbrev pub is_unknown : Terminal → Bool
is_unknown Unknown = true
is_unknown _ = false

pub ahead_is : (a : Terminal) (from : List Lexeme) → is_unknown a ≡ false → terminal_ahead from ≡ a → ahead (map terminal_of from) ≡ Some a
ahead_is a [] other e = let h : is_unknown Unknown ≡ false = subst (λ u. is_unknown u ≡ false) (sym e) other in cc
ahead_is a (w ∷ words) other e = ap Some e

row_read : (r : Rule) (α : Row) {b c : Symbols} {x : List Sign} {from to : List Lexeme} → choice grammar sets r (ahead (map terminal_of from)) ≡ Some α → Reads (plain α ++ b) c x from to → Reads (Nonterminal r ∷ b) c x from to
row_read r α {b} {c} {x} {from} {to} e f = record {
  reads = λ z d.
      let p = part_first d in
      let same : p.0 ≡ α = cc in
      f.reads z (subst (λ s. Runs s from) (sym (append_assoc (plain α) b z)) (subst (λ row. Runs (plain row ++ (b ++ z)) from) same p.2));
}

-- a rule whose row is known by the terminal ahead
pub by_row : (r : Rule) (a : Terminal) {α : Row} {b c : Symbols} {x : List Sign} {from to : List Lexeme} → terminal_ahead from ≡ a → is_unknown a ≡ false → choice grammar sets r (Some a) ≡ Some α → Reads (plain α ++ b) c x from to → Reads (Nonterminal r ∷ b) c x from to
by_row r a {α} {from} e other row f = row_read r α (ap (choice grammar sets r) (ahead_is a from other e) ∙ row) f

only_row : {α β : Row} (k : ℕ) → nth (α ∷ []) k ≡ Some β → β ≡ α
only_row zero e = cc
only_row (suc k) e = cc

-- a rule of one row
pub by_only : (r : Rule) {α : Row} {b c : Symbols} {x : List Sign} {from to : List Lexeme} → rows_of r ≡ α ∷ [] → Reads (plain α ++ b) c x from to → Reads (Nonterminal r ∷ b) c x from to
by_only r {α} {b} {c} {x} {from} {to} one f = record {
  reads = λ z d.
      let p = part_first d in
      let row : nth (α ∷ []) (sets.picked r (ahead (map terminal_of from))) ≡ Some p.0 = ap (λ rows. nth rows (sets.picked r (ahead (map terminal_of from)))) (sym one) ∙ p.1 in
      f.reads z (subst (λ s. Runs s from) (sym (append_assoc (plain α) b z)) (subst (λ row. Runs (plain row ++ (b ++ z)) from) (only_row (sets.picked r (ahead (map terminal_of from))) row) p.2));
}

-- a test holds of each terminal
abbrev pub pass_all : (Terminal → Bool) → List Terminal → Bool
pass_all test [] = true
pass_all test (a ∷ more) = test a && pass_all test more

pass_each : (test : Terminal → Bool) (ts : List Terminal) → pass_all test ts ≡ true → each test ts ≡ true
unfolding each
pass_each test [] h = refl
pass_each test (t ∷ ts) h = let both = and_cases (test t) _ h in and_both (test t) (each test ts) both.0 (pass_each test ts both.1)

pub passes : (test : Terminal → Bool) → pass_all test all_terminals ≡ true → (a : Terminal) → test a ≡ true
passes test h a = each_coded terminals test (pass_each test all_terminals h) a

-- the number is that of this row, or of none
abbrev pub is_row_or_none : ℕ → ℕ → ℕ → Bool
is_row_or_none count k n = nat_eq n k || nat_le count n

past_rows : (rows : List Row) (n : ℕ) (α : Row) → length rows ≤ n → nth rows n ≡ Some α → ⊥
past_rows [] n α le e = cc
past_rows (β ∷ rows) zero α le e = omega arith
past_rows (β ∷ rows) (suc n) α le e = past_rows rows n α (omega arith) e

that_row : (rows : List Row) (k n : ℕ) (α β : Row) → is_row_or_none (length rows) k n ≡ true → nth rows k ≡ Some α → nth rows n ≡ Some β → β ≡ α
that_row rows k n α β h e f = elim (or_cases (nat_eq n k) (nat_le (length rows) n) h) [
  | inl same ↦ let one : nth rows n ≡ nth rows k = ap (nth rows) (eqb-true n k same) in cc
  | inr le ↦ absurd (past_rows rows n β (leb-true (length rows) n le) f)
]

abbrev pub implies : Bool → Bool → Bool
implies true b = b
implies false b = true

by_implied : (a b : Bool) → implies a b ≡ true → a ≡ true → b ≡ true
by_implied true b h e = h
by_implied false b h e = cc

-- each terminal of the test, and the end if it is one, picks this row or none
abbrev pub picks : Rule → (Terminal → Bool) → ℕ → Bool
picks r test k = pass_all (λ a. implies (test a) (is_row_or_none (length (rows_of r)) k (sets.picked r (Some a)))) all_terminals && implies (test Unknown) (is_row_or_none (length (rows_of r)) k (sets.picked r None))

test_picks : (r : Rule) (test : Terminal → Bool) (k : ℕ) (from : List Lexeme) → picks r test k ≡ true → test (terminal_ahead from) ≡ true → is_row_or_none (length (rows_of r)) k (sets.picked r (ahead (map terminal_of from))) ≡ true
test_picks r test k [] h e = by_implied (test Unknown) _ (and_cases _ _ h).1 e
test_picks r test k (w ∷ words) h e = by_implied (test w.terminal) _ (passes (λ a. implies (test a) (is_row_or_none (length (rows_of r)) k (sets.picked r (Some a)))) (and_cases _ _ h).0 w.terminal) e

-- a rule whose row stands behind each terminal of a test
pub by_test : (r : Rule) (test : Terminal → Bool) (k : ℕ) {α : Row} {b c : Symbols} {x : List Sign} {from to : List Lexeme} → picks r test k ≡ true → nth (rows_of r) k ≡ Some α → test (terminal_ahead from) ≡ true → Reads (plain α ++ b) c x from to → Reads (Nonterminal r ∷ b) c x from to
by_test r test k {α} {b} {c} {x} {from} {to} h e among f = record {
  reads = λ z d.
      let p = part_first d in
      f.reads z (subst (λ s. Runs s from) (sym (append_assoc (plain α) b z)) (subst (λ row. Runs (plain row ++ (b ++ z)) from) (that_row (rows_of r) k (sets.picked r (ahead (map terminal_of from))) α p.0 (test_picks r test k from h among) e p.1) p.2));
}

pub if_ahead : (from : List Lexeme) (P Q : Lexeme → Type 0) → IfAhead from P → ((w : Lexeme) → P w → Q w) → IfAhead from Q
if_ahead [] P Q h f = tt
if_ahead (w ∷ words) P Q h f = f w h

-- each row is one word that passes the test
abbrev pub single : (Terminal → Bool) → List Row → Bool
single test [] = true
single test ((Token a ∷ []) ∷ rows) = test a && single test rows
single test _ = false

single_row : (test : Terminal → Bool) (rows : List Row) (k : ℕ) (α : Row) → single test rows ≡ true → nth rows k ≡ Some α → (a : Terminal) × (α ≡ Token a ∷ []) × (test a ≡ true)
single_row test [] k α h e = absurd (let bad : None ≡ Some α = e in cc)
single_row test ((Token a ∷ []) ∷ rows) zero α h e = (a, cc, (and_cases (test a) _ h).0)
single_row test ((Token a ∷ []) ∷ rows) (suc k) α h e = single_row test rows k α (and_cases (test a) _ h).1 e
single_row test _ k α h e = absurd (let bad : false ≡ true = h in cc)

-- a rule of single words
pub took_word : (r : Rule) (test : Terminal → Bool) (b : Symbols) (x : Sign) {from to : List Lexeme} → single test (rows_of r) ≡ true → to ≡ drop 1 from → IfAhead from (λ w. test w.terminal ≡ true → Stands x w) → Reads (Nonterminal r ∷ b) b (x ∷ []) from to
took_word r test b x {from} {to} one e s = record {
  reads = λ z d.
      let p = part_first d in
      let i = single_row test (rows_of r) (sets.picked r (ahead (map terminal_of from))) p.0 one p.1 in
      (took_as i.0 b x e (if_ahead from (λ w. test w.terminal ≡ true → Stands x w) (λ w. w.terminal ≡ i.0 → Stands x w) s (λ w f h. f (ap test h ∙ i.2)))).reads z (subst (λ row. Runs (plain row ++ (b ++ z)) from) i.1 p.2);
}

-- each row is one word that passes the test, or one rule of such rows
abbrev pub nested : (Terminal → Bool) → List Row → Bool
nested test [] = true
nested test ((Token a ∷ []) ∷ rows) = test a && nested test rows
nested test ((Part r ∷ []) ∷ rows) = single test (rows_of r) && nested test rows
nested test _ = false

pub data Nested (test : Terminal → Bool) : Row → Type 0 where
  one_word : (a : Terminal) → test a ≡ true → Nested test (Token a ∷ [])
  one_rule : (r : Rule) → single test (rows_of r) ≡ true → Nested test (Part r ∷ [])

nested_row : (test : Terminal → Bool) (rows : List Row) (k : ℕ) (α : Row) → nested test rows ≡ true → nth rows k ≡ Some α → Nested test α
nested_row test [] k α h e = absurd (let bad : None ≡ Some α = e in cc)
nested_row test ((Token a ∷ []) ∷ rows) zero α h e = let same : Token a ∷ [] ≡ α = cc in subst (Nested test) same (one_word a (and_cases (test a) _ h).0)
nested_row test ((Token a ∷ []) ∷ rows) (suc k) α h e = nested_row test rows k α (and_cases (test a) _ h).1 e
nested_row test ((Part r ∷ []) ∷ rows) zero α h e = let same : Part r ∷ [] ≡ α = cc in subst (Nested test) same (one_rule r (and_cases (single test (rows_of r)) _ h).0)
nested_row test ((Part r ∷ []) ∷ rows) (suc k) α h e = nested_row test rows k α (and_cases (single test (rows_of r)) _ h).1 e
nested_row test _ k α h e = absurd (let bad : false ≡ true = h in cc)

pub took_nested : (r : Rule) (test : Terminal → Bool) (b : Symbols) (x : Sign) {from to : List Lexeme} → nested test (rows_of r) ≡ true → to ≡ drop 1 from → IfAhead from (λ w. test w.terminal ≡ true → Stands x w) → Reads (Nonterminal r ∷ b) b (x ∷ []) from to
took_nested r test b x {from} {to} one e s = record {
  reads = λ z d. let p = part_first d in go z p.0 (nested_row test (rows_of r) (sets.picked r (ahead (map terminal_of from))) p.0 one p.1) p.2;
}
  where
    go : (z : Symbols) (α : Row) → Nested test α → Runs (plain α ++ (b ++ z)) from → Spells (x ∷ []) from to × Runs (b ++ z) to
    go z _ (one_word a h) d = (took_as a b x e (if_ahead from (λ w. test w.terminal ≡ true → Stands x w) (λ w. w.terminal ≡ a → Stands x w) s (λ w f k. f (ap test k ∙ h)))).reads z d
    go z _ (one_rule q h) d = (took_word q test b x h e s).reads z d

-- what follows from the value of a result
pub in_ok : {A E : Type 0} (r : Result A E) (P Q : A → Type 0) → ((a : A) → P a → Q a) → IfOk r P → IfOk r Q
in_ok (Ok a) P Q f h = f a h
in_ok (Err e) P Q f h = tt

pub in_both : {A E : Type 0} (r : Result A E) (P Q : A → Type 0) (G : Type 0) → ((a : A) → P a → G → Q a) → IfOk r P → OnOk r G → IfOk r Q
in_both (Ok a) P Q G f h g = f a h g
in_both (Err e) P Q G f h g = tt

-- a rule that has no row behind a terminal: no words that run on so are there
abbrev pub picks_none : Rule → (Terminal → Bool) → Bool
picks_none r test = pass_all (λ a. implies (test a) (nat_le (length (rows_of r)) (sets.picked r (Some a)))) all_terminals && implies (test Unknown) (nat_le (length (rows_of r)) (sets.picked r None))

none_picked : (r : Rule) (test : Terminal → Bool) (from : List Lexeme) → picks_none r test ≡ true → test (terminal_ahead from) ≡ true → nat_le (length (rows_of r)) (sets.picked r (ahead (map terminal_of from))) ≡ true
none_picked r test [] h e = by_implied (test Unknown) _ (and_cases _ _ h).1 e
none_picked r test (w ∷ words) h e = by_implied (test w.terminal) _ (passes (λ a. implies (test a) (nat_le (length (rows_of r)) (sets.picked r (Some a)))) (and_cases _ _ h).0 w.terminal) e

pub by_none : (r : Rule) (test : Terminal → Bool) {b c : Symbols} {x : List Sign} {from to : List Lexeme} → picks_none r test ≡ true → test (terminal_ahead from) ≡ true → Reads (Nonterminal r ∷ b) c x from to
by_none r test {from} h e = record {
  reads = λ z d. let p = part_first d in absurd (past_rows (rows_of r) (sets.picked r (ahead (map terminal_of from))) p.0 (leb-true (length (rows_of r)) (sets.picked r (ahead (map terminal_of from))) (none_picked r test from h e)) p.1);
}

pub in_three : {A E : Type 0} (r : Result A E) (P Q R : A → Type 0) (G : Type 0) → ((a : A) → P a → Q a → G → R a) → IfOk r P → IfOk r Q → OnOk r G → IfOk r R
in_three (Ok a) P Q R G f h k g = f a h k g
in_three (Err e) P Q R G f h k g = tt

-- words that aren't there are read as anything
pub never_reads : {r : Rule} {b c : Symbols} {x : List Sign} {from to : List Lexeme} → Never (part r) from → Reads (Nonterminal r ∷ b) c x from to
never_reads {r} {b} n = record { reads = λ z d. absurd (n (b ++ z) d) }

pub on_ok : {A E : Type 0} (r : Result A E) (P : A → Type 0) (G : Type 0) → ((a : A) → P a → G) → IfOk r P → OnOk r G
on_ok (Ok a) P G f h = f a h
on_ok (Err e) P G f h = tt

pub on_more : {A E : Type 0} (r : Result A E) (G H : Type 0) → (G → H) → OnOk r G → OnOk r H
on_more (Ok a) G H f g = f g
on_more (Err e) G H f g = tt

over_is : (to : List Lexeme) → Runs [] to → to ≡ []
over_is [] d = refl
over_is (w ∷ words) d = let e = runs_over grammar sets d in cc

-- the words of a line that was read to its end
pub read_whole : (r : Rule) (x : List Sign) (words to : List Lexeme) → Reads (part r) [] x words to → Runs (part r) words → SpellsLine x words
read_whole r x words to f d = let h = f.reads [] d in subst (λ (v : List Lexeme). Spells x words v) (over_is to h.1) h.0
