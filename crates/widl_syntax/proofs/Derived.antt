-- What the rows of the grammar derive, from what is read by the token ahead and back.
use Rattle.std.proofs.Common.{◌≡◌, ℕ, zero, suc, ◌+◌, ◌<◌, ◌≤◌, Bool, true, false, Option, Some, None, List, [], ◌∷◌, ◌++◌, length, length-append, take, get_or, refl, sym, ◌∙◌, ap, subst, append_assoc, arith, eqb-true, nat_eq}
use Rattle.std.proofs.lemmas.List.{length-map, length-take-le}
use Rattle.std.specs.Prelude.{map, Contains}
use Rattle.widl_lex.specs.Tokens.{Lexeme}
use Rattle.widl_predictive.specs.declared.grammar.Symbol.{Symbol as RowSymbol}
use Rattle.widl_predictive.specs.Derivation.{Terminal as Token, Nonterminal, Derives, done, token, row}
use Rattle.widl_predictive.specs.Grammar as gr
use Rattle.widl_predictive.specs.Lookahead as look
use Rattle.widl_predictive.specs.Lookahead.{choice, nth}
use Rattle.widl_predictive.specs.Predictive as theory
use Rattle.widl_predictive.specs.Predictive.{ahead, is_end, selects}
use Rattle.widl_predictive.specs.Runs as runs
use Rattle.widl_predictive.specs.Runs.{plain, stripped}
use Rattle.widl_predictive.proofs.Inversion as inversion
use Rattle.widl_predictive.proofs.Running.{runs_of, stripped-append, row_stripped}
use Rattle.widl_predictive.proofs.Theory.{derives_append}
use Rattle.widl_grammar.specs.declared.rule.Rule.{Rule}
use Rattle.widl_grammar.specs.declared.terminal.Terminal.{Terminal}
use Rattle.widl_grammar.specs.Owed.{owed}
use Rattle.widl_grammar.specs.Rows.{grammar, rows_of}
use Rattle.widl_grammar.specs.Source.{terminal_of}
use Rattle.widl_grammar.specs.Tables.{sets}
use Rattle.widl_grammar.specs.Terminals.{terminals, terminal_code, all_terminals}
use Rattle.widl_syntax.specs.Deriving.{Symbols, Stack, AnyRuns, part}
use Rattle.widl_syntax.specs.Signs.{Sign, Text, AreTexts}
use Rattle.widl_syntax.proofs.Leveling.{AnyReads, as_stack, reads_only, any_levels, reads_itself}

abbrev Runs : Symbols → List Terminal → Type 0
Runs = runs.Runs grammar sets

abbrev rows : gr.Leveled Rule → List Stack
rows = gr.rows grammar

-- a derivation by what it derives
derives_none : {s : Stack} {w : List Terminal} → Derives rows s w → s ≡ [] → w ≡ []
derives_none done e = refl
derives_none (token d) e = cc
derives_none (row α mem d) e = cc

derives_token : {s z : Stack} {a : Terminal} {w : List Terminal} → Derives rows s w → s ≡ Token a ∷ z → (v : List Terminal) × (w ≡ a ∷ v) × Derives rows z v
derives_token done e = cc
derives_token {z = z} {a} (token {a = b} {s = rest} {w} d) e =
    let same : b ≡ a = cc in
    let tail : rest ≡ z = cc in
    (w, ap (λ t. t ∷ w) same, subst (λ s. Derives rows s w) tail d)
derives_token (row α mem d) e = cc

derives_itself : (u : List Terminal) → Derives rows (as_stack u) u
unfolding as_stack
derives_itself [] = done
derives_itself (a ∷ u) = token (derives_itself u)

derives_only : (u w : List Terminal) → Derives rows (as_stack u) w → w ≡ u
unfolding as_stack
derives_only [] w d = derives_none d refl
derives_only (a ∷ u) w d = let k = derives_token d refl in k.1 ∙ ap (λ v. a ∷ v) (derives_only u k.0 k.2)

derives_split : {s : Stack} {w : List Terminal} → Derives rows s w → (a b : Stack) → s ≡ a ++ b → (u : List Terminal) × (v : List Terminal) × (w ≡ u ++ v) × Derives rows a u × Derives rows b v
derives_split {s} {w} d [] b e = ([], w, refl, done, subst (λ x. Derives rows x w) e d)
derives_split done (x ∷ a) b e = cc
derives_split (token {a = t} {s = rest} {w} d) (x ∷ a) b e =
    let tail : rest ≡ a ++ b = cc in
    let head : Token t ≡ x = cc in
    let k = derives_split d a b tail in
    (t ∷ k.0, k.1, ap (λ v. t ∷ v) k.2, subst (λ y. Derives rows (y ∷ a) (t ∷ k.0)) head (token k.3), k.4)
derives_split (row {n} {s = rest} {w} α mem d) (x ∷ a) b e =
    let tail : rest ≡ a ++ b = cc in
    let head : Nonterminal n ≡ x = cc in
    let k = derives_split d (α ++ a) b (ap (λ v. α ++ v) tail ∙ sym (append_assoc α a b)) in
    (k.0, k.1, k.2, subst (λ y. Derives rows (y ∷ a) k.0) head (row α mem k.3), k.4)

-- what is read by the token ahead is derived by the rows, at any levels
row_in : (l : ℕ) (xs : List (List (RowSymbol Terminal Rule))) (k : ℕ) (a : List (RowSymbol Terminal Rule)) → nth xs k ≡ Some a → Contains (gr.rows_at grammar l xs) (gr.row_at grammar l a)
row_in l [] k a e = cc
row_in l (x ∷ xs) zero a e = let same : x ≡ a = cc in (0, omega arith, ap (gr.row_at grammar l) same)
row_in l (x ∷ xs) (suc k) a e = let m = row_in l xs k a e in (suc m.0, omega (arith, m.1), m.2)

derived : {y : Symbols} {w : List Terminal} → Runs y w → (s : Stack) → stripped s ≡ y → Derives rows s w
derived runs.over [] e = done
derived runs.over (Token t ∷ s) e = cc
derived runs.over (Nonterminal n ∷ s) e = cc
derived (runs.taken r) [] e = cc
derived (runs.taken {a} {z} {w} r) (Token t ∷ s) e =
    let head : t ≡ a = cc in
    let tail : stripped s ≡ z = cc in
    subst (λ x. Derives rows (Token x ∷ s) (a ∷ w)) (sym head) (token (derived r s tail))
derived (runs.taken r) (Nonterminal n ∷ s) e = cc
derived (runs.chosen α c r) [] e = cc
derived (runs.chosen α c r) (Token t ∷ s) e = cc
derived (runs.chosen {r = one} {z} {w} α c r) (Nonterminal n ∷ s) e =
    let head : n.0 ≡ one = cc in
    let tail : stripped s ≡ z = cc in
    let is = stripped-append (gr.row_at grammar n.1 α) s ∙ ap (λ x. x ++ stripped s) (row_stripped grammar n.1 α) ∙ ap (λ x. plain α ++ x) tail in
    let row_is : choice grammar sets n.0 (ahead w) ≡ Some α = ap (λ x. choice grammar sets x (ahead w)) head ∙ c in
    row (gr.row_at grammar n.1 α) (row_in n.1 (rows_of n.0) (sets.picked n.0 (ahead w)) α row_is) (derived r (gr.row_at grammar n.1 α ++ s) is)

-- what is read of some symbols, whatever symbols follow them
run_split : {y : Symbols} {w : List Terminal} → Runs y w → (x z : Symbols) → y ≡ x ++ z → (v : List Terminal) × Runs z v × ((others : Symbols) → Runs others v → Runs (x ++ others) w)
run_split {y} {w} r [] z e = (w, subst (λ s. Runs s w) e r, λ others run. run)
run_split runs.over (s ∷ x) z e = cc
run_split (runs.taken {a} {z = y} {w} r) (s ∷ x) z e =
    let rest : y ≡ x ++ z = cc in
    let first : Token a ≡ s = cc in
    let k = run_split r x z rest in
    (k.0, k.1, λ others run. subst (λ s. Runs (s ∷ (x ++ others)) (a ∷ w)) first (runs.taken (k.2 others run)))
run_split (runs.chosen {r} {z = y} {w} α c run) (s ∷ x) z e =
    let rest : y ≡ x ++ z = cc in
    let first : Nonterminal r ≡ s = cc in
    let k = run_split run (plain α ++ x) z (ap (λ s. plain α ++ s) rest ∙ sym (append_assoc (plain α) x z)) in
    (k.0, k.1, λ others run. subst (λ s. Runs (s ∷ (x ++ others)) w) first (runs.chosen α c (subst (λ s. Runs s w) (append_assoc (plain α) x others) (k.2 others run))))

-- texts, and the tokens after them
pub texts_then : (texts : List Text) (w m : List Lexeme) → AreTexts texts w m → map terminal_of w ≡ take (length texts) (map terminal_of w) ++ map terminal_of m
texts_then [] w m s = ap (map terminal_of) s
texts_then (t ∷ texts) w m s =
    let rest = texts_then texts s.1 m s.5 in
    let first = λ (v : List Lexeme). take (length (t ∷ texts)) (map terminal_of v) ++ map terminal_of m in
    ap (map terminal_of) s.2 ∙ ap (λ v. terminal_of s.0 ∷ v) rest ∙ ap first (sym s.2)

texts_within : (texts : List Text) (w m : List Lexeme) → AreTexts texts w m → length texts ≤ length w
texts_within [] w m s = omega arith
texts_within (t ∷ texts) w m s = let rest = texts_within texts s.1 m s.5 in let all : length w ≡ length (s.0 ∷ s.1) = ap length s.2 in omega (arith, rest, all)

first_ones : (n : ℕ) (u v : List Terminal) → n ≡ length u → take n (u ++ v) ≡ u
first_ones n [] v e = ap (λ k. take k v) e
first_ones zero (a ∷ u) v e = absurd (omega (arith, e))
first_ones (suc n) (a ∷ u) v e = ap (λ x. a ∷ x) (first_ones n u v (omega (arith, e)))

length_by : (n : ℕ) (xs u v : List Terminal) → xs ≡ take n xs ++ v → xs ≡ u ++ v → n ≤ length xs → n ≡ length u
length_by n xs u v e f le =
    let a : length xs ≡ length (take n xs) + length v = ap length e ∙ length-append (take n xs) v in
    let b : length xs ≡ length u + length v = ap length f ∙ length-append u v in
    let c : length (take n xs) ≡ n = length-take-le n xs le in
    omega (arith, a, b, c)

-- all tokens of a part that was read are what its rule derives
pub read_sentence : {rule : Rule} {x : List Sign} {w m : List Lexeme} → AnyReads (part rule) x w m → (others : Symbols) → AnyRuns (part rule ++ others) w → (texts : List Text) → AreTexts texts w m → gr.Sentence grammar rule (take (length texts) (map terminal_of w))
read_sentence {rule} {x} {w} {m} f others r texts are =
    let le = texts_within texts w m are in
    let k = run_split r (part rule) others refl in
    let after = as_stack k.0 in
    let run = k.2 (stripped after) (any_levels (reads_itself k.0)) in
    let end : map terminal_of m ≡ k.0 = reads_only k.0 (map terminal_of m) (f.reads (stripped after) run).1 in
    let p = derives_split (derived run (gr.start grammar rule ++ after) refl) (gr.start grammar rule) after refl in
    let rest : p.1 ≡ map terminal_of m = derives_only k.0 p.1 p.4 ∙ sym end in
    let whole : map terminal_of w ≡ p.0 ++ map terminal_of m = p.2 ∙ ap (λ v. p.0 ++ v) rest in
    let count = length_by (length texts) (map terminal_of w) p.0 (map terminal_of m) (texts_then texts w m are) whole (omega (arith, le, length-map w terminal_of)) in
    let same : take (length texts) (map terminal_of w) ≡ p.0 = ap (take (length texts)) whole ∙ first_ones (length texts) p.0 (map terminal_of m) count in
    subst (gr.Sentence grammar rule) (sym same) p.3

-- what follows a part may follow its rule
pub record Follows (rule : Rule) (w : List Lexeme) : Type 0 where
  pub follows : sets.follow rule (ahead (map terminal_of w)) ≡ true

keeps_itself : (w : List Terminal) → theory.Keeps sets.is (look.nullable grammar sets) (look.first grammar sets) (look.follow grammar sets) (as_stack w) is_end
unfolding as_stack
keeps_itself [] = tt
keeps_itself (a ∷ w) = keeps_itself w

is_the_end : (l : Option Terminal) → is_end l ≡ true → None ≡ l
is_the_end None h = refl
is_the_end (Some a) h = cc

is_that : (a : Terminal) (l : Option Terminal) → sets.is a l ≡ true → Some a ≡ l
is_that a None h =
    let lt = terminals.below a in
    let at_end : terminal_code a ≡ length all_terminals = eqb-true (terminal_code a) (length all_terminals) h in
    absurd (omega (arith, lt, at_end))
is_that a (Some b) h = ap Some (owed.theory.same a b h)

selects_ahead : (w : List Terminal) (l : Option Terminal) → selects sets.is (look.nullable grammar sets) (look.first grammar sets) (as_stack w) is_end l ≡ true → ahead w ≡ l
unfolding as_stack
selects_ahead [] l h = is_the_end l h
selects_ahead (a ∷ w) l h = is_that a l h

part_runs : (rule : Rule) (texts : List Text) (w m : List Lexeme) → AreTexts texts w m → gr.Sentence grammar rule (take (length texts) (map terminal_of w)) → Follows rule m → Runs (Nonterminal rule ∷ stripped (as_stack (map terminal_of m))) (map terminal_of w)
part_runs rule texts w m are d f =
    let rest = map terminal_of m in
    let whole = derives_append d (derives_itself rest) in
    subst (Runs (Nonterminal rule ∷ stripped (as_stack rest))) (sym (texts_then texts w m are)) (runs_of grammar sets owed whole (λ l h. subst (λ x. sets.follow rule x ≡ true) (selects_ahead rest l h) f.follows, keeps_itself rest))

same_rest : {y q : Symbols} {w : List Terminal} → Runs y w → Runs q w → (x z o : Symbols) → y ≡ x ++ z → q ≡ x ++ o → (v : List Terminal) × Runs z v × Runs o v
same_rest {w = w} r s [] z o e f = (w, subst (λ u. Runs u w) e r, subst (λ u. Runs u w) f s)
same_rest runs.over s (p ∷ x) z o e f = cc
same_rest (runs.taken {a} {z = y} {w} r) s (p ∷ x) z o e f =
    let tail : y ≡ x ++ z = cc in
    let head : p ≡ Token a = cc in
    let k = inversion.runs_terminal grammar sets (subst (λ u. Runs u (a ∷ w)) (f ∙ ap (λ u. u ∷ (x ++ o)) head) s) in
    let same : k.0 ≡ w = let e = k.1 in cc in
    same_rest r (subst (Runs (x ++ o)) same k.2) x z o tail refl
same_rest (runs.chosen {r = one} {z = y} {w} α c r) s (p ∷ x) z o e f =
    let tail : y ≡ x ++ z = cc in
    let head : p ≡ Nonterminal one = cc in
    let k = inversion.runs_nonterminal grammar sets (subst (λ u. Runs u w) (f ∙ ap (λ u. u ∷ (x ++ o)) head) s) in
    let same : k.0 ≡ α = let d = k.1 in cc in
    same_rest r (subst (λ u. Runs (plain u ++ (x ++ o)) w) same k.2) (plain α ++ x) z o (ap (λ u. plain α ++ u) tail ∙ sym (append_assoc (plain α) x z)) (sym (append_assoc (plain α) x o))

-- let the very tokens that follow be what follows: both ends are before them
pub ends_once : (rule : Rule) (xs ys : List Text) (w m n : List Lexeme) → AreTexts xs w m → gr.Sentence grammar rule (take (length xs) (map terminal_of w)) → Follows rule m → AreTexts ys w n → gr.Sentence grammar rule (take (length ys) (map terminal_of w)) → Follows rule n → map terminal_of m ≡ map terminal_of n
ends_once rule xs ys w m n a d f b e g =
    let k = same_rest (part_runs rule xs w m a d f) (part_runs rule ys w n b e g) (part rule) (stripped (as_stack (map terminal_of m))) (stripped (as_stack (map terminal_of n))) refl refl in
    sym (reads_only (map terminal_of m) k.0 k.1) ∙ reads_only (map terminal_of n) k.0 k.2
