-- A sentence takes the rows that the token ahead picks, and has one tree.
use Rattle.std.proofs.Common.{◌≡◌, ℕ, zero, suc, true, Option, Some, None, List, [], ◌∷◌, ◌++◌, refl, sym, ◌∙◌, ap, subst}
use Rattle.widl_predictive.specs.declared.grammar.Symbol.{Symbol as RowSymbol}
use Rattle.widl_predictive.specs.declared.grammar.Symbol.TheVariants.{Token, Part, Inner}
use Rattle.widl_predictive.specs.Derivation.{Symbol, Terminal, Nonterminal, Derives, done, token, row, tree_of}
use Rattle.widl_predictive.specs.Predictive as theory
use Rattle.widl_predictive.proofs.Theory
use Rattle.widl_predictive.specs.Predictive.{ahead, is_end}
use Rattle.widl_predictive.specs.Grammar as gr
use Rattle.widl_predictive.specs.Grammar.{Grammar, Leveled}
use Rattle.widl_predictive.specs.Lookahead as look
use Rattle.widl_predictive.specs.Lookahead.{Sets, IsPredictive, nth}
use Rattle.widl_predictive.specs.Runs.{plain, stripped}
use Rattle.widl_predictive.specs.Runs as runs

pub stripped-append : {T R : Type 0} (a z : List (Symbol T (Leveled R))) → stripped (a ++ z) ≡ stripped a ++ stripped z
stripped-append [] z = refl
stripped-append (Terminal t ∷ a) z = ap (λ x. Terminal t ∷ x) (stripped-append a z)
stripped-append (Nonterminal n ∷ a) z = ap (λ x. Nonterminal n.0 ∷ x) (stripped-append a z)

module _ {T R : Type 0} (g : Grammar T R) where
  pub row_stripped : (v : ℕ) (a : List (RowSymbol T R)) → stripped (gr.row_at g v a) ≡ plain a
  row_stripped v [] = refl
  row_stripped v (Token t ∷ a) = ap (λ x. Terminal t ∷ x) (row_stripped v a)
  row_stripped v (Part r ∷ a) = ap (λ x. Nonterminal r ∷ x) (row_stripped v a)
  row_stripped v (Inner r ∷ a) = ap (λ x. Nonterminal r ∷ x) (row_stripped v a)

  pub chosen_row : (v : ℕ) (xs : List (List (RowSymbol T R))) (k : ℕ) (α : List (Symbol T (Leveled R))) → nth (gr.rows_at g v xs) k ≡ Some α → (a : List (RowSymbol T R)) × (nth xs k ≡ Some a) × (gr.row_at g v a ≡ α)
  chosen_row v [] k α e = cc
  chosen_row v (a ∷ xs) zero α e = (a, refl, cc)
  chosen_row v (a ∷ xs) (suc k) α e = chosen_row v xs k α e

module _ {T R : Type 0} (g : Grammar T R) (s : Sets T R) (owed : IsPredictive g s) where
  -- a stack's derivation takes the rows that the look-ahead picks
  pub runs_of : {z : List (Symbol T (Leveled R))} {w : List T} → Derives (gr.rows g) z w → theory.Keeps s.is (look.nullable g s) (look.first g s) (look.follow g s) z is_end → runs.Runs g s (stripped z) w
  runs_of done k = runs.over
  runs_of (token d) k = runs.taken (runs_of d k)
  runs_of (row {n} {s = z} {w} α mem d) k =
      let p = Theory.picks s.is (look.nullable g s) (look.first g s) (look.follow g s) (gr.rows g) (look.pick g s) owed.theory n z w α k mem d in
      let c = chosen_row g n.1 (g.rows n.0) (s.picked n.0 (ahead w)) α p in
      runs.chosen c.0 c.1 (subst (λ x. runs.Runs g s x w) (stripped-append α z ∙ ap (λ x. x ++ stripped z) (ap stripped (sym c.2) ∙ row_stripped g n.1 c.0)) (runs_of d (Theory.keeps_row s.is (look.nullable g s) (look.first g s) (look.follow g s) (gr.rows g) (look.pick g s) owed.theory n z α k mem)))

  ends : (l : Option T) → is_end l ≡ true → l ≡ None
  ends None h = refl
  ends (Some t) h = cc

  start_keeps : (r : R) → g.starts r ≡ true → theory.Keeps s.is (look.nullable g s) (look.first g s) (look.follow g s) (gr.start g r) is_end
  start_keeps r may = (λ l h. subst (λ x. s.follow r x ≡ true) (sym (ends l h)) (owed.end_follows r may), tt)

  pub sentence_runs : (r : R) (w : List T) → g.starts r ≡ true → gr.Sentence g r w → runs.Runs g s (Nonterminal r ∷ []) w
  sentence_runs r w may d = runs_of d (start_keeps r may)

  -- a sentence has one tree
  pub sentence_tree : (r : R) (w : List T) → g.starts r ≡ true → (d e : gr.Sentence g r w) → tree_of d ≡ tree_of e
  sentence_tree r w may d e = Theory.one_tree s.is (look.nullable g s) (look.first g s) (look.follow g s) (gr.rows g) (look.pick g s) owed.theory d (start_keeps r may) e
