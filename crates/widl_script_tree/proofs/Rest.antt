-- The rest of a row.
use Rattle.std.proofs.Common.{◌≡◌, ℕ, zero, suc, ◌+◌, ◌-◌, ◌<◌, ◌≤◌, ◌⊎◌, inl, inr, length, refl, sym, ◌∙◌, ap, subst, arith}
use Rattle.std.specs.Prelude.{min}
use Rattle.std.proofs.lemmas.Bool.{cases_lt}
use Rattle.widl_script_tree.specs.declared.row.Row.{Row}
use Rattle.widl_script_tree.specs.Rows.{most_nodes, rest_of}
use Rattle.widl_script_tree.specs.Trees.{ExpressionTree, ExpressionTrees, none, more, StatementTree, StatementTrees, no_statements, then_more, UndefinedT, DoT}
use Rattle.widl_script_tree.specs.Tables.{Tables, expression_tree, statement_tree, expressions_in, statements_in, expressions_tree, statements_tree}
use Rattle.widl_script_tree.specs.Parts.{IsWhole}
use Rattle.widl_script_tree.specs.Laws.{RowsOpen}
use Rattle.widl_script_tree.proofs.Growing.{expression_past, statement_past}

-- past a place from which on all trees are one, rows of a length are one
past_rows : (f : ℕ → ExpressionTree) (x : ExpressionTree) (n a b count : ℕ) → ((k : ℕ) → n ≤ k → f k ≡ x) → n ≤ a → n ≤ b → expressions_in f a count ≡ expressions_in f b count
past_rows f x n a b zero past le he = refl
past_rows f x n a b (suc count) past le he =
    let here : f a ≡ f b = past a le ∙ sym (past b he) in
    let rest = past_rows f x n (a + 1) (b + 1) count past (omega arith) (omega arith) in
    λ i. more (here i) (rest i)

past_statements : (f : ℕ → StatementTree) (x : StatementTree) (n a b count : ℕ) → ((k : ℕ) → n ≤ k → f k ≡ x) → n ≤ a → n ≤ b → statements_in f a count ≡ statements_in f b count
past_statements f x n a b zero past le he = refl
past_statements f x n a b (suc count) past le he =
    let here : f a ≡ f b = past a le ∙ sym (past b he) in
    let rest = past_statements f x n (a + 1) (b + 1) count past (omega arith) (omega arith) in
    λ i. then_more (here i) (rest i)

-- the place after the first one is the next, or both are past the end
next_rows : (f : ℕ → ExpressionTree) (x : ExpressionTree) (first count : ℕ) → ((k : ℕ) → most_nodes ≤ k → f k ≡ x) → expressions_in f (first + 1) count ≡ expressions_in f (min (first + 1) most_nodes) count
next_rows f x first count past = elim (cases_lt (first + 1) most_nodes) [
  | inl lt ↦ let e : first + 1 ≡ min (first + 1) most_nodes = omega (arith, lt) in ap (λ (k : ℕ). expressions_in f k count) e
  | inr le ↦ past_rows f x most_nodes (first + 1) (min (first + 1) most_nodes) count past le (omega (arith, le))
]

next_statements : (f : ℕ → StatementTree) (x : StatementTree) (first count : ℕ) → ((k : ℕ) → most_nodes ≤ k → f k ≡ x) → statements_in f (first + 1) count ≡ statements_in f (min (first + 1) most_nodes) count
next_statements f x first count past = elim (cases_lt (first + 1) most_nodes) [
  | inl lt ↦ let e : first + 1 ≡ min (first + 1) most_nodes = omega (arith, lt) in ap (λ (k : ℕ). statements_in f k count) e
  | inr le ↦ past_statements f x most_nodes (first + 1) (min (first + 1) most_nodes) count past le (omega (arith, le))
]

first_row : (f : ℕ → ExpressionTree) (x : ExpressionTree) (first count : ℕ) → ((k : ℕ) → most_nodes ≤ k → f k ≡ x) → 0 < count → expressions_in f first count ≡ more (f first) (expressions_in f (min (first + 1) most_nodes) (count - 1))
first_row f x first zero past lt = absurd (omega arith)
first_row f x first (suc count) past lt =
    let e : count ≡ suc count - 1 = omega arith in
    ap (more (f first)) (next_rows f x first count past ∙ ap (expressions_in f (min (first + 1) most_nodes)) e)

first_of_statements : (f : ℕ → StatementTree) (x : StatementTree) (first count : ℕ) → ((k : ℕ) → most_nodes ≤ k → f k ≡ x) → 0 < count → statements_in f first count ≡ then_more (f first) (statements_in f (min (first + 1) most_nodes) (count - 1))
first_of_statements f x first zero past lt = absurd (omega arith)
first_of_statements f x first (suc count) past lt =
    let e : count ≡ suc count - 1 = omega arith in
    ap (then_more (f first)) (next_statements f x first count past ∙ ap (statements_in f (min (first + 1) most_nodes)) e)

pub rows_opened : (t : Tables) → IsWhole t → RowsOpen t
rows_opened t whole = record {
  empty = λ row e. ap (expressions_in (expression_tree t) row.first) e;
  first = λ row lt. first_row (expression_tree t) UndefinedT row.first row.count (λ k le. expression_past t k (omega (arith, le, whole.within))) lt;
  no_statement = λ row e. ap (statements_in (statement_tree t) row.first) e;
  first_statement = λ row lt. first_of_statements (statement_tree t) (DoT UndefinedT) row.first row.count (λ k le. statement_past t k (omega (arith, le, whole.statements_within))) lt;
}
