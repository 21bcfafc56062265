-- For proofs alone. The script of whole tables is one that can be run: its functions are there.
use Rattle.std.proofs.Common.{◌≡◌, ℕ, zero, suc, ◌+◌, ◌^◌, ◌<◌, ◌≤◌, List, [], ◌∷◌, Option, Some, None, inl, inr, length, map, refl, sym, ap, subst, ◌∙◌, arith}
use Rattle.std.specs.Prelude.{All, slice_get, slice_index_or}
use Rattle.std.specs.Option.{option_map}
use Rattle.std.proofs.lemmas.Bool.{cases_lt}
use Rattle.std.proofs.lemmas.List.{get_or_past, length-map}
use Rattle.widl_script_tree.specs.declared.expression.Expression.{Expression}
use Rattle.widl_script_tree.specs.declared.expression.Expression.TheVariants as node
use Rattle.widl_script_tree.specs.declared.expression.MemberKey.{MemberKey}
use Rattle.widl_script_tree.specs.declared.expression.MemberKey.TheVariants as key
use Rattle.widl_script_tree.specs.declared.expression.MemberOf.{MemberOf}
use Rattle.widl_script_tree.specs.declared.function.Function.{Function}
use Rattle.widl_script_tree.specs.declared.statement.Statement.{Statement}
use Rattle.widl_script_tree.specs.declared.statement.Statement.TheVariants as line
use Rattle.widl_script_tree.specs.declared.steps.StepsBlock.{StepsBlock}
use Rattle.widl_script_tree.specs.Rows.{most_nodes}
use Rattle.widl_script_tree.specs.Parts.{IsLower, IsLowerKey, IsLowerStatement, IsWhole}
use Rattle.widl_script_tree.specs.Tables.{Tables, no_statement, expression_at, expressions_in, key_tree, member_at, opened, expression_tree, statement_at, statements_in, steps_statement, opened_statement, statement_tree, function_tree, script_tree}
use Rattle.widl_script_tree.specs.Trees.{ExpressionTree, FunctionTree, whole_member}
use Rattle.widl_script_tree.proofs.Growing.{expression_opens, expression_past, statement_opens}
use Rattle.widl_runs.specs.Fitting.{HasShortRows, HaveShortRows, HasShortMember, HasShortOption, count_of, HasFunctions, HasFunction, HasPlainSteps, IsRunnable}

-- a row of the tables has as many expressions as it says
count_row : (tree : ℕ → ExpressionTree) (first count : ℕ) → count_of (expressions_in tree first count) ≡ count
count_row tree first zero = refl
count_row tree first (suc count) = let rest = count_row tree (first + 1) count in omega (arith, rest)

module _ (s : Tables) (whole : IsWhole s) where
  -- 1. Rows of expressions are short

  abbrev Short : ℕ → Type 0
  Short place = HasShortRows (expression_tree s place)

  short_row : (first count : ℕ) → ((q : ℕ) → q < first + count → Short q) → HaveShortRows (expressions_in (expression_tree s) first count)
  short_row first zero each = tt
  short_row first (suc count) each = (each first (omega arith), short_row (first + 1) count (λ q less. each q (omega (arith, less))))

  few_row : (place first count : ℕ) → place ≤ length s.expressions → first + count ≤ place → count_of (expressions_in (expression_tree s) first count) < 2 ^ 32
  few_row place first count there lower =
      let count_is = count_row (expression_tree s) first count in
      let within = whole.within in
      omega (arith, count_is, within, there, lower)

  short_opened : (place : ℕ) (e : Expression) → place ≤ length s.expressions → IsLower s place e → ((q : ℕ) → q < place → Short q) → HasShortRows (opened s (expression_tree s) e)
  short_opened place node.Undefined there lower each = tt
  short_opened place node.Null there lower each = tt
  short_opened place (node.Bool b) there lower each = tt
  short_opened place (node.Number n) there lower each = tt
  short_opened place (node.Text text) there lower each = tt
  short_opened place (node.Symbol id) there lower each = tt
  short_opened place (node.Name number) there lower each = tt
  short_opened place node.This there lower each = tt
  short_opened place node.NewSymbol there lower each = tt
  short_opened place (node.NewObject None) there lower each = tt
  short_opened place (node.NewObject (Some proto)) there lower each = each proto lower
  short_opened place (node.NewArray row) there lower each =
      (few_row place row.first row.count there lower, short_row row.first row.count (λ q less. each q (omega (arith, less, lower))))
  short_opened place (node.Member m) there lower each = by m.key lower.1
    where
      by : (k : MemberKey) → IsLowerKey s place k → HasShortRows (whole_member (key_tree s (expression_tree s) (expression_tree s m.of) k))
      by (key.Named number) name = each m.of lower.0
      by (key.Computed part) less = (each m.of lower.0, each part less)
  short_opened place (node.Call callee args) there lower each =
      let row = lower.1 in
      (each callee lower.0, few_row place args.first args.count there row, short_row args.first args.count (λ q less. each q (omega (arith, less, row))))
  short_opened place (node.CallWith callee this args) there lower each =
      let row = lower.2 in
      (each callee lower.0, each this lower.1, few_row place args.first args.count there row, short_row args.first args.count (λ q less. each q (omega (arith, less, row))))
  short_opened place (node.New callee args) there lower each =
      let row = lower.1 in
      (each callee lower.0, few_row place args.first args.count there row, short_row args.first args.count (λ q less. each q (omega (arith, less, row))))
  short_opened place (node.Item part) there lower each = each part lower

  short_here : (place : ℕ) → ((q : ℕ) → q < place → Short q) → Short place
  short_here place each = elim (cases_lt place (length s.expressions)) [
    | inl less ↦ subst HasShortRows (sym (expression_opens s whole place)) (short_opened place (expression_at s place) (omega (arith, less)) (whole.lower place less) each)
    | inr past ↦ subst HasShortRows (sym (expression_past s place past)) tt
  ]

  short_below : (n place : ℕ) → place < n → Short place
  short_below zero place less = absurd (omega (arith, less))
  short_below (suc n) place less = short_here place (λ q lower. short_below n q (omega (arith, less, lower)))

  short_all : (place : ℕ) → Short place
  short_all place = short_below (suc place) place (omega arith)

  short_member : (m : MemberOf) → HasShortMember (member_at s m)
  short_member m = by m.key
    where
      by : (k : MemberKey) → HasShortMember (key_tree s (expression_tree s) (expression_tree s m.of) k)
      by (key.Named number) = short_all m.of
      by (key.Computed part) = (short_all m.of, short_all part)

  short_option : (part : Option ℕ) → HasShortOption (option_map (expression_tree s) part)
  short_option None = tt
  short_option (Some part) = short_all part

  -- 2. The functions of statements are there

  abbrev Has : ℕ → Type 0
  Has place = HasFunction (length s.functions) (statement_tree s place)

  has_row : (first count : ℕ) → ((q : ℕ) → q < first + count → Has q) → HasFunctions (length s.functions) (statements_in (statement_tree s) first count)
  has_row first zero each = tt
  has_row first (suc count) each = (each first (omega arith), has_row (first + 1) count (λ q less. each q (omega (arith, less))))

  has_steps : (block : Option StepsBlock) → HasFunction (length s.functions) (steps_statement block)
  has_steps None = tt
  has_steps (Some block) = tt

  has_opened : (place : ℕ) (node : Statement) → IsLowerStatement s place node → ((q : ℕ) → q < place → Has q) → HasFunction (length s.functions) (opened_statement s (statement_tree s) node)
  has_opened place (line.Let name v) lower each = short_all v
  has_opened place (line.Do v) lower each = short_all v
  has_opened place (line.Set member v) lower each = (short_member member, short_all v)
  has_opened place (line.Define member v hidden) lower each = (short_member member, short_all v)
  has_opened place (line.DefineAccessor member getter setter) lower each = (short_member member, short_all getter, short_option setter)
  has_opened place (line.Delete member) lower each = short_member member
  has_opened place (line.Return v) lower each = short_all v
  has_opened place (line.Throw v) lower each = short_all v
  has_opened place (line.Show v) lower each = short_all v
  has_opened place (line.Try body name handler) lower each =
      let b = lower.0 in
      let h = lower.2 in
      (has_row body.first body.count (λ q less. each q (omega (arith, less, b))), has_row handler.first handler.count (λ q less. each q (omega (arith, less, h))))
  has_opened place (line.If left right met unmet) lower each =
      let m = lower.2 in
      let u = lower.3 in
      (short_all left, short_all right, has_row met.first met.count (λ q less. each q (omega (arith, less, m))), has_row unmet.first unmet.count (λ q less. each q (omega (arith, less, u))))
  has_opened place (line.Function number) lower each = lower
  has_opened place (line.Steps number) lower each = has_steps (slice_get s.blocks number)
  has_opened place (line.Item part) lower each = each part lower

  has_here : (place : ℕ) → ((q : ℕ) → q < place → Has q) → Has place
  has_here place each =
      let opens = statement_opens s whole place in
      elim (cases_lt place (length s.statements)) [
        | inl less ↦ subst (HasFunction (length s.functions)) (sym opens) (has_opened place (statement_at s place) (whole.lower_statements place less) each)
        | inr past ↦
            let none : statement_at s place ≡ no_statement = get_or_past s.statements place no_statement past in
            subst (HasFunction (length s.functions)) (sym (opens ∙ ap (opened_statement s (statement_tree s)) none)) (short_all most_nodes)
      ]

  has_below : (n place : ℕ) → place < n → Has place
  has_below zero place less = absurd (omega (arith, less))
  has_below (suc n) place less = has_here place (λ q lower. has_below n q (omega (arith, less, lower)))

  has_all : (first count : ℕ) → HasFunctions (length s.functions) (statements_in (statement_tree s) first count)
  has_all first count = has_row first count (λ q less. has_below (suc q) q (omega arith))

  has_bodies : (fs : List Function) (k : ℕ) (d : FunctionTree) → k < length (map (function_tree s) fs) → HasFunctions (length s.functions) (slice_index_or (map (function_tree s) fs) k d).body
  has_bodies [] k d less = absurd (omega (arith, less))
  has_bodies (f ∷ fs) zero d less = has_all f.body.first f.body.count
  has_bodies (f ∷ fs) (suc k) d less = has_bodies fs k d (omega (arith, less))

  pub runnable : HasPlainSteps (script_tree s).top → IsRunnable (script_tree s)
  unfolding script_tree
  runnable plain =
      let count : length (map (function_tree s) s.functions) ≡ length s.functions = length-map s.functions (function_tree s) in
      record {
        top = subst (λ (n : ℕ). HasFunctions n (script_tree s).top) (sym count) (has_all s.top.first s.top.count);
        bodies = subst (λ (n : ℕ). All (λ (f : FunctionTree). HasFunctions n f.body) (script_tree s).functions) (sym count) (has_bodies s.functions);
        steps = plain;
      }
