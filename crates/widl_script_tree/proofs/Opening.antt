-- A node sees the trees at lower places alone, and the names that it has.
use Rattle.std.proofs.Common.{◌≡◌, ℕ, zero, suc, ◌+◌, ◌<◌, ◌≤◌, Option, Some, None, List, [], ◌∷◌, length, get_or, refl, sym, ◌∙◌, ap, arith}
use Rattle.std.specs.Prelude.{map, All, slice_get, option_map}
use Rattle.widl_script_tree.specs.declared.expression.Expression.{Expression}
use Rattle.widl_script_tree.specs.declared.expression.Expression.TheVariants as node
use Rattle.widl_script_tree.specs.declared.expression.MemberKey.{MemberKey}
use Rattle.widl_script_tree.specs.declared.expression.MemberKey.TheVariants as key
use Rattle.widl_script_tree.specs.declared.expression.MemberOf.{MemberOf}
use Rattle.widl_script_tree.specs.declared.statement.Statement.{Statement}
use Rattle.widl_script_tree.specs.declared.statement.Statement.TheVariants as line
use Rattle.widl_script_tree.specs.declared.function.Function.{Function}
use Rattle.widl_script_tree.specs.Trees.{Text, ExpressionTree, ExpressionTrees, none, more, NameT, ObjectOfT, NewArrayT, MemberT, IndexT, CallT, CallWithT, NewT, MemberTree, NamedT, ComputedT, whole_member, StatementTree, StatementTrees, no_statements, then_more, TryT, IfT, FunctionTree, function_statement}
use Rattle.widl_script_tree.specs.Tables.{Tables, name_at, key_at, function_at, expression_tree, expressions_in, statements_in, object_tree, key_tree, member_tree, opened, function_over, opened_statement}
use Rattle.widl_script_tree.specs.Parts.{IsName, IsLowerRow, IsLowerOption, IsLowerKey, IsLowerMember, IsLower, IsLowerStatement, IsBodyLower, IsFunction}

-- the trees of a row are those of another reading that agrees below
pub rows_same : (f g : ℕ → ExpressionTree) (first count n : ℕ) → first + count ≤ n → ((k : ℕ) → k < n → f k ≡ g k) → expressions_in f first count ≡ expressions_in g first count
rows_same f g first zero n le e = refl
rows_same f g first (suc count) n le e =
    let here : f first ≡ g first = e first (omega arith) in
    let rest : expressions_in f (first + 1) count ≡ expressions_in g (first + 1) count = rows_same f g (first + 1) count n (omega arith) e in
    λ i. more (here i) (rest i)

pub statement_rows_same : (f g : ℕ → StatementTree) (first count n : ℕ) → first + count ≤ n → ((k : ℕ) → k < n → f k ≡ g k) → statements_in f first count ≡ statements_in g first count
statement_rows_same f g first zero n le e = refl
statement_rows_same f g first (suc count) n le e =
    let here : f first ≡ g first = e first (omega arith) in
    let rest : statements_in f (first + 1) count ≡ statements_in g (first + 1) count = statement_rows_same f g (first + 1) count n (omega arith) e in
    λ i. then_more (here i) (rest i)

objects_same : (f g : ℕ → ExpressionTree) (n : ℕ) (proto : Option ℕ) → IsLowerOption n proto → ((k : ℕ) → k < n → f k ≡ g k) → object_tree f proto ≡ object_tree g proto
objects_same f g n None lower e = refl
objects_same f g n (Some proto) lower e = ap ObjectOfT (e proto lower)

-- a member over two readings that agree below, and two tables that agree on names
pub members_same : (t u : Tables) (f g : ℕ → ExpressionTree) (n : ℕ) (m : MemberOf) → IsLowerMember t n m → ((k : ℕ) → IsName t k → key_at u k ≡ key_at t k) → ((k : ℕ) → k < n → f k ≡ g k) → member_tree u f m ≡ member_tree t g m
members_same t u f g n m lower names e = keys m.key lower.1
  where
    of : f m.of ≡ g m.of
    of = e m.of lower.0

    keys : (k : MemberKey) → IsLowerKey t n k → key_tree u f (f m.of) k ≡ key_tree t g (g m.of) k
    keys (key.Named number) low = let name = names number low in λ i. NamedT (of i) (name i)
    keys (key.Computed place) low = let part : f place ≡ g place = e place low in λ i. ComputedT (of i) (part i)

-- an expression over two readings that agree below, and two tables that agree on names
pub opened_agrees : (t u : Tables) (f g : ℕ → ExpressionTree) (n : ℕ) (e : Expression) → IsLower t n e → ((k : ℕ) → IsName t k → name_at u k ≡ name_at t k) → ((k : ℕ) → IsName t k → key_at u k ≡ key_at t k) → ((k : ℕ) → k < n → f k ≡ g k) → opened u f e ≡ opened t g e
opened_agrees t u f g n (node.Name number) lower names keys e = ap NameT (names number lower)
opened_agrees t u f g n (node.NewObject proto) lower names keys e = objects_same f g n proto lower e
opened_agrees t u f g n (node.NewArray row) lower names keys e = ap NewArrayT (rows_same f g row.first row.count n lower e)
opened_agrees t u f g n (node.Member m) lower names keys e = ap whole_member (members_same t u f g n m lower keys e)
opened_agrees t u f g n (node.Call callee args) lower names keys e =
    let one : f callee ≡ g callee = e callee lower.0 in
    let rest = rows_same f g args.first args.count n lower.1 e in
    λ i. CallT (one i) (rest i)
opened_agrees t u f g n (node.CallWith callee this args) lower names keys e =
    let one : f callee ≡ g callee = e callee lower.0 in
    let two : f this ≡ g this = e this lower.1 in
    let rest = rows_same f g args.first args.count n lower.2 e in
    λ i. CallWithT (one i) (two i) (rest i)
opened_agrees t u f g n (node.New callee args) lower names keys e =
    let one : f callee ≡ g callee = e callee lower.0 in
    let rest = rows_same f g args.first args.count n lower.1 e in
    λ i. NewT (one i) (rest i)
opened_agrees t u f g n (node.Item place) lower names keys e = e place lower
opened_agrees t u f g n _ lower names keys e = refl

pub opened_same : (t : Tables) (f g : ℕ → ExpressionTree) (n : ℕ) (e : Expression) → IsLower t n e → ((k : ℕ) → k < n → f k ≡ g k) → opened t f e ≡ opened t g e
opened_same t f g n e lower agree = opened_agrees t t f g n e lower (λ k is. refl) (λ k is. refl) agree

-- where a statement's parts are, and below what
pub record Stands (t : Tables) (place : ℕ) (s : Statement) : Type 0 where
  pub lower : IsLowerStatement t place s
  pub body : IsBodyLower t place s

-- a statement sees the statements at lower places alone
pub statement_same : (t : Tables) (f g : ℕ → StatementTree) (n : ℕ) (s : Statement) → Stands t n s → ((k : ℕ) → k < n → f k ≡ g k) → opened_statement t f s ≡ opened_statement t g s
statement_same t f g n (line.Try body name handler) stands e =
    let a = statement_rows_same f g body.first body.count n stands.lower.0 e in
    let b = statement_rows_same f g handler.first handler.count n stands.lower.2 e in
    λ i. TryT (a i) (name_at t name) (b i)
statement_same t f g n (line.If left right met unmet) stands e =
    let a = statement_rows_same f g met.first met.count n stands.lower.2 e in
    let b = statement_rows_same f g unmet.first unmet.count n stands.lower.3 e in
    λ i. IfT (expression_tree t left) (expression_tree t right) (a i) (b i)
statement_same t f g n (line.Function number) stands e =
    let function : Function = function_at t number in
    let body = statement_rows_same f g function.body.first function.body.count n stands.body e in
    λ i. function_statement number (record { name = name_at t function.name; params = map (name_at t) function.params; names = map (name_at t) function.names; body = body i })
statement_same t f g n (line.Item place) stands e = e place stands.lower
statement_same t f g n _ stands e = refl
