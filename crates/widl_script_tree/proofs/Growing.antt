-- The equation between a place and its tree, and what tables that grow keep.
use Rattle.std.proofs.Common.{◌≡◌, ℕ, zero, suc, ◌+◌, ◌<◌, ◌≤◌, ◌⊎◌, inl, inr, Option, Some, None, List, [], ◌∷◌, ◌++◌, length, get_or, refl, sym, ◌∙◌, ap, subst, arith, length-append}
use Rattle.std.specs.Prelude.{map, All, slice_get, option_map}
use Rattle.std.proofs.lemmas.List.{append-nil, get_or_append_left, get_or_past}
use Rattle.std.proofs.lemmas.List.Elements.{All-head, All-tail, All-get_or}
use Rattle.std.proofs.lemmas.Bool.{cases_lt}
use Rattle.widl_script_tree.specs.declared.row.Row.{Row}
use Rattle.widl_script_tree.specs.declared.expression.Expression.{Expression}
use Rattle.widl_script_tree.specs.declared.expression.Expression.TheVariants as node
use Rattle.widl_script_tree.specs.declared.expression.MemberOf.{MemberOf}
use Rattle.widl_script_tree.specs.declared.statement.Statement.{Statement}
use Rattle.widl_script_tree.specs.declared.statement.Statement.TheVariants as line
use Rattle.widl_script_tree.specs.declared.function.Function.{Function}
use Rattle.widl_script_tree.specs.Rows.{most_nodes}
use Rattle.widl_script_tree.specs.Trees.{Text, ExpressionTree, UndefinedT, MemberTree, StatementTree, StatementTrees, LetT, DoT, SetT, DefineT, DefineAccessorT, DeleteT, ReturnT, ThrowT, ShowT, TryT, IfT, FunctionTree, function_statement}
use Rattle.widl_script_tree.specs.Tables.{Tables, name_or, name_at, key_at, expression_at, statement_at, function_at, no_statement, no_function, expressions_in, statements_in, member_tree, member_at, opened, expression_tree, expressions_tree, function_over, function_tree, steps_statement, opened_statement, statement_tree, statements_tree}
use Rattle.widl_script_tree.specs.Parts.{IsName, IsExpression, IsMember, IsLowerRow, IsLowerOption, IsLowerKey, IsLowerMember, IsLower, IsLowerStatement, IsLowerItem, IsBodyLower, IsFunction, IsWhole}
use Rattle.widl_script_tree.specs.Growth.{Extends, Grown}
use Rattle.widl_script_tree.proofs.Folding.{tree_past, tree_opens, keeps}
use Rattle.widl_script_tree.proofs.Opening.{Stands, rows_same, statement_rows_same, members_same, opened_agrees, opened_same, statement_same}

-- past the end there is the default
pub expression_past : (t : Tables) (place : ℕ) → length t.expressions ≤ place → expression_tree t place ≡ UndefinedT
unfolding expression_tree
expression_past t place le = tree_past (opened t) UndefinedT node.Undefined t.expressions place le

pub statement_past : (t : Tables) (place : ℕ) → length t.statements ≤ place → statement_tree t place ≡ DoT UndefinedT
unfolding statement_tree
statement_past t place le = tree_past (opened_statement t) (DoT UndefinedT) no_statement t.statements place le

expression_within : (t : Tables) → IsWhole t → (place : ℕ) → place < length t.expressions → expression_tree t place ≡ opened t (expression_tree t) (expression_at t place)
unfolding expression_tree
expression_within t whole place lt = tree_opens (opened t) UndefinedT node.Undefined (IsLower t) (opened_same t) t.expressions place lt (whole.lower place lt)

-- the tree at each place is what its node says of the trees at the places that it names
pub expression_opens : (t : Tables) → IsWhole t → (place : ℕ) → expression_tree t place ≡ opened t (expression_tree t) (expression_at t place)
expression_opens t whole place = elim (cases_lt place (length t.expressions)) [
  | inl lt ↦ expression_within t whole place lt
  | inr le ↦ expression_past t place le ∙ ap (opened t (expression_tree t)) (sym (get_or_past t.expressions place node.Undefined le))
]

pub stands_at : (t : Tables) → IsWhole t → (place : ℕ) → place < length t.statements → Stands t place (statement_at t place)
stands_at t whole place lt = record { lower = whole.lower_statements place lt; body = whole.lower_bodies place lt }

statement_within : (t : Tables) → IsWhole t → (place : ℕ) → place < length t.statements → statement_tree t place ≡ opened_statement t (statement_tree t) (statement_at t place)
unfolding statement_tree
statement_within t whole place lt = tree_opens (opened_statement t) (DoT UndefinedT) no_statement (Stands t) (statement_same t) t.statements place lt (stands_at t whole place lt)

pub statement_opens : (t : Tables) → IsWhole t → (place : ℕ) → statement_tree t place ≡ opened_statement t (statement_tree t) (statement_at t place)
statement_opens t whole place = elim (cases_lt place (length t.statements)) [
  | inl lt ↦ statement_within t whole place lt
  | inr le ↦
      let nothing : expression_tree t most_nodes ≡ UndefinedT = expression_past t most_nodes whole.within in
      statement_past t place le ∙ ap DoT (sym nothing) ∙ ap (opened_statement t (statement_tree t)) (sym (get_or_past t.statements place no_statement le))
]

-- lists that go on
pub extends_length : {X : Type 0} {old new : List X} → Extends old new → length old ≤ length new
extends_length {X} {old} {new} e = omega (arith, ap length e.whole, length-append old e.added)

pub extends_get : {X : Type 0} (d : X) {old new : List X} → Extends old new → (k : ℕ) → k < length old → get_or new k d ≡ get_or old k d
extends_get {X} d {old} {new} e k lt = ap (λ xs. get_or xs k d) e.whole ∙ get_or_append_left old e.added d k lt

pub slice_append : {X : Type 0} (xs ys : List X) (k : ℕ) → k < length xs → slice_get (xs ++ ys) k ≡ slice_get xs k
slice_append [] ys k lt = absurd (omega arith)
slice_append (x ∷ xs) ys zero lt = refl
slice_append (x ∷ xs) ys (suc k) lt = slice_append xs ys k (omega arith)

pub extends_slice : {X : Type 0} {old new : List X} → Extends old new → (k : ℕ) → k < length old → slice_get new k ≡ slice_get old k
extends_slice {X} {old} {new} e k lt = ap (λ xs. slice_get xs k) e.whole ∙ slice_append old e.added k lt

abbrev pub extends_same : {X : Type 0} (xs : List X) → Extends xs xs
extends_same xs = record { added = []; whole = sym (append-nil xs) }

abbrev pub extends_more : {X : Type 0} (xs ys : List X) → Extends xs (xs ++ ys)
extends_more xs ys = record { added = ys; whole = refl }

maps_same : {X Y : Type 0} (P : X → Type 0) (f g : X → Y) → ((x : X) → P x → f x ≡ g x) → (xs : List X) → All P xs → map f xs ≡ map g xs
maps_same P f g e [] all = refl
maps_same P f g e (x ∷ xs) all =
    let here = e x (All-head P x xs all) in
    let rest = maps_same P f g e xs (All-tail P x xs all) in
    λ i. here i ∷ rest i

module _ (t u : Tables) (whole : IsWhole t) (grown : Grown t u) where
  pub name_kept : (k : ℕ) → IsName t k → name_at u k ≡ name_at t k
  name_kept k lt = ap (name_or k) (extends_slice grown.names k lt)

  pub key_kept : (k : ℕ) → IsName t k → key_at u k ≡ key_at t k
  key_kept k lt = extends_get [] grown.names k lt

  expression_agrees : (f : ℕ → ExpressionTree) (n : ℕ) (e : Expression) → IsLower t n e → opened u f e ≡ opened t f e
  expression_agrees f n e lower = opened_agrees t u f f n e lower name_kept key_kept (λ k less. refl)

  -- a table that grows keeps its trees
  pub expression_kept : (place : ℕ) → place < length t.expressions → expression_tree u place ≡ expression_tree t place
  unfolding expression_tree
  expression_kept place lt = keeps (opened t) (opened u) UndefinedT node.Undefined (IsLower t) (opened_same t) expression_agrees t.expressions u.expressions (extends_length grown.expressions) (extends_get node.Undefined grown.expressions) whole.lower place lt

  member_kept : (m : MemberOf) → IsMember t m → member_at u m ≡ member_at t m
  member_kept m lower = members_same t u (expression_tree u) (expression_tree t) (length t.expressions) m lower key_kept expression_kept

  setter_kept : (setter : Option ℕ) → IsLowerOption (length t.expressions) setter → option_map (expression_tree u) setter ≡ option_map (expression_tree t) setter
  setter_kept None lower = refl
  setter_kept (Some place) lower = ap (λ (x : ExpressionTree). let o : Option ExpressionTree = Some x in o) (expression_kept place lower)

  pub function_kept : (k : ℕ) → k < length t.functions → function_at u k ≡ function_at t k
  function_kept k lt = extends_get no_function grown.functions k lt

  blocks_kept : (k : ℕ) → k < length t.blocks → slice_get u.blocks k ≡ slice_get t.blocks k
  blocks_kept k lt = extends_slice grown.blocks k lt

  function_agrees : (f : ℕ → StatementTree) (function : Function) → IsFunction t function → function_over u f function ≡ function_over t f function
  function_agrees f function is =
      let name : name_at u function.name ≡ name_at t function.name = name_kept function.name is.name in
      let params : map (name_at u) function.params ≡ map (name_at t) function.params = maps_same (IsName t) (name_at u) (name_at t) name_kept function.params is.params in
      let names : map (name_at u) function.names ≡ map (name_at t) function.names = maps_same (IsName t) (name_at u) (name_at t) name_kept function.names is.names in
      λ i. record { name = name i; params = params i; names = names i; body = statements_in f function.body.first function.body.count }

  statement_agrees : (f : ℕ → StatementTree) (n : ℕ) (s : Statement) → Stands t n s → opened_statement u f s ≡ opened_statement t f s
  statement_agrees f n (line.Let name value) stands =
      let a = name_kept name stands.lower.0 in let b = expression_kept value stands.lower.1 in λ i. LetT (a i) (b i)
  statement_agrees f n (line.Do value) stands = ap DoT (expression_kept value stands.lower)
  statement_agrees f n (line.Set member value) stands =
      let a = member_kept member stands.lower.0 in let b = expression_kept value stands.lower.1 in λ i. SetT (a i) (b i)
  statement_agrees f n (line.Define member value hidden) stands =
      let a = member_kept member stands.lower.0 in let b = expression_kept value stands.lower.1 in λ i. DefineT (a i) (b i) hidden
  statement_agrees f n (line.DefineAccessor member getter setter) stands =
      let a = member_kept member stands.lower.0 in
      let b = expression_kept getter stands.lower.1 in
      let c = setter_kept setter stands.lower.2 in
      λ i. DefineAccessorT (a i) (b i) (c i)
  statement_agrees f n (line.Delete member) stands = ap DeleteT (member_kept member stands.lower)
  statement_agrees f n (line.Return value) stands = ap ReturnT (expression_kept value stands.lower)
  statement_agrees f n (line.Throw value) stands = ap ThrowT (expression_kept value stands.lower)
  statement_agrees f n (line.Show value) stands = ap ShowT (expression_kept value stands.lower)
  statement_agrees f n (line.Try body name handler) stands =
      ap (λ (x : Text). TryT (statements_in f body.first body.count) x (statements_in f handler.first handler.count)) (name_kept name stands.lower.1)
  statement_agrees f n (line.If left right met unmet) stands =
      let a = expression_kept left stands.lower.0 in
      let b = expression_kept right stands.lower.1 in
      λ i. IfT (a i) (b i) (statements_in f met.first met.count) (statements_in f unmet.first unmet.count)
  statement_agrees f n (line.Function number) stands =
      let is : IsFunction t (function_at t number) = whole.functions number no_function stands.lower in
      ap (λ (x : Function). function_statement number (function_over u f x)) (function_kept number stands.lower)
      ∙ ap (function_statement number) (function_agrees f (function_at t number) is)
  statement_agrees f n (line.Steps number) stands = ap steps_statement (blocks_kept number stands.lower)
  statement_agrees f n (line.Item place) stands = refl

  pub statement_kept : (place : ℕ) → place < length t.statements → statement_tree u place ≡ statement_tree t place
  unfolding statement_tree
  statement_kept place lt = keeps (opened_statement t) (opened_statement u) (DoT UndefinedT) no_statement (Stands t) (statement_same t) statement_agrees t.statements u.statements (extends_length grown.statements) (extends_get no_statement grown.statements) (stands_at t whole) place lt

-- 3. What a read of a place gives

-- the parts of an expression that was read are lower, past the end too
pub lower_read : (t : Tables) → IsWhole t → (place : ℕ) → IsLower t place (expression_at t place)
lower_read t whole place = elim (cases_lt place (length t.expressions)) [
  | inl lt ↦ whole.lower place lt
  | inr le ↦ subst (IsLower t place) (sym (get_or_past t.expressions place node.Undefined le)) tt
]

item_of_lower : (t : Tables) (place : ℕ) (s : Statement) → IsLowerStatement t place s → IsLowerItem place s
item_of_lower t place (line.Item part) lower = lower
item_of_lower t place _ lower = tt

pub item_read : (t : Tables) → IsWhole t → (place : ℕ) → IsLowerItem place (statement_at t place)
item_read t whole place = elim (cases_lt place (length t.statements)) [
  | inl lt ↦ item_of_lower t place (statement_at t place) (whole.lower_statements place lt)
  | inr le ↦ subst (IsLowerItem place) (sym (get_or_past t.statements place no_statement le)) tt
]
