-- What each put keeps of what holds of all tables.
use Rattle.std.proofs.Common.{◌≡◌, ℕ, zero, suc, ◌+◌, ◌-◌, ◌<◌, ◌≤◌, ◌⊎◌, inl, inr, Bool, true, false, Option, Some, None, List, [], ◌∷◌, ◌++◌, length, get_or, refl, sym, ◌∙◌, ap, subst, arith, length-append}
use Rattle.std.specs.Prelude.{map, All, slice_get, bytes_eq, if◌then◌else◌}
use Rattle.std.specs.List.{list_any}
use Rattle.std.proofs.lemmas.List.{get_or_append_left, get_or-append_right, length-map}
use Rattle.std.proofs.lemmas.List.Elements.{All-nil, All-cons, All-append, All-map, All-weaker, All-get_or}
use Rattle.std.proofs.lemmas.Bool.{cases_lt}
use Rattle.widl_script_tree.specs.declared.row.Row.{Row}
use Rattle.widl_script_tree.specs.declared.expression.Expression.{Expression}
use Rattle.widl_script_tree.specs.declared.expression.Expression.TheVariants as node
use Rattle.widl_script_tree.specs.declared.expression.MemberKey.{MemberKey}
use Rattle.widl_script_tree.specs.declared.expression.MemberKey.TheVariants as key
use Rattle.widl_script_tree.specs.declared.expression.MemberOf.{MemberOf}
use Rattle.widl_script_tree.specs.declared.statement.Statement.{Statement}
use Rattle.widl_script_tree.specs.declared.statement.Statement.TheVariants as line
use Rattle.widl_script_tree.specs.declared.function.Function.{Function}
use Rattle.widl_script_tree.specs.declared.steps.StepsBlock.{StepsBlock}
use Rattle.widl_script_tree.specs.Rows.{most_nodes}
use Rattle.widl_idl.specs.declared.callee.Owner.{Owner}
use Rattle.widl_script_tree.specs.Tables.{Tables, CalleeOverload, name_or, name_at, expression_at, statement_at, function_at, no_statement, no_function}
use Rattle.widl_script_tree.specs.Parts.{IsName, IsExpression, IsMember, IsLowerRow, IsLowerOption, IsLowerKey, IsLowerMember, IsLower, IsLowerStatement, IsBodyLower, IsFunction, IsWhole}
use Rattle.widl_script_tree.specs.Growth.{Extends, Grown}
use Rattle.widl_script_tree.specs.Puts.{no_tables, with_expression, with_items, with_statement, with_statement_items, with_function, with_block, with_name}
use Rattle.widl_script_tree.proofs.Growing.{extends_length, extends_get, extends_same, extends_more, function_kept, stands_at}
use Rattle.widl_script_tree.proofs.Opening.{Stands}
use Rattle.widl_script_tree.proofs.NewNames.{differ_pushed}

option_up : (m n : ℕ) (o : Option ℕ) → m ≤ n → IsLowerOption m o → IsLowerOption n o
option_up m n None le lower = tt
option_up m n (Some place) le lower = omega (arith, le, lower)

module _ (t u : Tables) (grown : Grown t u) where
  name_up : (k : ℕ) → IsName t k → IsName u k
  name_up k lt = omega (arith, lt, extends_length grown.names)

  key_up : (m n : ℕ) (k : MemberKey) → m ≤ n → IsLowerKey t m k → IsLowerKey u n k
  key_up m n (key.Named number) le lower = name_up number lower
  key_up m n (key.Computed place) le lower = omega (arith, le, lower)

  member_up : (m n : ℕ) (x : MemberOf) → m ≤ n → IsLowerMember t m x → IsLowerMember u n x
  member_up m n x le lower = (omega (arith, le, lower.0), key_up m n x.key le lower.1)

  -- parts that are lower stay lower, also at a later place
  pub lower_up : (m n : ℕ) (e : Expression) → m ≤ n → IsLower t m e → IsLower u n e
  lower_up m n (node.Name number) le lower = name_up number lower
  lower_up m n (node.NewObject proto) le lower = option_up m n proto le lower
  lower_up m n (node.NewArray row) le lower = omega (arith, le, lower)
  lower_up m n (node.Member x) le lower = member_up m n x le lower
  lower_up m n (node.Call callee args) le lower = (omega (arith, le, lower.0), omega (arith, le, lower.1))
  lower_up m n (node.CallWith callee this args) le lower = (omega (arith, le, lower.0), omega (arith, le, lower.1), omega (arith, le, lower.2))
  lower_up m n (node.New callee args) le lower = (omega (arith, le, lower.0), omega (arith, le, lower.1))
  lower_up m n (node.Item place) le lower = omega (arith, le, lower)
  lower_up m n _ le lower = tt

  expression_up : (k : ℕ) → IsExpression t k → IsExpression u k
  expression_up k lt = omega (arith, lt, extends_length grown.expressions)

  is_member_up : (x : MemberOf) → IsMember t x → IsMember u x
  is_member_up x is = member_up (length t.expressions) (length u.expressions) x (extends_length grown.expressions) is

  pub statement_up : (m n : ℕ) (s : Statement) → m ≤ n → IsLowerStatement t m s → IsLowerStatement u n s
  statement_up m n (line.Let name value) le lower = (name_up name lower.0, expression_up value lower.1)
  statement_up m n (line.Do value) le lower = expression_up value lower
  statement_up m n (line.Set member value) le lower = (is_member_up member lower.0, expression_up value lower.1)
  statement_up m n (line.Define member value hidden) le lower = (is_member_up member lower.0, expression_up value lower.1)
  statement_up m n (line.DefineAccessor member getter setter) le lower = (is_member_up member lower.0, expression_up getter lower.1, option_up (length t.expressions) (length u.expressions) setter (extends_length grown.expressions) lower.2)
  statement_up m n (line.Delete member) le lower = is_member_up member lower
  statement_up m n (line.Return value) le lower = expression_up value lower
  statement_up m n (line.Throw value) le lower = expression_up value lower
  statement_up m n (line.Show value) le lower = expression_up value lower
  statement_up m n (line.Try body name handler) le lower = (omega (arith, le, lower.0), name_up name lower.1, omega (arith, le, lower.2))
  statement_up m n (line.If left right met unmet) le lower = (expression_up left lower.0, expression_up right lower.1, omega (arith, le, lower.2), omega (arith, le, lower.3))
  statement_up m n (line.Function number) le lower = omega (arith, lower, extends_length grown.functions)
  statement_up m n (line.Steps number) le lower = omega (arith, lower, extends_length grown.blocks)
  statement_up m n (line.Item place) le lower = omega (arith, le, lower)

  -- a function that is there has its body where it had it
  body_up : (m n p : ℕ) (s : Statement) → m ≤ n → IsLowerStatement t p s → IsBodyLower t m s → IsBodyLower u n s
  body_up m n p (line.Function number) le there lower =
      let same : function_at u number ≡ function_at t number = extends_get no_function grown.functions number there in
      subst (λ (f : Function). IsLowerRow n f.body) (sym same) (omega (arith, le, lower))
  body_up m n p _ le there lower = tt

  function_up : (f : Function) → IsFunction t f → IsFunction u f
  function_up f is = record {
    name = name_up f.name is.name;
    params = All-weaker (IsName t) (IsName u) name_up f.params is.params;
    names = All-weaker (IsName t) (IsName u) name_up f.names is.names;
    body = omega (arith, is.body, extends_length grown.statements);
  }

-- what is new in tables that grew is where it may be
pub record News (t u : Tables) (grown : Grown t u) : Type 0 where
  pub expressions : All (IsLower u (length t.expressions)) grown.expressions.added
  pub statements : All (IsLowerStatement u (length t.statements)) grown.statements.added
  pub bodies : All (IsBodyLower u (length t.statements)) grown.statements.added
  pub functions : All (IsFunction u) grown.functions.added

-- what is at a place of a list that goes on: as before, or new
at_place : {X : Type 0} (P Q : ℕ → X → Type 0) (d : X) (xs ys zs : List X) → ((k : ℕ) (x : X) → length xs ≤ k → Q (length xs) x → Q k x) → ((k : ℕ) (x : X) → P k x → Q k x) → zs ≡ xs ++ ys → ((k : ℕ) → k < length xs → P k (get_or xs k d)) → All (Q (length xs)) ys → (k : ℕ) → k < length zs → Q k (get_or zs k d)
at_place {X} P Q d xs ys zs up weaker whole old new k lt = subst (λ (x : X). Q k x) (sym (ap (λ (l : List X). get_or l k d) whole)) (elim (cases_lt k (length xs)) [
  | inl less ↦ subst (Q k) (sym (get_or_append_left xs ys d k less)) (weaker k (get_or xs k d) (old k less))
  | inr le ↦
      let size : k < length xs + length ys = omega (arith, lt, ap length whole, length-append xs ys) in
      subst (Q k) (sym (get_or-append_right xs ys (length xs) k d refl le)) (up k (get_or ys (k - length xs) d) le (new (k - length xs) d (omega (arith, size, le))))
])

grown_same : (u : Tables) → Grown u u
grown_same u = record { expressions = extends_same u.expressions; statements = extends_same u.statements; functions = extends_same u.functions; blocks = extends_same u.blocks; names = extends_same u.names }

-- the sizes of tables, and their names
pub record Fits (u : Tables) : Type 0 where
  pub names_differ : (i j : ℕ) → name_at u i ≡ name_at u j → i ≡ j
  pub within : length u.expressions ≤ most_nodes
  pub statements_within : length u.statements ≤ most_nodes
  pub functions_within : length u.functions ≤ most_nodes
  pub blocks_within : length u.blocks ≤ most_nodes
  pub names_within : length u.names ≤ most_nodes

bodies_up : (u : Tables) (k n : ℕ) (s : Statement) → n ≤ k → IsBodyLower u n s → IsBodyLower u k s
bodies_up u k n (line.Function number) le lower = omega (arith, le, lower)
bodies_up u k n _ le lower = tt

same_bodies : (t u : Tables) → ((k : ℕ) → function_at u k ≡ function_at t k) → (n : ℕ) (s : Statement) → IsBodyLower t n s → IsBodyLower u n s
same_bodies t u same n (line.Function number) lower = subst (λ (f : Function). IsLowerRow n f.body) (sym (same number)) lower
same_bodies t u same n _ lower = tt

module _ (t u : Tables) (whole : IsWhole t) (grown : Grown t u) (news : News t u grown) (fits : Fits u) (top : IsLowerRow (length u.statements) u.top) where
  lower_all : (k : ℕ) → k < length u.expressions → IsLower u k (expression_at u k)
  lower_all = at_place (IsLower t) (IsLower u) node.Undefined t.expressions grown.expressions.added u.expressions (λ k x le low. lower_up u u (grown_same u) (length t.expressions) k x le low) (λ k x low. lower_up t u grown k k x (omega arith) low) grown.expressions.whole whole.lower news.expressions

  statements_all : (k : ℕ) → k < length u.statements → IsLowerStatement u k (statement_at u k)
  statements_all = at_place (IsLowerStatement t) (IsLowerStatement u) no_statement t.statements grown.statements.added u.statements (λ k x le low. statement_up u u (grown_same u) (length t.statements) k x le low) (λ k x low. statement_up t u grown k k x (omega arith) low) grown.statements.whole whole.lower_statements news.statements

  bodies_all : (k : ℕ) → k < length u.statements → IsBodyLower u k (statement_at u k)
  bodies_all = at_place (Stands t) (IsBodyLower u) no_statement t.statements grown.statements.added u.statements (λ k x le low. bodies_up u k (length t.statements) x le low) (λ k x stands. body_up t u grown k k k x (omega arith) stands.lower stands.body) grown.statements.whole (stands_at t whole) news.bodies

  functions_all : All (IsFunction u) u.functions
  functions_all = subst (All (IsFunction u)) (sym grown.functions.whole) (All-append (IsFunction u) t.functions grown.functions.added (All-weaker (IsFunction t) (IsFunction u) (function_up t u grown) t.functions whole.functions) news.functions)

  -- tables that grow by parts that may be there are whole
  pub whole_grown : IsWhole u
  whole_grown = record {
    lower = lower_all;
    lower_statements = statements_all;
    lower_bodies = bodies_all;
    functions = functions_all;
    top = top;
    names_differ = fits.names_differ;
    within = fits.within;
    statements_within = fits.statements_within;
    functions_within = fits.functions_within;
    blocks_within = fits.blocks_within;
    names_within = fits.names_within;
  }

fits_of : (t : Tables) → IsWhole t → Fits t
fits_of t whole = record { names_differ = whole.names_differ; within = whole.within; statements_within = whole.statements_within; functions_within = whole.functions_within; blocks_within = whole.blocks_within; names_within = whole.names_within }

pub whole_empty : IsWhole no_tables
whole_empty = record {
  lower = λ k lt. absurd (omega (arith, lt));
  lower_statements = λ k lt. absurd (omega (arith, lt));
  lower_bodies = λ k lt. absurd (omega (arith, lt));
  functions = All-nil (IsFunction no_tables);
  top = omega arith;
  names_differ = λ i j e. let first : 65536 + i ≡ 65536 + j = ap (λ (text : List ℕ). get_or text 0 0) e in omega (arith, first);
  within = omega arith;
  statements_within = omega arith;
  functions_within = omega arith;
  blocks_within = omega arith;
  names_within = omega arith;
}

-- 1. Nodes

abbrev more_expressions : Tables → List Expression → Tables
more_expressions t added = record t { expressions = t.expressions ++ added }

abbrev more_statements : Tables → List Statement → Tables
more_statements t added = record t { statements = t.statements ++ added }

abbrev expressions_grow : (t : Tables) (added : List Expression) → Grown t (more_expressions t added)
expressions_grow t added = record { expressions = extends_more t.expressions added; statements = extends_same t.statements; functions = extends_same t.functions; blocks = extends_same t.blocks; names = extends_same t.names }

abbrev statements_grow : (t : Tables) (added : List Statement) → Grown t (more_statements t added)
statements_grow t added = record { expressions = extends_same t.expressions; statements = extends_more t.statements added; functions = extends_same t.functions; blocks = extends_same t.blocks; names = extends_same t.names }

whole_expressions : (t : Tables) → IsWhole t → (added : List Expression) → length t.expressions + length added ≤ most_nodes → All (IsLower t (length t.expressions)) added → IsWhole (more_expressions t added)
whole_expressions t whole added room lower =
    let u : Tables = more_expressions t added in
    let grown : Grown t u = expressions_grow t added in
    let news : News t u grown = record {
      expressions = All-weaker (IsLower t (length t.expressions)) (IsLower u (length t.expressions)) (λ e low. lower_up t u grown (length t.expressions) (length t.expressions) e (omega arith) low) added lower;
      statements = All-nil (IsLowerStatement u (length t.statements));
      bodies = All-nil (IsBodyLower u (length t.statements));
      functions = All-nil (IsFunction u);
    } in
    let fits : Fits u = record { names_differ = whole.names_differ; within = omega (arith, room, length-append t.expressions added); statements_within = whole.statements_within; functions_within = whole.functions_within; blocks_within = whole.blocks_within; names_within = whole.names_within } in
    whole_grown t u whole grown news fits whole.top

whole_statements : (t : Tables) → IsWhole t → (added : List Statement) → length t.statements + length added ≤ most_nodes → All (IsLowerStatement t (length t.statements)) added → All (IsBodyLower t (length t.statements)) added → IsWhole (more_statements t added)
whole_statements t whole added room lower bodies =
    let u : Tables = more_statements t added in
    let grown : Grown t u = statements_grow t added in
    let news : News t u grown = record {
      expressions = All-nil (IsLower u (length t.expressions));
      statements = All-weaker (IsLowerStatement t (length t.statements)) (IsLowerStatement u (length t.statements)) (λ s low. statement_up t u grown (length t.statements) (length t.statements) s (omega arith) low) added lower;
      bodies = All-weaker (IsBodyLower t (length t.statements)) (IsBodyLower u (length t.statements)) (λ s low. same_bodies t u (λ k. refl) (length t.statements) s low) added bodies;
      functions = All-nil (IsFunction u);
    } in
    let fits : Fits u = record { names_differ = whole.names_differ; within = whole.within; statements_within = omega (arith, room, length-append t.statements added); functions_within = whole.functions_within; blocks_within = whole.blocks_within; names_within = whole.names_within } in
    whole_grown t u whole grown news fits (omega (arith, whole.top, length-append t.statements added))

pub whole_with_expression : (t : Tables) → IsWhole t → (e : Expression) → IsLower t (length t.expressions) e → length t.expressions < most_nodes → IsWhole (with_expression t e)
whole_with_expression t whole e lower room = whole_expressions t whole (e ∷ []) (omega (arith, room)) (All-cons (IsLower t (length t.expressions)) e [] lower (All-nil (IsLower t (length t.expressions))))

pub whole_with_items : (t : Tables) → IsWhole t → (places : List ℕ) → All (λ place. place < length t.expressions) places → length t.expressions + length places ≤ most_nodes → IsWhole (with_items t places)
whole_with_items t whole places lower room = whole_expressions t whole (map (λ place. node.Item place) places) (omega (arith, room, length-map places (λ place. node.Item place))) (All-map (IsLower t (length t.expressions)) (λ place. node.Item place) places lower)

-- the body of a function that is there is below the statements that are there
body_is_below : (t : Tables) → IsWhole t → (s : Statement) → IsLowerStatement t (length t.statements) s → IsBodyLower t (length t.statements) s
body_is_below t whole (line.Function number) lower = let is : IsFunction t (function_at t number) = whole.functions number no_function lower in is.body
body_is_below t whole _ lower = tt

pub whole_with_statement : (t : Tables) → IsWhole t → (s : Statement) → IsLowerStatement t (length t.statements) s → length t.statements < most_nodes → IsWhole (with_statement t s)
whole_with_statement t whole s lower room =
    whole_statements t whole (s ∷ []) (omega (arith, room))
    (All-cons (IsLowerStatement t (length t.statements)) s [] lower (All-nil (IsLowerStatement t (length t.statements))))
    (All-cons (IsBodyLower t (length t.statements)) s [] (body_is_below t whole s lower) (All-nil (IsBodyLower t (length t.statements))))

pub whole_with_statement_items : (t : Tables) → IsWhole t → (places : List ℕ) → All (λ place. place < length t.statements) places → length t.statements + length places ≤ most_nodes → IsWhole (with_statement_items t places)
whole_with_statement_items t whole places lower room =
    whole_statements t whole (map (λ place. line.Item place) places) (omega (arith, room, length-map places (λ place. line.Item place)))
    (All-map (IsLowerStatement t (length t.statements)) (λ place. line.Item place) places lower)
    (All-map (IsBodyLower t (length t.statements)) (λ place. line.Item place) places (λ k d lt. tt))

-- 2. Functions, steps blocks

pub whole_with_function : (t : Tables) → IsWhole t → (f : Function) → IsFunction t f → length t.functions < most_nodes → IsWhole (with_function t f)
whole_with_function t whole f is room =
    let u : Tables = with_function t f in
    let grown : Grown t u = record { expressions = extends_same t.expressions; statements = extends_same t.statements; functions = extends_more t.functions (f ∷ []); blocks = extends_same t.blocks; names = extends_same t.names } in
    let news : News t u grown = record {
      expressions = All-nil (IsLower u (length t.expressions));
      statements = All-nil (IsLowerStatement u (length t.statements));
      bodies = All-nil (IsBodyLower u (length t.statements));
      functions = All-cons (IsFunction u) f [] (function_up t u grown f is) (All-nil (IsFunction u));
    } in
    let fits : Fits u = record { names_differ = whole.names_differ; within = whole.within; statements_within = whole.statements_within; functions_within = omega (arith, room, length-append t.functions (f ∷ [])); blocks_within = whole.blocks_within; names_within = whole.names_within } in
    whole_grown t u whole grown news fits whole.top

pub whole_with_block : (t : Tables) → IsWhole t → (b : StepsBlock) → length t.blocks < most_nodes → IsWhole (with_block t b)
whole_with_block t whole b room =
    let u : Tables = with_block t b in
    let grown : Grown t u = record { expressions = extends_same t.expressions; statements = extends_same t.statements; functions = extends_same t.functions; blocks = extends_more t.blocks (b ∷ []); names = extends_same t.names } in
    let news : News t u grown = record {
      expressions = All-nil (IsLower u (length t.expressions));
      statements = All-nil (IsLowerStatement u (length t.statements));
      bodies = All-nil (IsBodyLower u (length t.statements));
      functions = All-nil (IsFunction u);
    } in
    let fits : Fits u = record { names_differ = whole.names_differ; within = whole.within; statements_within = whole.statements_within; functions_within = whole.functions_within; blocks_within = omega (arith, room, length-append t.blocks (b ∷ [])); names_within = whole.names_within } in
    whole_grown t u whole grown news fits whole.top

-- 3. Names

name_pushed : (t : Tables) → IsWhole t → (text : List ℕ) → ((place : ℕ) → get_or text place 0 < 65536) → length t.names < most_nodes → list_any (bytes_eq text) t.names ≡ false → IsWhole (record t { names = t.names ++ text ∷ [] })
name_pushed t whole text fits room new =
    let u : Tables = record t { names = t.names ++ text ∷ [] } in
    let grown : Grown t u = record { expressions = extends_same t.expressions; statements = extends_same t.statements; functions = extends_same t.functions; blocks = extends_same t.blocks; names = extends_more t.names (text ∷ []) } in
    let news : News t u grown = record {
      expressions = All-nil (IsLower u (length t.expressions));
      statements = All-nil (IsLowerStatement u (length t.statements));
      bodies = All-nil (IsBodyLower u (length t.statements));
      functions = All-nil (IsFunction u);
    } in
    let sizes : Fits u = record { names_differ = differ_pushed t.names text whole.names_differ new fits; within = whole.within; statements_within = whole.statements_within; functions_within = whole.functions_within; blocks_within = whole.blocks_within; names_within = omega (arith, room, length-append t.names (text ∷ [])) } in
    whole_grown t u whole grown news sizes whole.top

pub whole_with_name : (t : Tables) → IsWhole t → (text : List ℕ) → ((place : ℕ) → get_or text place 0 < 65536) → length t.names < most_nodes → IsWhole (with_name t text)
whole_with_name t whole text fits room = either (list_any (bytes_eq text) t.names) refl
  where
    either : (b : Bool) → list_any (bytes_eq text) t.names ≡ b → IsWhole (with_name t text)
    either true e = subst (λ (b : Bool). IsWhole (record t { names = if b then t.names else t.names ++ text ∷ [] })) (sym e) whole
    either false e = subst (λ (b : Bool). IsWhole (record t { names = if b then t.names else t.names ++ text ∷ [] })) (sym e) (name_pushed t whole text fits room e)

-- 4. What else the tables have

-- owners, targets and the statements outside functions are read by no node
pub whole_beside : (t : Tables) → IsWhole t → (owners : List (ℕ × Owner)) (targets : List (CalleeOverload × ℕ)) (row : Row) → IsLowerRow (length t.statements) row → IsWhole (record t { owners = owners; targets = targets; top = row })
whole_beside t whole owners targets row lower =
    let u : Tables = record t { owners = owners; targets = targets; top = row } in
    let grown : Grown t u = record { expressions = extends_same t.expressions; statements = extends_same t.statements; functions = extends_same t.functions; blocks = extends_same t.blocks; names = extends_same t.names } in
    let news : News t u grown = record {
      expressions = All-nil (IsLower u (length t.expressions));
      statements = All-nil (IsLowerStatement u (length t.statements));
      bodies = All-nil (IsBodyLower u (length t.statements));
      functions = All-nil (IsFunction u);
    } in
    let fits : Fits u = record { names_differ = whole.names_differ; within = whole.within; statements_within = whole.statements_within; functions_within = whole.functions_within; blocks_within = whole.blocks_within; names_within = whole.names_within } in
    whole_grown t u whole grown news fits lower
