-- For proofs alone. Blocks that end become statements.
use Rattle.std.proofs.Common.{◌≡◌, ℕ, ◌+◌, ◌<◌, List, [], ◌∷◌, ◌++◌, length, refl, sym, ◌∙◌, ap, subst, arith, length-append}
use Rattle.std.specs.Prelude.{map, Some, Option, slice_get}
use Rattle.std.proofs.lemmas.List.{get_or_push, map-append}
use Rattle.widl_script_tree.specs.declared.row.Row.{Row}
use Rattle.widl_script_tree.specs.declared.statement.Statement.{Statement}
use Rattle.widl_script_tree.specs.declared.statement.Statement.TheVariants as statement
use Rattle.widl_script_tree.specs.declared.function.Function.{Function}
use Rattle.widl_script_tree.specs.declared.steps.StepsBlock.{StepsBlock}
use Rattle.widl_script_tree.specs.declared.steps.Target.{Target}
use Rattle.widl_script_tree.specs.declared.steps.StepLine.{StepLine}
use Rattle.widl_script_tree.specs.Trees.{StatementTree, StatementTrees, FunctionTree, TryT, IfT, FunctionT, function_statement}
use Rattle.widl_script_tree.specs.Tables.{Tables, no_function, name_at, expression_tree, statement_tree, statements_tree, function_at, function_tree, function_over, opened_statement, steps_statement}
use Rattle.widl_script_tree.specs.Growth.{Grown}
use Rattle.widl_script_tree.proofs.Growing.{extends_get, extends_slice}
use Rattle.widl_script_reader.specs.declared.frames.Builder.{Builder}
use Rattle.widl_script_reader.specs.declared.functions.FunctionHead.{FunctionHead}
use Rattle.widl_script_reader.specs.StatementPuts.{statements_at, IsStatementRow, IsFunctionPut, IsBlockPut}
use Rattle.widl_script_reader.specs.BuilderSteps.{IsAdded, IsClosed, IsFunctionClosed, tried_tree, then_tree, else_tree, steps_tree}
use Rattle.widl_script_reader.proofs.Growing.{grown_then}

closed_is : (s : Statement) (tree : Tables → StatementTree) (before : List ℕ) (old start new : Builder) → Grown old.nodes start.nodes → start.nodes.functions ≡ old.nodes.functions → start.nodes.names ≡ old.nodes.names → start.frames.items ≡ old.frames.items → start.places.items ≡ before → start.names ≡ old.names → ((u : Tables) → Grown start.nodes u → opened_statement u (statement_tree u) s ≡ tree u) → IsAdded s start new → IsClosed tree before old new
closed_is s tree before old start new g functions names frames places bound is a = record {
  place = a.place;
  grown = grown_then g a.put.grown;
  functions = a.put.functions ∙ functions;
  table_names = a.put.names ∙ names;
  within = a.put.within;
  is = λ u h. a.put.tree u h ∙ is u (grown_then a.put.grown h);
  frames = a.frames ∙ frames;
  places = a.places ∙ ap (λ x. x ++ a.place ∷ []) places;
  names = a.names ∙ bound;
}

pub catch_closed : (body : Row) (name : ℕ) (before seen : List ℕ) (handler : Row) (old start new : Builder) → seen ≡ old.places.items → IsStatementRow handler seen old.nodes start.nodes → start.frames.items ≡ old.frames.items → start.places.items ≡ before → start.names ≡ old.names → IsAdded (statement.Try body name handler) start new → IsClosed (tried_tree body name old.places.items) before old new
catch_closed body name before seen handler old start new same r frames places bound a = closed_is (statement.Try body name handler) (tried_tree body name old.places.items) before old start new r.grown r.functions r.names frames places bound (λ u g. ap (λ (x : StatementTrees). TryT (statements_tree u body) (name_at u name) x) (r.trees u g ∙ ap (statements_at u) same)) a

pub then_closed : (left right : ℕ) (before seen : List ℕ) (met : Row) (old start new : Builder) → seen ≡ old.places.items → IsStatementRow met seen old.nodes start.nodes → start.frames.items ≡ old.frames.items → start.places.items ≡ before → start.names ≡ old.names → IsAdded (statement.If left right met (record { first = 0; count = 0 })) start new → IsClosed (then_tree left right old.places.items) before old new
then_closed left right before seen met old start new same r frames places bound a = closed_is (statement.If left right met (record { first = 0; count = 0 })) (then_tree left right old.places.items) before old start new r.grown r.functions r.names frames places bound (λ u g. ap (λ (x : StatementTrees). IfT (expression_tree u left) (expression_tree u right) x (statements_at u [])) (r.trees u g ∙ ap (statements_at u) same)) a

pub else_closed : (left right : ℕ) (met : Row) (before seen : List ℕ) (unmet : Row) (old start new : Builder) → seen ≡ old.places.items → IsStatementRow unmet seen old.nodes start.nodes → start.frames.items ≡ old.frames.items → start.places.items ≡ before → start.names ≡ old.names → IsAdded (statement.If left right met unmet) start new → IsClosed (else_tree left right met old.places.items) before old new
else_closed left right met before seen unmet old start new same r frames places bound a = closed_is (statement.If left right met unmet) (else_tree left right met old.places.items) before old start new r.grown r.functions r.names frames places bound (λ u g. ap (λ (x : StatementTrees). IfT (expression_tree u left) (expression_tree u right) (statements_tree u met) x) (r.trees u g ∙ ap (statements_at u) same)) a

pub steps_closed : (target : Target) (lines : List StepLine) (number : ℕ) (old start new : Builder) → IsBlockPut (record { target = target; lines = lines }) number old.nodes start.nodes → start.frames.items ≡ old.frames.items → start.places.items ≡ old.places.items → start.names ≡ old.names → IsAdded (statement.Steps number) start new → IsClosed (steps_tree target lines) old.places.items old new
steps_closed target lines number old start new b frames places bound a = closed_is (statement.Steps number) (steps_tree target lines) old.places.items old start new b.grown b.functions b.names frames places bound (λ u g. ap steps_statement (extends_slice g.blocks number b.within ∙ b.held)) a

pub function_closed : (head : FunctionHead) (outer before seen taken : List ℕ) (row : Row) (number : ℕ) (old start new : Builder) (mid : Tables) → seen ≡ old.places.items → taken ≡ old.names → IsStatementRow row seen old.nodes mid → IsFunctionPut (record { name = head.name; params = head.params; names = taken; body = row }) number mid start.nodes → start.frames.items ≡ old.frames.items → start.places.items ≡ before → start.names ≡ outer → IsAdded (statement.Function number) start new → IsFunctionClosed head outer before old new
function_closed head outer before seen taken row number old start new mid same took r put frames places bound a = record {
  place = a.place;
  grown = grown_then r.grown (grown_then p.grown a.put.grown);
  count = ap length whole ∙ length-append old.nodes.functions (f ∷ []);
  functions = λ u g. ap (map (function_tree u)) whole ∙ map-append (function_tree u) old.nodes.functions (f ∷ []) ∙ ap (λ (x : FunctionTree). map (function_tree u) old.nodes.functions ++ x ∷ []) (tree u (grown_then p.grown (grown_then a.put.grown g)));
  table_names = a.put.names ∙ p.names ∙ r.names;
  within = a.put.within;
  is = λ u g.
      let held : function_at u number ≡ f = extends_get no_function (grown_then a.put.grown g).functions number (omega (arith, p.number_is, ap length p.functions, length-append mid.functions (f ∷ []))) ∙ ap (λ (x : List Function). function_in x) p.functions ∙ get_or_push mid.functions f no_function number (sym p.number_is) in
      a.put.tree u g ∙ ap (λ (x : Function). function_statement number (function_tree u x)) held ∙ ap (λ (x : FunctionTree). function_statement number x) (tree u (grown_then p.grown (grown_then a.put.grown g))) ∙ ap (λ (n : ℕ). function_statement n (of u)) (p.number_is ∙ ap length r.functions);
  frames = a.frames ∙ frames;
  places = a.places ∙ ap (λ x. x ++ a.place ∷ []) places;
  names = a.names ∙ bound;
}
  where
    f : Function
    f = record { name = head.name; params = head.params; names = old.names; body = row }

    p : IsFunctionPut f number mid start.nodes
    p = subst (λ (x : List ℕ). IsFunctionPut (record { name = head.name; params = head.params; names = x; body = row }) number mid start.nodes) took put

    function_in : List Function → Function
    function_in functions = function_at (record old.nodes { functions = functions }) number

    of : Tables → FunctionTree
    of u = record { name = name_at u head.name; params = map (name_at u) head.params; names = map (name_at u) old.names; body = statements_at u old.places.items }

    whole : new.nodes.functions ≡ old.nodes.functions ++ f ∷ []
    whole = a.put.functions ∙ p.functions ∙ ap (λ (x : List Function). x ++ f ∷ []) r.functions

    tree : (u : Tables) → Grown mid u → function_tree u f ≡ of u
    tree u g = ap (λ (x : StatementTrees). record { name = name_at u head.name; params = map (name_at u) head.params; names = map (name_at u) old.names; body = x }) (r.trees u g ∙ ap (statements_at u) same)
