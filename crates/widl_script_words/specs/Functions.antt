-- The functions of a script, and the names that are local in them.
-- Source: this program's own.
use Rattle.std.specs.Prelude.{ℕ, List, [], ◌∷◌, ◌++◌, fold, bytes_eq, if◌then◌else◌}
use Rattle.std.specs.List.{list_any}
use Rattle.widl_script_tree.specs.Trees.{Text, StatementTree, LetT, DoT, ReturnT, ThrowT, ShowT, SetT, DefineT, DefineAccessorT, DeleteT, TryT, IfT, FunctionT, StepsT, StatementTrees, no_statements, then_more, FunctionTree}

-- each name once
abbrev pub with_name : List Text → Text → List Text
with_name names text = if list_any (bytes_eq text) names then names else names ++ text ∷ []

-- these names, and what statements bind: `let` and `catch` at any depth, but not in a function among them
abbrev mutual
  pub with_bound : List Text → StatementTree → List Text
  with_bound names (LetT text t) = with_name names text
  with_bound names (TryT body text handler) = with_all_bound (with_name (with_all_bound names body) text) handler
  with_bound names (IfT left right met unmet) = with_all_bound (with_all_bound names met) unmet
  with_bound names _ = names

  pub with_all_bound : List Text → StatementTrees → List Text
  with_all_bound names no_statements = names
  with_all_bound names (then_more s ss) = with_all_bound (with_bound names s) ss

-- the names that are local in a function: its parameters, and what its statements bind
abbrev pub local_names : List Text → StatementTrees → List Text
local_names params body = with_all_bound (fold with_name [] params) body

abbrev pub function_of : Text → List Text → StatementTrees → FunctionTree
function_of text params body = record { name = text; params = params; names = local_names params body; body = body }

abbrev mutual
  -- the functions in a statement, in the order in which they end
  pub functions_of : StatementTree → List FunctionTree
  functions_of (TryT body text handler) = functions_in body ++ functions_in handler
  functions_of (IfT left right met unmet) = functions_in met ++ functions_in unmet
  functions_of (FunctionT number text params body) = functions_in body ++ function_of text params body ∷ []
  functions_of _ = []

  pub functions_in : StatementTrees → List FunctionTree
  functions_in no_statements = []
  functions_in (then_more s ss) = functions_of s ++ functions_in ss
