-- For proofs alone. What each line does to the lines so far, to the functions that have ended and to the names that are bound.
use Rattle.std.proofs.Common.{◌≡◌, ℕ, suc, true, List, [], ◌∷◌, ◌++◌, refl, sym, ◌∙◌, ap}
use Rattle.std.specs.Prelude.{fold}
use Rattle.widl_lines.specs.Words.{Lexeme}
use Rattle.widl_script_tree.specs.declared.steps.Target.{Target}
use Rattle.widl_script_tree.specs.declared.steps.StepLine.{StepLine}
use Rattle.widl_script_tree.specs.Trees.{Text, ExpressionTree, StatementTree, LetT, DoT, ReturnT, ThrowT, ShowT, SetT, DefineT, DefineAccessorT, DeleteT, TryT, IfT, FunctionT, StepsT, StatementTrees, no_statements, then_more, FunctionTree}
use Rattle.widl_script_words.specs.Signs.{SpellsLine}
use Rattle.widl_script_words.specs.SpelledSteps.{step_signs}
use Rattle.widl_script_words.specs.Functions.{with_name, with_bound, function_of, functions_of}
use Rattle.widl_script_words.specs.SpelledStatements.{statement_signs, try_signs, catch_signs, if_signs, else_signs, function_signs, steps_signs, end_signs, Lines, followed_by}
use Rattle.widl_script_reader.specs.OpenBlocks.{Open, InTry, InCatch, InThen, InElse, InFunction, InSteps, is_outside, functions_within, Standing}
use Rattle.widl_script_reader.proofs.Nesting.{line_read, step_read, try_opened, if_opened, function_opened, steps_opened, try_turned, if_turned, try_closed, if_closed, else_closed, function_closed, steps_closed, functions_line, functions_opened, functions_turned, functions_of_try, functions_of_if, functions_of_else, functions_of_function, functions_of_steps, bound_line, bound_of_try, bound_of_if, bound_of_else, bound_of_function, bound_of_steps}

-- a statement of one line has no function
alone_has_none : (s : StatementTree) (words : List Lexeme) → SpellsLine (statement_signs s) words → functions_of s ≡ []
alone_has_none (LetT text t) words h = refl
alone_has_none (DoT t) words h = refl
alone_has_none (ReturnT t) words h = refl
alone_has_none (ThrowT t) words h = refl
alone_has_none (ShowT t) words h = refl
alone_has_none (SetT m t) words h = refl
alone_has_none (DefineT m t hidden) words h = refl
alone_has_none (DefineAccessorT m g setter) words h = refl
alone_has_none (DeleteT m) words h = refl
alone_has_none (TryT body text handler) words h = absurd h.3
alone_has_none (IfT left right met unmet) words h = absurd h.3
alone_has_none (FunctionT number text params body) words h = absurd h.3
alone_has_none (StepsT target block) words h = absurd h.3

pub stands_line : (all : Lines) (stack : List Open) (kept : List (List Text)) (done : StatementTrees) (s : StatementTree) (n : ℕ) (functions : List FunctionTree) (names : List Text) (words : List Lexeme) (rest : Lines) → is_outside stack ≡ true → SpellsLine (statement_signs s) words → Standing all stack kept done n functions names (words ∷ rest) → Standing all stack kept (followed_by done (then_more s no_statements)) n functions (with_bound names s) rest
stands_line all stack kept done s n functions names words rest o g h = record {
  nested = line_read all stack done s n words rest o h.nested g;
  functions_are = h.functions_are ∙ sym (functions_line stack done s (alone_has_none s words g));
  names_are = ap (λ x. with_bound x s) h.names_are ∙ sym (bound_line stack done s);
  kept_are = h.kept_are;
}

pub stands_step : (all : Lines) (stack : List Open) (kept : List (List Text)) (target : Target) (block : List StepLine) (s : StepLine) (done : StatementTrees) (n : ℕ) (functions : List FunctionTree) (names : List Text) (words : List Lexeme) (rest : Lines) → SpellsLine (step_signs s) words → Standing all (InSteps target block ∷ stack) kept done n functions names (words ∷ rest) → Standing all (InSteps target (block ++ s ∷ []) ∷ stack) kept done n functions names rest
stands_step all stack kept target block s done n functions names words rest g h = record { nested = step_read all stack target block s done n words rest h.nested g; functions_are = h.functions_are; names_are = h.names_are; kept_are = h.kept_are }

pub stands_try_opened : (all : Lines) (stack : List Open) (kept : List (List Text)) (done : StatementTrees) (n : ℕ) (functions : List FunctionTree) (names : List Text) (words : List Lexeme) (rest : Lines) → SpellsLine try_signs words → Standing all stack kept done n functions names (words ∷ rest) → Standing all (InTry done ∷ stack) kept no_statements n functions names rest
stands_try_opened all stack kept done n functions names words rest g h = record { nested = try_opened all stack done n words rest h.nested g; functions_are = h.functions_are ∙ sym (functions_opened stack done); names_are = h.names_are; kept_are = h.kept_are }

pub stands_if_opened : (all : Lines) (stack : List Open) (kept : List (List Text)) (left right : ExpressionTree) (done : StatementTrees) (n : ℕ) (functions : List FunctionTree) (names : List Text) (words : List Lexeme) (rest : Lines) → SpellsLine (if_signs left right) words → Standing all stack kept done n functions names (words ∷ rest) → Standing all (InThen done left right ∷ stack) kept no_statements n functions names rest
stands_if_opened all stack kept left right done n functions names words rest g h = record { nested = if_opened all stack left right done n words rest h.nested g; functions_are = h.functions_are ∙ sym (functions_opened stack done); names_are = h.names_are; kept_are = h.kept_are }

pub stands_function_opened : (all : Lines) (stack : List Open) (kept : List (List Text)) (text : Text) (params : List Text) (done : StatementTrees) (n : ℕ) (functions : List FunctionTree) (names : List Text) (words : List Lexeme) (rest : Lines) → SpellsLine (function_signs text params) words → Standing all stack kept done n functions names (words ∷ rest) → Standing all (InFunction done text params ∷ stack) (names ∷ kept) no_statements n functions (fold with_name [] params) rest
stands_function_opened all stack kept text params done n functions names words rest g h = record { nested = function_opened all stack text params done n words rest h.nested g; functions_are = h.functions_are ∙ sym (functions_opened stack done); names_are = refl; kept_are = (h.names_are, h.kept_are) }

pub stands_steps_opened : (all : Lines) (stack : List Open) (kept : List (List Text)) (target : Target) (done : StatementTrees) (n : ℕ) (functions : List FunctionTree) (names : List Text) (words : List Lexeme) (rest : Lines) → SpellsLine (steps_signs target) words → Standing all stack kept done n functions names (words ∷ rest) → Standing all (InSteps target [] ∷ stack) kept done n functions names rest
stands_steps_opened all stack kept target done n functions names words rest g h = record { nested = steps_opened all stack target done n words rest h.nested g; functions_are = h.functions_are; names_are = h.names_are; kept_are = h.kept_are }

pub stands_try_turned : (all : Lines) (stack : List Open) (kept : List (List Text)) (before done : StatementTrees) (text : Text) (n : ℕ) (functions : List FunctionTree) (names : List Text) (words : List Lexeme) (rest : Lines) → SpellsLine (catch_signs text) words → Standing all (InTry before ∷ stack) kept done n functions names (words ∷ rest) → Standing all (InCatch before done text ∷ stack) kept no_statements n functions (with_name names text) rest
stands_try_turned all stack kept before done text n functions names words rest g h = record { nested = try_turned all stack before done text n words rest h.nested g; functions_are = h.functions_are ∙ sym (functions_opened (InTry before ∷ stack) done); names_are = ap (λ x. with_name x text) h.names_are; kept_are = h.kept_are }

pub stands_if_turned : (all : Lines) (stack : List Open) (kept : List (List Text)) (before done : StatementTrees) (left right : ExpressionTree) (n : ℕ) (functions : List FunctionTree) (names : List Text) (words : List Lexeme) (rest : Lines) → SpellsLine else_signs words → Standing all (InThen before left right ∷ stack) kept done n functions names (words ∷ rest) → Standing all (InElse before left right done ∷ stack) kept no_statements n functions names rest
stands_if_turned all stack kept before done left right n functions names words rest g h = record { nested = if_turned all stack before done left right n words rest h.nested g; functions_are = h.functions_are ∙ sym (functions_opened (InThen before left right ∷ stack) done); names_are = h.names_are; kept_are = h.kept_are }

pub stands_try_closed : (all : Lines) (stack : List Open) (kept : List (List Text)) (before body done : StatementTrees) (text : Text) (n : ℕ) (functions : List FunctionTree) (names : List Text) (words : List Lexeme) (rest : Lines) → is_outside stack ≡ true → SpellsLine end_signs words → Standing all (InCatch before body text ∷ stack) kept done n functions names (words ∷ rest) → Standing all stack kept (followed_by before (then_more (TryT body text done) no_statements)) n functions names rest
stands_try_closed all stack kept before body done text n functions names words rest o g h = record { nested = try_closed all stack before body done text n words rest o h.nested g; functions_are = h.functions_are ∙ sym (functions_of_try stack before body done text); names_are = h.names_are ∙ sym (bound_of_try stack before body done text); kept_are = h.kept_are }

pub stands_if_closed : (all : Lines) (stack : List Open) (kept : List (List Text)) (before done : StatementTrees) (left right : ExpressionTree) (n : ℕ) (functions : List FunctionTree) (names : List Text) (words : List Lexeme) (rest : Lines) → is_outside stack ≡ true → SpellsLine end_signs words → Standing all (InThen before left right ∷ stack) kept done n functions names (words ∷ rest) → Standing all stack kept (followed_by before (then_more (IfT left right done no_statements) no_statements)) n functions names rest
stands_if_closed all stack kept before done left right n functions names words rest o g h = record { nested = if_closed all stack before done left right n words rest o h.nested g; functions_are = h.functions_are ∙ sym (functions_of_if stack before done left right); names_are = h.names_are ∙ sym (bound_of_if stack before done left right); kept_are = h.kept_are }

pub stands_else_closed : (all : Lines) (stack : List Open) (kept : List (List Text)) (before met done : StatementTrees) (left right : ExpressionTree) (n : ℕ) (functions : List FunctionTree) (names : List Text) (words : List Lexeme) (rest : Lines) → is_outside stack ≡ true → SpellsLine end_signs words → Standing all (InElse before left right met ∷ stack) kept done n functions names (words ∷ rest) → Standing all stack kept (followed_by before (then_more (IfT left right met done) no_statements)) n functions names rest
stands_else_closed all stack kept before met done left right n functions names words rest o g h = record { nested = else_closed all stack before met done left right n words rest o h.nested g; functions_are = h.functions_are ∙ sym (functions_of_else stack before met done left right); names_are = h.names_are ∙ sym (bound_of_else stack before met done left right); kept_are = h.kept_are }

-- the function has the names that were bound in it, and the names around it count again
pub stands_function_closed : (all : Lines) (stack : List Open) (outer : List Text) (kept : List (List Text)) (before done : StatementTrees) (text : Text) (params : List Text) (n : ℕ) (functions : List FunctionTree) (names : List Text) (words : List Lexeme) (rest : Lines) → SpellsLine end_signs words → Standing all (InFunction before text params ∷ stack) (outer ∷ kept) done n functions names (words ∷ rest) → Standing all stack kept (followed_by before (then_more (FunctionT n text params done) no_statements)) (suc n) (functions ++ record { name = text; params = params; names = names; body = done } ∷ []) outer rest
stands_function_closed all stack outer kept before done text params n functions names words rest g h =
    let f : FunctionTree = record { name = text; params = params; names = names; body = done } in
    let same : f ≡ function_of text params done = λ i. record { name = text; params = params; names = h.names_are i; body = done } in
    record {
      nested = function_closed all stack before done text params n words rest h.nested g;
      functions_are = ap (λ (x : FunctionTree). functions ++ x ∷ []) same ∙ ap (λ x. x ++ function_of text params done ∷ []) h.functions_are ∙ sym (functions_of_function stack before done text params n);
      names_are = h.kept_are.0 ∙ sym (bound_of_function stack before done text params n);
      kept_are = h.kept_are.1;
    }

pub stands_steps_closed : (all : Lines) (stack : List Open) (kept : List (List Text)) (target : Target) (block : List StepLine) (done : StatementTrees) (n : ℕ) (functions : List FunctionTree) (names : List Text) (words : List Lexeme) (rest : Lines) → SpellsLine end_signs words → Standing all (InSteps target block ∷ stack) kept done n functions names (words ∷ rest) → Standing all stack kept (followed_by done (then_more (StepsT target block) no_statements)) n functions names rest
stands_steps_closed all stack kept target block done n functions names words rest g h = record { nested = steps_closed all stack target block done n words rest h.nested g; functions_are = h.functions_are ∙ sym (functions_of_steps stack target block done); names_are = h.names_are ∙ sym (bound_of_steps stack target block done); kept_are = h.kept_are }
