-- For proofs alone. What is known of a script's lines while blocks are open.
use Rattle.std.specs.Prelude.{◌≡◌, ℕ, Bool, true, false, List, [], ◌∷◌, ◌++◌, fold}
use Rattle.widl_lines.specs.Words.{Lexeme}
use Rattle.widl_script_tree.specs.declared.steps.Target.{Target}
use Rattle.widl_script_tree.specs.declared.steps.StepLine.{StepLine}
use Rattle.widl_script_tree.specs.Trees.{Text, ExpressionTree, StatementTrees, FunctionTree}
use Rattle.widl_script_words.specs.Signs.{SpellsLine}
use Rattle.widl_script_words.specs.Functions.{with_name, with_all_bound, functions_in}
use Rattle.widl_script_words.specs.SpelledStatements.{try_signs, catch_signs, if_signs, else_signs, function_signs, steps_signs, Lines, followed_by, Stated, Stepped}

-- an open block, with the statements before it where the block has statements of its own
pub data Open : Type 0 where
  InTry : StatementTrees → Open
  InCatch : StatementTrees → StatementTrees → Text → Open
  InThen : StatementTrees → ExpressionTree → ExpressionTree → Open
  InElse : StatementTrees → ExpressionTree → ExpressionTree → StatementTrees → Open
  InFunction : StatementTrees → Text → List Text → Open
  InSteps : Target → List StepLine → Open

-- a block opened by a line before `start`, behind statements
pub record Opened (Outer : ℕ → Lines → Type 0) (Opens : List Lexeme → Type 0) (n : ℕ) (start : Lines) : Type 0 where
  pub opening : List Lexeme
  pub opens : Opens opening
  pub outer : Outer n (opening ∷ start)

-- the lines from the first one to `rest` open these blocks and leave these statements in the innermost one that has statements, and so many functions have ended
abbrev pub Nested : Lines → List Open → StatementTrees → ℕ → Lines → Type 0
Nested all [] done n rest = Stated done 0 all n rest
Nested all (InTry before ∷ stack) done n rest = (k : ℕ) × (start : Lines) × Opened (Nested all stack before) (SpellsLine try_signs) k start × Stated done k start n rest
Nested all (InCatch before body text ∷ stack) done n rest = (k : ℕ) × (start : Lines) × Opened (Nested all stack before) (SpellsLine try_signs) k start × (i : ℕ) × (turn : List Lexeme) × (mid : Lines) × Stated body k start i (turn ∷ mid) × SpellsLine (catch_signs text) turn × Stated done i mid n rest
Nested all (InThen before left right ∷ stack) done n rest = (k : ℕ) × (start : Lines) × Opened (Nested all stack before) (SpellsLine (if_signs left right)) k start × Stated done k start n rest
Nested all (InElse before left right met ∷ stack) done n rest = (k : ℕ) × (start : Lines) × Opened (Nested all stack before) (SpellsLine (if_signs left right)) k start × (i : ℕ) × (turn : List Lexeme) × (mid : Lines) × Stated met k start i (turn ∷ mid) × SpellsLine else_signs turn × Stated done i mid n rest
Nested all (InFunction before text params ∷ stack) done n rest = (k : ℕ) × (start : Lines) × Opened (Nested all stack before) (SpellsLine (function_signs text params)) k start × Stated done k start n rest
Nested all (InSteps target block ∷ stack) done n rest = (before inner : StatementTrees) × (done ≡ followed_by before inner) × (k : ℕ) × (start : Lines) × Opened (Nested all stack before) (SpellsLine (steps_signs target)) k start × Stepped block inner k start n rest

-- the innermost open block is no steps block
abbrev pub is_outside : List Open → Bool
is_outside (InSteps target block ∷ stack) = false
is_outside _ = true

-- the functions that have ended, in this order
abbrev pub functions_within : List Open → StatementTrees → List FunctionTree
functions_within [] done = functions_in done
functions_within (InTry before ∷ stack) done = functions_within stack before ++ functions_in done
functions_within (InCatch before body text ∷ stack) done = functions_within stack before ++ functions_in body ++ functions_in done
functions_within (InThen before left right ∷ stack) done = functions_within stack before ++ functions_in done
functions_within (InElse before left right met ∷ stack) done = functions_within stack before ++ functions_in met ++ functions_in done
functions_within (InFunction before text params ∷ stack) done = functions_within stack before ++ functions_in done
functions_within (InSteps target block ∷ stack) done = functions_within stack done

-- the names that the innermost function, or the script outside functions, has bound
abbrev pub bound_within : List Open → StatementTrees → List Text
bound_within [] done = with_all_bound [] done
bound_within (InTry before ∷ stack) done = with_all_bound (bound_within stack before) done
bound_within (InCatch before body text ∷ stack) done = with_all_bound (with_name (with_all_bound (bound_within stack before) body) text) done
bound_within (InThen before left right ∷ stack) done = with_all_bound (bound_within stack before) done
bound_within (InElse before left right met ∷ stack) done = with_all_bound (with_all_bound (bound_within stack before) met) done
bound_within (InFunction before text params ∷ stack) done = with_all_bound (fold with_name [] params) done
bound_within (InSteps target block ∷ stack) done = bound_within stack done

-- the names that are kept while a function is read are those that were bound before it
abbrev pub AreKept : List Open → List (List Text) → Type 0
AreKept [] [] = Unit {0}
AreKept [] (names ∷ kept) = ⊥
AreKept (InFunction before text params ∷ stack) [] = ⊥
AreKept (InFunction before text params ∷ stack) (names ∷ kept) = (names ≡ bound_within stack before) × AreKept stack kept
AreKept (block ∷ stack) kept = AreKept stack kept

-- the same of the lines, of the functions that have ended, and of the names that the innermost function and those around it have bound
pub record Standing (all : Lines) (stack : List Open) (kept : List (List Text)) (done : StatementTrees) (n : ℕ) (functions : List FunctionTree) (names : List Text) (rest : Lines) : Type 0 where
  pub nested : Nested all stack done n rest
  pub functions_are : functions ≡ functions_within stack done
  pub names_are : names ≡ bound_within stack done
  pub kept_are : AreKept stack kept
