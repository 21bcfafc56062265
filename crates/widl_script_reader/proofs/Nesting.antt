-- For proofs alone. Open blocks: what the lines so far are, and what each line does to that.
use Rattle.std.proofs.Common.{◌≡◌, ℕ, suc, Bool, true, false, List, [], ◌∷◌, ◌++◌, refl, sym, ◌∙◌, ap, subst, append_assoc, append-nil}
use Rattle.std.specs.Prelude.{fold}
use Rattle.widl_lines.specs.Words.{Lexeme}
use Rattle.widl_script_tree.specs.declared.steps.Target.{Target}
use Rattle.widl_script_tree.specs.declared.steps.StepLine.{StepLine}
use Rattle.widl_script_tree.specs.Trees.{Text, ExpressionTree, StatementTree, TryT, IfT, FunctionT, StepsT, StatementTrees, no_statements, then_more, FunctionTree}
use Rattle.widl_script_words.specs.Signs.{SpellsLine}
use Rattle.widl_script_words.specs.SpelledSteps.{step_signs}
use Rattle.widl_script_words.specs.Functions.{with_name, with_all_bound, with_bound, local_names, function_of, functions_of, functions_in}
use Rattle.widl_script_words.specs.SpelledStatements.{statement_signs, try_signs, catch_signs, if_signs, else_signs, function_signs, steps_signs, end_signs, Lines, followed_by, Stated, over, alone, tried, either, maybe, function, steps, Stepped, no_step, one_step, function_inside, steps_inside}
use Rattle.widl_script_reader.specs.OpenBlocks.{Open, InTry, InCatch, InThen, InElse, InFunction, InSteps, Nested, is_outside, functions_within, bound_within}

-- 1. Statements after one another

pub followed_twice : (a b c : StatementTrees) → followed_by (followed_by a b) c ≡ followed_by a (followed_by b c)
followed_twice no_statements b c = refl
followed_twice (then_more s a) b c = ap (then_more s) (followed_twice a b c)

pub followed_by_none : (a : StatementTrees) → followed_by a no_statements ≡ a
followed_by_none no_statements = refl
followed_by_none (then_more s a) = ap (then_more s) (followed_by_none a)

pub joined : {a b : StatementTrees} {n m k : ℕ} {from mid to : Lines} → Stated a n from m mid → Stated b m mid k to → Stated (followed_by a b) n from k to
joined over g = g
joined (alone h more) g = alone h (joined more g)
joined (tried h b c d e more) g = tried h b c d e (joined more g)
joined (either h b c d e more) g = either h b c d e (joined more g)
joined (maybe h b e more) g = maybe h b e (joined more g)
joined (function h b e more) g = function h b e (joined more g)
joined {b} {k} {to} (steps target block inner ss {n} {opening} {from} h c e more) g =
    subst (λ x. Stated x n (opening ∷ from) k to) (sym (followed_twice inner (then_more (StepsT target block) ss) b)) (steps target block inner (followed_by ss b) h c e (joined more g))

pub steps_joined : {a b : List StepLine} {p q : StatementTrees} {n m k : ℕ} {from mid to : Lines} → Stepped a p n from m mid → Stepped b q m mid k to → Stepped (a ++ b) (followed_by p q) n from k to
steps_joined no_step g = g
steps_joined (one_step h more) g = one_step h (steps_joined more g)
steps_joined (function_inside h b e more) g = function_inside h b e (steps_joined more g)
steps_joined {b} {q} {k} {to} (steps_inside target other deep inner {block} {n} {opening} {from} h c e more) g =
    subst (λ x. Stepped (block ++ b) x n (opening ∷ from) k to) (sym (followed_twice deep (then_more (StepsT target other) inner) q)) (steps_inside target other deep (followed_by inner q) h c e (steps_joined more g))

-- 2. Lines

-- the words of a plain list of statements, read where no steps block is innermost
pub put : (all : Lines) (stack : List Open) (done more : StatementTrees) (n m : ℕ) (from to : Lines) → is_outside stack ≡ true → Nested all stack done n from → Stated more n from m to → Nested all stack (followed_by done more) m to
put all [] done more n m from to o h g = joined h g
put all (InTry before ∷ stack) done more n m from to o h g = (h.0, h.1, h.2, joined h.3 g)
put all (InCatch before body text ∷ stack) done more n m from to o h g = (h.0, h.1, h.2, h.3, h.4, h.5, h.6, h.7, joined h.8 g)
put all (InThen before left right ∷ stack) done more n m from to o h g = (h.0, h.1, h.2, joined h.3 g)
put all (InElse before left right met ∷ stack) done more n m from to o h g = (h.0, h.1, h.2, h.3, h.4, h.5, h.6, h.7, joined h.8 g)
put all (InFunction before text params ∷ stack) done more n m from to o h g = (h.0, h.1, h.2, joined h.3 g)
put all (InSteps target block ∷ stack) done more n m from to o h g = absurd (let bad : false ≡ true = o in cc)

-- a function or a steps block, wherever it stands
pub put_block : (all : Lines) (stack : List Open) (done more : StatementTrees) (n m : ℕ) (from to : Lines) → Nested all stack done n from → Stated more n from m to → Stepped [] more n from m to → Nested all stack (followed_by done more) m to
put_block all (InSteps target block ∷ stack) done more n m from to h g k =
    let same : followed_by done more ≡ followed_by h.0 (followed_by h.1 more) = ap (λ x. followed_by x more) h.2 ∙ followed_twice h.0 h.1 more in
    (h.0, followed_by h.1 more, same, h.3, h.4, h.5, subst (λ (x : List StepLine). Stepped x (followed_by h.1 more) h.3 h.4 m to) (append-nil block) (steps_joined h.6 k))
put_block all [] done more n m from to h g k = put all [] done more n m from to refl h g
put_block all (InTry before ∷ stack) done more n m from to h g k = put all (InTry before ∷ stack) done more n m from to refl h g
put_block all (InCatch before body text ∷ stack) done more n m from to h g k = put all (InCatch before body text ∷ stack) done more n m from to refl h g
put_block all (InThen before left right ∷ stack) done more n m from to h g k = put all (InThen before left right ∷ stack) done more n m from to refl h g
put_block all (InElse before left right met ∷ stack) done more n m from to h g k = put all (InElse before left right met ∷ stack) done more n m from to refl h g
put_block all (InFunction before text params ∷ stack) done more n m from to h g k = put all (InFunction before text params ∷ stack) done more n m from to refl h g

-- a line that is a statement
pub line_read : (all : Lines) (stack : List Open) (done : StatementTrees) (s : StatementTree) (n : ℕ) (words : List Lexeme) (rest : Lines) → is_outside stack ≡ true → Nested all stack done n (words ∷ rest) → SpellsLine (statement_signs s) words → Nested all stack (followed_by done (then_more s no_statements)) n rest
line_read all stack done s n words rest o h g = put all stack done (then_more s no_statements) n n (words ∷ rest) rest o h (alone g over)

-- a line that is a step
pub step_read : (all : Lines) (stack : List Open) (target : Target) (block : List StepLine) (s : StepLine) (done : StatementTrees) (n : ℕ) (words : List Lexeme) (rest : Lines) → Nested all (InSteps target block ∷ stack) done n (words ∷ rest) → SpellsLine (step_signs s) words → Nested all (InSteps target (block ++ s ∷ []) ∷ stack) done n rest
step_read all stack target block s done n words rest h g = (h.0, h.1, h.2, h.3, h.4, h.5, subst (λ x. Stepped (block ++ s ∷ []) x h.3 h.4 n rest) (followed_by_none h.1) (steps_joined h.6 (one_step g no_step)))

-- 3. Blocks

pub try_opened : (all : Lines) (stack : List Open) (done : StatementTrees) (n : ℕ) (words : List Lexeme) (rest : Lines) → Nested all stack done n (words ∷ rest) → SpellsLine try_signs words → Nested all (InTry done ∷ stack) no_statements n rest
try_opened all stack done n words rest h g = (n, rest, record { opening = words; opens = g; outer = h }, over)

pub if_opened : (all : Lines) (stack : List Open) (left right : ExpressionTree) (done : StatementTrees) (n : ℕ) (words : List Lexeme) (rest : Lines) → Nested all stack done n (words ∷ rest) → SpellsLine (if_signs left right) words → Nested all (InThen done left right ∷ stack) no_statements n rest
if_opened all stack left right done n words rest h g = (n, rest, record { opening = words; opens = g; outer = h }, over)

pub function_opened : (all : Lines) (stack : List Open) (text : Text) (params : List Text) (done : StatementTrees) (n : ℕ) (words : List Lexeme) (rest : Lines) → Nested all stack done n (words ∷ rest) → SpellsLine (function_signs text params) words → Nested all (InFunction done text params ∷ stack) no_statements n rest
function_opened all stack text params done n words rest h g = (n, rest, record { opening = words; opens = g; outer = h }, over)

pub steps_opened : (all : Lines) (stack : List Open) (target : Target) (done : StatementTrees) (n : ℕ) (words : List Lexeme) (rest : Lines) → Nested all stack done n (words ∷ rest) → SpellsLine (steps_signs target) words → Nested all (InSteps target [] ∷ stack) done n rest
steps_opened all stack target done n words rest h g = (done, no_statements, sym (followed_by_none done), n, rest, record { opening = words; opens = g; outer = h }, no_step)

pub try_turned : (all : Lines) (stack : List Open) (before done : StatementTrees) (text : Text) (n : ℕ) (words : List Lexeme) (rest : Lines) → Nested all (InTry before ∷ stack) done n (words ∷ rest) → SpellsLine (catch_signs text) words → Nested all (InCatch before done text ∷ stack) no_statements n rest
try_turned all stack before done text n words rest h g = (h.0, h.1, h.2, n, words, rest, h.3, g, over)

pub if_turned : (all : Lines) (stack : List Open) (before done : StatementTrees) (left right : ExpressionTree) (n : ℕ) (words : List Lexeme) (rest : Lines) → Nested all (InThen before left right ∷ stack) done n (words ∷ rest) → SpellsLine else_signs words → Nested all (InElse before left right done ∷ stack) no_statements n rest
if_turned all stack before done left right n words rest h g = (h.0, h.1, h.2, n, words, rest, h.3, g, over)

pub try_closed : (all : Lines) (stack : List Open) (before body done : StatementTrees) (text : Text) (n : ℕ) (words : List Lexeme) (rest : Lines) → is_outside stack ≡ true → Nested all (InCatch before body text ∷ stack) done n (words ∷ rest) → SpellsLine end_signs words → Nested all stack (followed_by before (then_more (TryT body text done) no_statements)) n rest
try_closed all stack before body done text n words rest o h g = put all stack before (then_more (TryT body text done) no_statements) h.0 n (h.2.opening ∷ h.1) rest o h.2.outer (tried h.2.opens h.6 h.7 h.8 g over)

pub if_closed : (all : Lines) (stack : List Open) (before done : StatementTrees) (left right : ExpressionTree) (n : ℕ) (words : List Lexeme) (rest : Lines) → is_outside stack ≡ true → Nested all (InThen before left right ∷ stack) done n (words ∷ rest) → SpellsLine end_signs words → Nested all stack (followed_by before (then_more (IfT left right done no_statements) no_statements)) n rest
if_closed all stack before done left right n words rest o h g = put all stack before (then_more (IfT left right done no_statements) no_statements) h.0 n (h.2.opening ∷ h.1) rest o h.2.outer (maybe h.2.opens h.3 g over)

pub else_closed : (all : Lines) (stack : List Open) (before met done : StatementTrees) (left right : ExpressionTree) (n : ℕ) (words : List Lexeme) (rest : Lines) → is_outside stack ≡ true → Nested all (InElse before left right met ∷ stack) done n (words ∷ rest) → SpellsLine end_signs words → Nested all stack (followed_by before (then_more (IfT left right met done) no_statements)) n rest
else_closed all stack before met done left right n words rest o h g = put all stack before (then_more (IfT left right met done) no_statements) h.0 n (h.2.opening ∷ h.1) rest o h.2.outer (either h.2.opens h.6 h.7 h.8 g over)

pub function_closed : (all : Lines) (stack : List Open) (before done : StatementTrees) (text : Text) (params : List Text) (n : ℕ) (words : List Lexeme) (rest : Lines) → Nested all (InFunction before text params ∷ stack) done n (words ∷ rest) → SpellsLine end_signs words → Nested all stack (followed_by before (then_more (FunctionT n text params done) no_statements)) (suc n) rest
function_closed all stack before done text params n words rest h g = put_block all stack before (then_more (FunctionT n text params done) no_statements) h.0 (suc n) (h.2.opening ∷ h.1) rest h.2.outer (function h.2.opens h.3 g over) (function_inside h.2.opens h.3 g no_step)

pub steps_closed : (all : Lines) (stack : List Open) (target : Target) (block : List StepLine) (done : StatementTrees) (n : ℕ) (words : List Lexeme) (rest : Lines) → Nested all (InSteps target block ∷ stack) done n (words ∷ rest) → SpellsLine end_signs words → Nested all stack (followed_by done (then_more (StepsT target block) no_statements)) n rest
steps_closed all stack target block done n words rest h g =
    let more : StatementTrees = followed_by h.1 (then_more (StepsT target block) no_statements) in
    let same : followed_by h.0 more ≡ followed_by done (then_more (StepsT target block) no_statements) = sym (followed_twice h.0 h.1 (then_more (StepsT target block) no_statements)) ∙ sym (ap (λ x. followed_by x (then_more (StepsT target block) no_statements)) h.2) in
    subst (λ x. Nested all stack x n rest) same (put_block all stack h.0 more h.3 n (h.5.opening ∷ h.4) rest h.5.outer (steps target block h.1 no_statements h.5.opens h.6 g over) (steps_inside target block h.1 no_statements h.5.opens h.6 g no_step))

-- 4. Functions and names

pub functions_joined : (a b : StatementTrees) → functions_in (followed_by a b) ≡ functions_in a ++ functions_in b
functions_joined no_statements b = refl
functions_joined (then_more s a) b = ap (λ x. functions_of s ++ x) (functions_joined a b) ∙ sym (append_assoc (functions_of s) (functions_in a) (functions_in b))

pub functions_put : (stack : List Open) (done more : StatementTrees) → functions_within stack (followed_by done more) ≡ functions_within stack done ++ functions_in more
functions_put [] done more = functions_joined done more
functions_put (InTry before ∷ stack) done more = ap (λ x. functions_within stack before ++ x) (functions_joined done more) ∙ sym (append_assoc (functions_within stack before) (functions_in done) (functions_in more))
functions_put (InCatch before body text ∷ stack) done more = ap (λ x. functions_within stack before ++ functions_in body ++ x) (functions_joined done more) ∙ sym (append_assoc (functions_within stack before ++ functions_in body) (functions_in done) (functions_in more))
functions_put (InThen before left right ∷ stack) done more = ap (λ x. functions_within stack before ++ x) (functions_joined done more) ∙ sym (append_assoc (functions_within stack before) (functions_in done) (functions_in more))
functions_put (InElse before left right met ∷ stack) done more = ap (λ x. functions_within stack before ++ functions_in met ++ x) (functions_joined done more) ∙ sym (append_assoc (functions_within stack before ++ functions_in met) (functions_in done) (functions_in more))
functions_put (InFunction before text params ∷ stack) done more = ap (λ x. functions_within stack before ++ x) (functions_joined done more) ∙ sym (append_assoc (functions_within stack before) (functions_in done) (functions_in more))
functions_put (InSteps target block ∷ stack) done more = functions_put stack done more

pub bound_joined : (names : List Text) (a b : StatementTrees) → with_all_bound names (followed_by a b) ≡ with_all_bound (with_all_bound names a) b
bound_joined names no_statements b = refl
bound_joined names (then_more s a) b = bound_joined (with_bound names s) a b

pub bound_put : (stack : List Open) (done more : StatementTrees) → bound_within stack (followed_by done more) ≡ with_all_bound (bound_within stack done) more
bound_put [] done more = bound_joined [] done more
bound_put (InTry before ∷ stack) done more = bound_joined (bound_within stack before) done more
bound_put (InCatch before body text ∷ stack) done more = bound_joined (with_name (with_all_bound (bound_within stack before) body) text) done more
bound_put (InThen before left right ∷ stack) done more = bound_joined (bound_within stack before) done more
bound_put (InElse before left right met ∷ stack) done more = bound_joined (with_all_bound (bound_within stack before) met) done more
bound_put (InFunction before text params ∷ stack) done more = bound_joined (fold with_name [] params) done more
bound_put (InSteps target block ∷ stack) done more = bound_put stack done more

-- what a line does to the functions that have ended and to the names that are bound
no_functions : (xs : List FunctionTree) → xs ++ [] ≡ xs
no_functions xs = append-nil xs

pub functions_line : (stack : List Open) (done : StatementTrees) (s : StatementTree) → functions_of s ≡ [] → functions_within stack (followed_by done (then_more s no_statements)) ≡ functions_within stack done
functions_line stack done s e = functions_put stack done (then_more s no_statements) ∙ ap (λ x. functions_within stack done ++ (x ++ [])) e ∙ no_functions (functions_within stack done)

pub bound_line : (stack : List Open) (done : StatementTrees) (s : StatementTree) → bound_within stack (followed_by done (then_more s no_statements)) ≡ with_bound (bound_within stack done) s
bound_line stack done s = bound_put stack done (then_more s no_statements)

-- a block that opens holds none
pub functions_opened : (stack : List Open) (done : StatementTrees) → functions_within stack done ++ functions_in no_statements ≡ functions_within stack done
functions_opened stack done = no_functions (functions_within stack done)

pub functions_turned : (before done : List FunctionTree) → before ++ done ++ functions_in no_statements ≡ before ++ done
functions_turned before done = no_functions (before ++ done)

-- a block that ends is a statement with the functions of its own
pub functions_of_try : (stack : List Open) (before body done : StatementTrees) (text : Text) → functions_within stack (followed_by before (then_more (TryT body text done) no_statements)) ≡ functions_within (InCatch before body text ∷ stack) done
functions_of_try stack before body done text = functions_put stack before (then_more (TryT body text done) no_statements) ∙ ap (λ x. functions_within stack before ++ x) (no_functions (functions_in body ++ functions_in done)) ∙ sym (append_assoc (functions_within stack before) (functions_in body) (functions_in done))

pub functions_of_if : (stack : List Open) (before done : StatementTrees) (left right : ExpressionTree) → functions_within stack (followed_by before (then_more (IfT left right done no_statements) no_statements)) ≡ functions_within (InThen before left right ∷ stack) done
functions_of_if stack before done left right = functions_put stack before (then_more (IfT left right done no_statements) no_statements) ∙ ap (λ x. functions_within stack before ++ x) (no_functions (functions_in done ++ []) ∙ no_functions (functions_in done))

pub functions_of_else : (stack : List Open) (before met done : StatementTrees) (left right : ExpressionTree) → functions_within stack (followed_by before (then_more (IfT left right met done) no_statements)) ≡ functions_within (InElse before left right met ∷ stack) done
functions_of_else stack before met done left right = functions_put stack before (then_more (IfT left right met done) no_statements) ∙ ap (λ x. functions_within stack before ++ x) (no_functions (functions_in met ++ functions_in done)) ∙ sym (append_assoc (functions_within stack before) (functions_in met) (functions_in done))

pub functions_of_function : (stack : List Open) (before done : StatementTrees) (text : Text) (params : List Text) (n : ℕ) → functions_within stack (followed_by before (then_more (FunctionT n text params done) no_statements)) ≡ functions_within (InFunction before text params ∷ stack) done ++ function_of text params done ∷ []
functions_of_function stack before done text params n = functions_put stack before (then_more (FunctionT n text params done) no_statements) ∙ ap (λ x. functions_within stack before ++ x) (no_functions (functions_in done ++ function_of text params done ∷ [])) ∙ sym (append_assoc (functions_within stack before) (functions_in done) (function_of text params done ∷ []))

pub functions_of_steps : (stack : List Open) (target : Target) (block : List StepLine) (done : StatementTrees) → functions_within stack (followed_by done (then_more (StepsT target block) no_statements)) ≡ functions_within (InSteps target block ∷ stack) done
functions_of_steps stack target block done = functions_line stack done (StepsT target block) refl

pub bound_of_try : (stack : List Open) (before body done : StatementTrees) (text : Text) → bound_within stack (followed_by before (then_more (TryT body text done) no_statements)) ≡ bound_within (InCatch before body text ∷ stack) done
bound_of_try stack before body done text = bound_line stack before (TryT body text done)

pub bound_of_if : (stack : List Open) (before done : StatementTrees) (left right : ExpressionTree) → bound_within stack (followed_by before (then_more (IfT left right done no_statements) no_statements)) ≡ bound_within (InThen before left right ∷ stack) done
bound_of_if stack before done left right = bound_line stack before (IfT left right done no_statements)

pub bound_of_else : (stack : List Open) (before met done : StatementTrees) (left right : ExpressionTree) → bound_within stack (followed_by before (then_more (IfT left right met done) no_statements)) ≡ bound_within (InElse before left right met ∷ stack) done
bound_of_else stack before met done left right = bound_line stack before (IfT left right met done)

-- a function binds nothing outside it, and has what its statements bound
pub bound_of_function : (stack : List Open) (before done : StatementTrees) (text : Text) (params : List Text) (n : ℕ) → bound_within stack (followed_by before (then_more (FunctionT n text params done) no_statements)) ≡ bound_within stack before
bound_of_function stack before done text params n = bound_line stack before (FunctionT n text params done)

pub names_of_function : (stack : List Open) (before done : StatementTrees) (text : Text) (params : List Text) → bound_within (InFunction before text params ∷ stack) done ≡ local_names params done
names_of_function stack before done text params = refl

pub bound_of_steps : (stack : List Open) (target : Target) (block : List StepLine) (done : StatementTrees) → bound_within stack (followed_by done (then_more (StepsT target block) no_statements)) ≡ bound_within (InSteps target block ∷ stack) done
bound_of_steps stack target block done = bound_line stack done (StepsT target block)
