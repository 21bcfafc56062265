-- How statements are spelled, and which lines are those of a script's tree.
-- Source: this program's own.
use Rattle.std.specs.Prelude.{◌≡◌, ℕ, suc, List, [], ◌∷◌, Bool, true, false, Option, Some, None, map}
use Rattle.widl_lines.specs.declared.grammar.Terminal.TheVariants as terminal
use Rattle.widl_lines.specs.Words.{Lexeme}
use Rattle.widl_lines.specs.TextBreaks.{PlacedLine}
use Rattle.widl_script_tree.specs.declared.steps.Target.{Target}
use Rattle.widl_script_tree.specs.declared.steps.StepLine.{StepLine}
use Rattle.widl_script_tree.specs.Trees.{Text, ExpressionTree, StatementTree, LetT, DoT, ReturnT, ThrowT, ShowT, SetT, DefineT, DefineAccessorT, DeleteT, TryT, IfT, FunctionT, StepsT, StatementTrees, no_statements, then_more, ScriptTree}
use Rattle.widl_script_words.specs.Signs.{Sign, Nowhere, SpellsLine, ◌⧺◌, word, name}
use Rattle.widl_script_words.specs.SpelledExpressions.{signs, member_signs}
use Rattle.widl_script_words.specs.SpelledTargets.{target_signs}
use Rattle.widl_script_words.specs.SpelledSteps.{step_signs}
use Rattle.widl_script_words.specs.Functions.{functions_in}

-- 1. Lines

abbrev pub hidden_signs : Bool → List Sign
hidden_signs true = word terminal.Hidden
hidden_signs false = []

abbrev pub setter_signs : Option ExpressionTree → List Sign
setter_signs None = []
setter_signs (Some t) = word terminal.Set ⧺ signs t

-- a statement of one line; one of several has no words by itself
abbrev pub statement_signs : StatementTree → List Sign
statement_signs (LetT text t) = word terminal.Let ⧺ name text ⧺ word terminal.Equals ⧺ signs t
statement_signs (DoT t) = word terminal.Do ⧺ signs t
statement_signs (ReturnT t) = word terminal.Return ⧺ signs t
statement_signs (ThrowT t) = word terminal.Throw ⧺ signs t
statement_signs (ShowT t) = word terminal.Show ⧺ signs t
statement_signs (SetT m t) = word terminal.Set ⧺ member_signs m ⧺ word terminal.Equals ⧺ signs t
statement_signs (DefineT m t hidden) = word terminal.Define ⧺ hidden_signs hidden ⧺ member_signs m ⧺ word terminal.Equals ⧺ signs t
statement_signs (DefineAccessorT m getter setter) = word terminal.Define ⧺ member_signs m ⧺ word terminal.Get ⧺ signs getter ⧺ setter_signs setter
statement_signs (DeleteT m) = word terminal.Delete ⧺ member_signs m
statement_signs (TryT body text handler) = Nowhere ∷ []
statement_signs (IfT left right met unmet) = Nowhere ∷ []
statement_signs (FunctionT number text params body) = Nowhere ∷ []
statement_signs (StepsT target lines) = Nowhere ∷ []

abbrev pub more_names : List Text → List Sign
more_names [] = []
more_names (text ∷ texts) = word terminal.Comma ⧺ name text ⧺ more_names texts

abbrev pub name_list : List Text → List Sign
name_list [] = []
name_list (text ∷ texts) = name text ⧺ more_names texts

-- the lines that open, turn and close blocks
abbrev pub try_signs : List Sign
try_signs = word terminal.Try

abbrev pub catch_signs : Text → List Sign
catch_signs text = word terminal.Catch ⧺ name text

abbrev pub if_signs : ExpressionTree → ExpressionTree → List Sign
if_signs left right = word terminal.If ⧺ signs left ⧺ word terminal.Is ⧺ signs right

abbrev pub else_signs : List Sign
else_signs = word terminal.Else

abbrev pub function_signs : Text → List Text → List Sign
function_signs text params = word terminal.Function ⧺ name text ⧺ word terminal.OpenParen ⧺ name_list params ⧺ word terminal.CloseParen

abbrev pub steps_signs : Target → List Sign
steps_signs target = word terminal.Steps ⧺ target_signs target

abbrev pub end_signs : List Sign
end_signs = word terminal.End

-- 2. Lines after one another

-- the words of the lines that have words
abbrev pub Lines : Type 0
Lines = List (List Lexeme)

abbrev pub followed_by : StatementTrees → StatementTrees → StatementTrees
followed_by no_statements more = more
followed_by (then_more s ss) more = then_more s (followed_by ss more)

mutual
  -- the statements are those of the lines between two of a script, where functions that end are numbered from one number to another.
  -- An `if` without `else` is the same statement as one with an empty `else`
  pub data Stated : StatementTrees → ℕ → Lines → ℕ → Lines → Type 0 where
    over : {n : ℕ} {lines : Lines} → Stated no_statements n lines n lines
    alone : {s : StatementTree} {ss : StatementTrees} {n m : ℕ} {words : List Lexeme} {from to : Lines} →
        SpellsLine (statement_signs s) words → Stated ss n from m to → Stated (then_more s ss) n (words ∷ from) m to
    tried : {body handler ss : StatementTrees} {text : Text} {n i j m : ℕ} {opening turn ending : List Lexeme} {from mid next to : Lines} →
        SpellsLine try_signs opening → Stated body n from i (turn ∷ mid) → SpellsLine (catch_signs text) turn → Stated handler i mid j (ending ∷ next) →
        SpellsLine end_signs ending → Stated ss j next m to → Stated (then_more (TryT body text handler) ss) n (opening ∷ from) m to
    either : {left right : ExpressionTree} {met unmet ss : StatementTrees} {n i j m : ℕ} {opening turn ending : List Lexeme} {from mid next to : Lines} →
        SpellsLine (if_signs left right) opening → Stated met n from i (turn ∷ mid) → SpellsLine else_signs turn → Stated unmet i mid j (ending ∷ next) →
        SpellsLine end_signs ending → Stated ss j next m to → Stated (then_more (IfT left right met unmet) ss) n (opening ∷ from) m to
    maybe : {left right : ExpressionTree} {met ss : StatementTrees} {n j m : ℕ} {opening ending : List Lexeme} {from next to : Lines} →
        SpellsLine (if_signs left right) opening → Stated met n from j (ending ∷ next) →
        SpellsLine end_signs ending → Stated ss j next m to → Stated (then_more (IfT left right met no_statements) ss) n (opening ∷ from) m to
    function : {text : Text} {params : List Text} {body ss : StatementTrees} {n j m : ℕ} {opening ending : List Lexeme} {from next to : Lines} →
        SpellsLine (function_signs text params) opening → Stated body n from j (ending ∷ next) →
        SpellsLine end_signs ending → Stated ss (suc j) next m to → Stated (then_more (FunctionT j text params body) ss) n (opening ∷ from) m to
    steps : (target : Target) (block : List StepLine) (inner ss : StatementTrees) {n j m : ℕ} {opening ending : List Lexeme} {from next to : Lines} →
        SpellsLine (steps_signs target) opening → Stepped block inner n from j (ending ∷ next) →
        SpellsLine end_signs ending → Stated ss j next m to → Stated (followed_by inner (then_more (StepsT target block) ss)) n (opening ∷ from) m to

  -- the steps are those of the lines between two of a steps block. A function or a steps block in it, which breaks a rule on places, is a statement before the block
  pub data Stepped : List StepLine → StatementTrees → ℕ → Lines → ℕ → Lines → Type 0 where
    no_step : {n : ℕ} {lines : Lines} → Stepped [] no_statements n lines n lines
    one_step : {step : StepLine} {block : List StepLine} {inner : StatementTrees} {n m : ℕ} {words : List Lexeme} {from to : Lines} →
        SpellsLine (step_signs step) words → Stepped block inner n from m to → Stepped (step ∷ block) inner n (words ∷ from) m to
    function_inside : {block : List StepLine} {text : Text} {params : List Text} {body inner : StatementTrees} {n j m : ℕ} {opening ending : List Lexeme} {from next to : Lines} →
        SpellsLine (function_signs text params) opening → Stated body n from j (ending ∷ next) →
        SpellsLine end_signs ending → Stepped block inner (suc j) next m to → Stepped block (then_more (FunctionT j text params body) inner) n (opening ∷ from) m to
    steps_inside : (target : Target) (other : List StepLine) (deep inner : StatementTrees) {block : List StepLine} {n j m : ℕ} {opening ending : List Lexeme} {from next to : Lines} →
        SpellsLine (steps_signs target) opening → Stepped other deep n from j (ending ∷ next) →
        SpellsLine end_signs ending → Stepped block inner j next m to → Stepped block (followed_by deep (then_more (StepsT target other) inner)) n (opening ∷ from) m to

-- 3. Scripts

-- the words of a script's lines
abbrev pub words_of : List PlacedLine → Lines
words_of lines = map (λ line. line.line.words) lines

-- the lines are those of the tree's statements, and its functions those that stand in these
pub record IsTreeOf (tree : ScriptTree) (lines : Lines) : Type 0 where
  pub functions : ℕ
  pub stated : Stated tree.top 0 lines functions []
  pub functions_are : tree.functions ≡ functions_in tree.top
