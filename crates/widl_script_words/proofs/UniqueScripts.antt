-- For proofs alone. A machine makes the statements of lines again, so no two scripts have the same lines.
use Rattle.std.proofs.Common.{◌≡◌, ℕ, suc, Bool, true, false, Option, Some, None, List, [], ◌∷◌, refl, sym, ◌∙◌, ap, if◌then◌else◌}
use Rattle.widl_lines.specs.declared.grammar.Terminal.{Terminal}
use Rattle.widl_lines.specs.declared.grammar.Terminal.TheVariants as terminal
use Rattle.widl_lines.specs.Words.{Lexeme}
use Rattle.widl_lines.specs.Blocks.{first_word}
use Rattle.widl_script_tree.specs.declared.steps.Target.{Target}
use Rattle.widl_script_tree.specs.declared.steps.StepLine.{StepLine}
use Rattle.widl_script_tree.specs.declared.steps.StepLine.TheVariants as step
use Rattle.widl_script_tree.specs.Trees.{Text, ExpressionTree, StatementTree, TryT, IfT, FunctionT, StepsT, StatementTrees, no_statements, then_more, FunctionTree, ScriptTree}
use Rattle.widl_script_words.specs.Signs.{Sign, Is, Spells, SpellsLine}
use Rattle.widl_script_words.specs.SpelledSteps.{step_signs}
use Rattle.widl_script_words.specs.Functions.{functions_in}
use Rattle.widl_script_words.specs.SpelledStatements.{statement_signs, try_signs, catch_signs, if_signs, else_signs, function_signs, steps_signs, end_signs, Lines, followed_by, Stated, over, alone, tried, either, maybe, function, steps, Stepped, no_step, one_step, function_inside, steps_inside, IsTreeOf}
use Rattle.widl_script_words.specs.OneTree.{EachScriptIsOne}
use Rattle.widl_script_words.proofs.Undoing.{Head, Alone, Tries, Elses, Ends, Catches, Ifs, Functions, StepsFor, Start, StepStart, list_onto, run as run_words, line_of, step_of}
use Rattle.widl_script_words.proofs.UniqueLines.{statement_tells, try_tells, catch_tells, if_tells, else_tells, function_tells, steps_tells, end_tells}
use Rattle.widl_script_words.proofs.UniqueSteps.{step_tells}

-- an open block, with the statements before it, the last first; those before a steps block go on while it is open
data Open : Type 0 where
  InTry : StatementTrees → Open
  InCatch : StatementTrees → StatementTrees → Text → Open
  InThen : StatementTrees → ExpressionTree → ExpressionTree → Open
  InElse : StatementTrees → ExpressionTree → ExpressionTree → StatementTrees → Open
  InFunction : StatementTrees → Text → List Text → Open
  InSteps : Target → List StepLine → Open

-- how many functions have ended, the statements of the innermost block, and the open blocks
data State : Type 0 where
  Within : ℕ → StatementTrees → List Open → State
  Broken : State

-- statements that come last first, then others
abbrev onto : StatementTrees → StatementTrees → StatementTrees
onto no_statements ss = ss
onto (then_more s rev) ss = onto rev (then_more s ss)

abbrev pushed : StatementTrees → StatementTrees → StatementTrees
pushed no_statements rev = rev
pushed (then_more s ss) rev = pushed ss (then_more s rev)

abbrev in_order : StatementTrees → StatementTrees
in_order rev = onto rev no_statements

abbrev list_pushed : List StepLine → List StepLine → List StepLine
list_pushed [] rev = rev
list_pushed (x ∷ xs) rev = list_pushed xs (x ∷ rev)

abbrev caught : Text → ℕ → StatementTrees → List Open → State
caught text n rev (InTry before ∷ stack) = Within n no_statements (InCatch before (in_order rev) text ∷ stack)
caught text n rev _ = Broken

abbrev turned : ℕ → StatementTrees → List Open → State
turned n rev (InThen before left right ∷ stack) = Within n no_statements (InElse before left right (in_order rev) ∷ stack)
turned n rev _ = Broken

abbrev closed : ℕ → StatementTrees → List Open → State
closed n rev (InCatch before body text ∷ stack) = Within n (then_more (TryT body text (in_order rev)) before) stack
closed n rev (InThen before left right ∷ stack) = Within n (then_more (IfT left right (in_order rev) no_statements) before) stack
closed n rev (InElse before left right met ∷ stack) = Within n (then_more (IfT left right met (in_order rev)) before) stack
closed n rev (InFunction before text params ∷ stack) = Within (suc n) (then_more (FunctionT n text params (in_order rev)) before) stack
closed n rev (InSteps target block ∷ stack) = Within n (then_more (StepsT target (list_onto block [])) rev) stack
closed n rev _ = Broken

abbrev by_head : Option Head → ℕ → StatementTrees → List Open → State
by_head None n rev stack = Broken
by_head (Some (Alone s)) n rev stack = Within n (then_more s rev) stack
by_head (Some Tries) n rev stack = Within n no_statements (InTry rev ∷ stack)
by_head (Some Elses) n rev stack = turned n rev stack
by_head (Some Ends) n rev stack = closed n rev stack
by_head (Some (Catches text)) n rev stack = caught text n rev stack
by_head (Some (Ifs left right)) n rev stack = Within n no_statements (InThen rev left right ∷ stack)
by_head (Some (Functions text params)) n rev stack = Within n no_statements (InFunction rev text params ∷ stack)
by_head (Some (StepsFor target)) n rev stack = Within n rev (InSteps target [] ∷ stack)

abbrev by_step : Option StepLine → ℕ → StatementTrees → Target → List StepLine → List Open → State
by_step None n rev target block stack = Broken
by_step (Some s) n rev target block stack = Within n rev (InSteps target (s ∷ block) ∷ stack)

-- a line that is no step line where it stands in a steps block
abbrev is_block_word : Terminal → Bool
is_block_word terminal.Function = true
is_block_word terminal.Steps = true
is_block_word terminal.End = true
is_block_word _ = false

abbrev head_of : List Lexeme → Option Head
head_of words = line_of (run_words Start words)

abbrev by_words : List Lexeme → ℕ → StatementTrees → List Open → State
by_words words n rev (InSteps target block ∷ stack) = if is_block_word (first_word words) then by_head (head_of words) n rev (InSteps target block ∷ stack) else by_step (step_of (run_words StepStart words)) n rev target block stack
by_words words n rev stack = by_head (head_of words) n rev stack

abbrev step_by : State → List Lexeme → State
step_by (Within n rev stack) words = by_words words n rev stack
step_by Broken words = Broken

abbrev run : State → Lines → State
run s [] = s
run s (words ∷ lines) = run (step_by s words) lines

onto_pushed : (ss rev : StatementTrees) → in_order (pushed ss rev) ≡ onto rev ss
onto_pushed no_statements rev = refl
onto_pushed (then_more s ss) rev = onto_pushed ss (then_more s rev)

ordered : (ss : StatementTrees) → in_order (pushed ss no_statements) ≡ ss
ordered ss = onto_pushed ss no_statements

list_onto_pushed : (xs rev : List StepLine) → list_onto (list_pushed xs rev) [] ≡ list_onto rev xs
list_onto_pushed [] rev = refl
list_onto_pushed (x ∷ xs) rev = list_onto_pushed xs (x ∷ rev)

pushed_followed : (ss more rev : StatementTrees) → pushed (followed_by ss more) rev ≡ pushed more (pushed ss rev)
pushed_followed no_statements more rev = refl
pushed_followed (then_more s ss) more rev = pushed_followed ss more (then_more s rev)

-- the innermost open block is no steps block
abbrev is_outside : List Open → Bool
is_outside (InSteps target block ∷ stack) = false
is_outside _ = true

outside : (words : List Lexeme) (n : ℕ) (rev : StatementTrees) (stack : List Open) → is_outside stack ≡ true → by_words words n rev stack ≡ by_head (head_of words) n rev stack
outside words n rev (InSteps target block ∷ stack) e = cc
outside words n rev [] e = refl
outside words n rev (InTry before ∷ stack) e = refl
outside words n rev (InCatch before body text ∷ stack) e = refl
outside words n rev (InThen before left right ∷ stack) e = refl
outside words n rev (InElse before left right met ∷ stack) e = refl
outside words n rev (InFunction before text params ∷ stack) e = refl

-- a line outside steps blocks
lined : (words : List Lexeme) (l : Head) (n : ℕ) (rev : StatementTrees) (stack : List Open) → is_outside stack ≡ true → head_of words ≡ Some l → by_words words n rev stack ≡ by_head (Some l) n rev stack
lined words l n rev stack o e = outside words n rev stack o ∙ ap (λ x. by_head x n rev stack) e

-- a line of a block in a steps block
lined_in_steps : (words : List Lexeme) (l : Head) (n : ℕ) (rev : StatementTrees) (target : Target) (block : List StepLine) (stack : List Open) → is_block_word (first_word words) ≡ true → head_of words ≡ Some l → by_words words n rev (InSteps target block ∷ stack) ≡ by_head (Some l) n rev (InSteps target block ∷ stack)
lined_in_steps words l n rev target block stack b e = ap (λ x. if x then by_head (head_of words) n rev (InSteps target block ∷ stack) else by_step (step_of (run_words StepStart words)) n rev target block stack) b ∙ ap (λ x. by_head x n rev (InSteps target block ∷ stack)) e

-- the first word of a line is that of its first sign
first : (t : Terminal) (x : List Sign) (words : List Lexeme) → SpellsLine (Is t ∷ x) words → first_word words ≡ t
first t x words h = ap first_word h.2 ∙ h.3

first_of_step : (s : StepLine) (words : List Lexeme) → SpellsLine (step_signs s) words → is_block_word (first_word words) ≡ false
first_of_step (step.Return s) words h = ap (λ w. is_block_word (first_word w)) h.2 ∙ ap is_block_word h.3
first_of_step (step.ReturnInvoke i) words h = ap (λ w. is_block_word (first_word w)) h.2 ∙ ap is_block_word h.3
first_of_step (step.SetSlot slot s) words h = ap (λ w. is_block_word (first_word w)) h.2 ∙ ap is_block_word h.3
first_of_step (step.Append key s) words h = ap (λ w. is_block_word (first_word w)) h.2 ∙ ap is_block_word h.3
first_of_step step.Clear words h = ap (λ w. is_block_word (first_word w)) h.2 ∙ ap is_block_word h.3
first_of_step (step.Throw v) words h = ap (λ w. is_block_word (first_word w)) h.2 ∙ ap is_block_word h.3
first_of_step (step.Invoke i) words h = ap (λ w. is_block_word (first_word w)) h.2 ∙ ap is_block_word h.3

stepped : (s : StepLine) (words : List Lexeme) (n : ℕ) (rev : StatementTrees) (target : Target) (block : List StepLine) (stack : List Open) → SpellsLine (step_signs s) words → by_words words n rev (InSteps target block ∷ stack) ≡ Within n rev (InSteps target (s ∷ block) ∷ stack)
stepped s words n rev target block stack h = ap (λ x. if x then by_head (head_of words) n rev (InSteps target block ∷ stack) else by_step (step_of (run_words StepStart words)) n rev target block stack) (first_of_step s words h) ∙ ap (λ x. by_step x n rev target block stack) (step_tells s words h)

opens_function : (text : Text) (params : List Text) (words : List Lexeme) (n : ℕ) (rev : StatementTrees) (target : Target) (block : List StepLine) (stack : List Open) → SpellsLine (function_signs text params) words → by_words words n rev (InSteps target block ∷ stack) ≡ Within n no_statements (InFunction rev text params ∷ InSteps target block ∷ stack)
opens_function text params words n rev target block stack h = lined_in_steps words (Functions text params) n rev target block stack (ap (λ w. is_block_word (first_word w)) h.2 ∙ ap is_block_word h.3) ((function_tells text params).tells words h)

opens_steps : (other : Target) (words : List Lexeme) (n : ℕ) (rev : StatementTrees) (target : Target) (block : List StepLine) (stack : List Open) → SpellsLine (steps_signs other) words → by_words words n rev (InSteps target block ∷ stack) ≡ Within n rev (InSteps other [] ∷ InSteps target block ∷ stack)
opens_steps other words n rev target block stack h = lined_in_steps words (StepsFor other) n rev target block stack (ap (λ w. is_block_word (first_word w)) h.2 ∙ ap is_block_word h.3) ((steps_tells other).tells words h)

ends_steps : (words : List Lexeme) (n : ℕ) (rev : StatementTrees) (target : Target) (block : List StepLine) (stack : List Open) → SpellsLine end_signs words → by_words words n rev (InSteps target (list_pushed block []) ∷ stack) ≡ Within n (then_more (StepsT target block) rev) stack
ends_steps words n rev target block stack h = lined_in_steps words Ends n rev target (list_pushed block []) stack (ap (λ w. is_block_word (first_word w)) h.2 ∙ ap is_block_word h.3) (end_tells.tells words h) ∙ ap (λ x. Within n (then_more (StepsT target x) rev) stack) (list_onto_pushed block [])

mutual
  reads : {ss : StatementTrees} {n m : ℕ} {from to : Lines} → Stated ss n from m to → (rev : StatementTrees) (stack : List Open) → is_outside stack ≡ true → run (Within n rev stack) from ≡ run (Within m (pushed ss rev) stack) to
  reads over rev stack o = refl
  reads (alone {s} {n} {words} {from} h more) rev stack o = ap (λ x. run x from) (lined words (Alone s) n rev stack o ((statement_tells s).tells words h)) ∙ reads more (then_more s rev) stack o
  reads (tried {body} {handler} {text} {n} {i} {j} {opening} {turn} {ending} {from} {mid} {next} h b k c e more) rev stack o =
      ap (λ x. run x from) (lined opening Tries n rev stack o (try_tells.tells opening h))
      ∙ reads b no_statements (InTry rev ∷ stack) refl
      ∙ ap (λ x. run x mid) (lined turn (Catches text) i (pushed body no_statements) (InTry rev ∷ stack) refl ((catch_tells text).tells turn k))
      ∙ ap (λ x. run (Within i no_statements (InCatch rev x text ∷ stack)) mid) (ordered body)
      ∙ reads c no_statements (InCatch rev body text ∷ stack) refl
      ∙ ap (λ x. run x next) (lined ending Ends j (pushed handler no_statements) (InCatch rev body text ∷ stack) refl (end_tells.tells ending e))
      ∙ ap (λ x. run (Within j (then_more (TryT body text x) rev) stack) next) (ordered handler)
      ∙ reads more (then_more (TryT body text handler) rev) stack o
  reads (either {left} {right} {met} {unmet} {n} {i} {j} {opening} {turn} {ending} {from} {mid} {next} h b k c e more) rev stack o =
      ap (λ x. run x from) (lined opening (Ifs left right) n rev stack o ((if_tells left right).tells opening h))
      ∙ reads b no_statements (InThen rev left right ∷ stack) refl
      ∙ ap (λ x. run x mid) (lined turn Elses i (pushed met no_statements) (InThen rev left right ∷ stack) refl (else_tells.tells turn k))
      ∙ ap (λ x. run (Within i no_statements (InElse rev left right x ∷ stack)) mid) (ordered met)
      ∙ reads c no_statements (InElse rev left right met ∷ stack) refl
      ∙ ap (λ x. run x next) (lined ending Ends j (pushed unmet no_statements) (InElse rev left right met ∷ stack) refl (end_tells.tells ending e))
      ∙ ap (λ x. run (Within j (then_more (IfT left right met x) rev) stack) next) (ordered unmet)
      ∙ reads more (then_more (IfT left right met unmet) rev) stack o
  reads (maybe {left} {right} {met} {n} {j} {opening} {ending} {from} {next} h b e more) rev stack o =
      ap (λ x. run x from) (lined opening (Ifs left right) n rev stack o ((if_tells left right).tells opening h))
      ∙ reads b no_statements (InThen rev left right ∷ stack) refl
      ∙ ap (λ x. run x next) (lined ending Ends j (pushed met no_statements) (InThen rev left right ∷ stack) refl (end_tells.tells ending e))
      ∙ ap (λ x. run (Within j (then_more (IfT left right x no_statements) rev) stack) next) (ordered met)
      ∙ reads more (then_more (IfT left right met no_statements) rev) stack o
  reads (function {text} {params} {body} {n} {j} {opening} {ending} {from} {next} h b e more) rev stack o =
      ap (λ x. run x from) (lined opening (Functions text params) n rev stack o ((function_tells text params).tells opening h))
      ∙ reads b no_statements (InFunction rev text params ∷ stack) refl
      ∙ ap (λ x. run x next) (lined ending Ends j (pushed body no_statements) (InFunction rev text params ∷ stack) refl (end_tells.tells ending e))
      ∙ ap (λ x. run (Within (suc j) (then_more (FunctionT j text params x) rev) stack) next) (ordered body)
      ∙ reads more (then_more (FunctionT j text params body) rev) stack o
  reads (steps target block inner ss {n} {j} {m} {opening} {ending} {from} {next} {to} h b e more) rev stack o =
      ap (λ x. run x from) (lined opening (StepsFor target) n rev stack o ((steps_tells target).tells opening h))
      ∙ reads_steps b rev target [] stack
      ∙ ap (λ x. run x next) (ends_steps ending j (pushed inner rev) target block stack e)
      ∙ reads more (then_more (StepsT target block) (pushed inner rev)) stack o
      ∙ sym (ap (λ x. run (Within m x stack) to) (pushed_followed inner (then_more (StepsT target block) ss) rev))

  reads_steps : {block : List StepLine} {inner : StatementTrees} {n m : ℕ} {from to : Lines} → Stepped block inner n from m to → (rev : StatementTrees) (target : Target) (before : List StepLine) (stack : List Open) → run (Within n rev (InSteps target before ∷ stack)) from ≡ run (Within m (pushed inner rev) (InSteps target (list_pushed block before) ∷ stack)) to
  reads_steps no_step rev target before stack = refl
  reads_steps (one_step {step} {n} {words} {from} h more) rev target before stack = ap (λ x. run x from) (stepped step words n rev target before stack h) ∙ reads_steps more rev target (step ∷ before) stack
  reads_steps (function_inside {text} {params} {body} {n} {j} {opening} {ending} {from} {next} h b e more) rev target before stack =
      ap (λ x. run x from) (opens_function text params opening n rev target before stack h)
      ∙ reads b no_statements (InFunction rev text params ∷ InSteps target before ∷ stack) refl
      ∙ ap (λ x. run x next) (lined ending Ends j (pushed body no_statements) (InFunction rev text params ∷ InSteps target before ∷ stack) refl (end_tells.tells ending e))
      ∙ ap (λ x. run (Within (suc j) (then_more (FunctionT j text params x) rev) (InSteps target before ∷ stack)) next) (ordered body)
      ∙ reads_steps more (then_more (FunctionT j text params body) rev) target before stack
  reads_steps (steps_inside other lines deep inner {block} {n} {j} {m} {opening} {ending} {from} {next} {to} h b e more) rev target before stack =
      ap (λ x. run x from) (opens_steps other opening n rev target before stack h)
      ∙ reads_steps b rev other [] (InSteps target before ∷ stack)
      ∙ ap (λ x. run x next) (ends_steps ending j (pushed deep rev) other lines (InSteps target before ∷ stack) e)
      ∙ reads_steps more (then_more (StepsT other lines) (pushed deep rev)) target before stack
      ∙ sym (ap (λ x. run (Within m x (InSteps target (list_pushed block before) ∷ stack)) to) (pushed_followed deep (then_more (StepsT other lines) inner) rev))

abbrev result : State → StatementTrees
result (Within n rev stack) = in_order rev
result Broken = no_statements

read_again : (ss : StatementTrees) (n : ℕ) (lines : Lines) → Stated ss 0 lines n [] → result (run (Within 0 no_statements []) lines) ≡ ss
read_again ss n lines h = ap result (reads h no_statements [] refl) ∙ ordered ss

pub each_script : EachScriptIsOne
each_script a b lines h k =
    let e : a.top ≡ b.top = sym (read_again a.top h.functions lines h.stated) ∙ read_again b.top k.functions lines k.stated in
    let f : a.functions ≡ b.functions = h.functions_are ∙ ap functions_in e ∙ sym k.functions_are in
    λ i. record { functions = f i; top = e i }
