-- For proofs alone. No step of a script that is read throws an object, since no words spell one.
use Rattle.std.proofs.Common.{ℕ, List, arith}
use Rattle.std.proofs.lemmas.List.Elements.{All-cons}
use Rattle.std.specs.Prelude.{All}
use Rattle.widl_value.specs.declared.value.Value.TheVariants as values
use Rattle.widl_lines.specs.Words.{Lexeme}
use Rattle.widl_script_tree.specs.declared.steps.StepLine.{StepLine}
use Rattle.widl_script_tree.specs.declared.steps.StepLine.TheVariants as steps
use Rattle.widl_script_tree.specs.Trees.{StatementTree, LetT, DoT, ReturnT, ThrowT, ShowT, SetT, DefineT, DefineAccessorT, DeleteT, TryT, IfT, FunctionT, StepsT, StatementTrees, no_statements, then_more, ScriptTree}
use Rattle.widl_script_words.specs.Signs.{SpellsLine}
use Rattle.widl_script_words.specs.SpelledSteps.{step_signs}
use Rattle.widl_script_words.specs.SpelledStatements as spelled
use Rattle.widl_script_words.specs.SpelledStatements.{statement_signs, Lines, followed_by, Stated, Stepped, IsTreeOf}
use Rattle.widl_runs.specs.Fitting.{ThrowsPlain, HasPlainSteps}

plain_step : (step : StepLine) (words : List Lexeme) → SpellsLine (step_signs step) words → ThrowsPlain step
plain_step (steps.Return source) words x = tt
plain_step (steps.ReturnInvoke invoke) words x = tt
plain_step (steps.SetSlot slot source) words x = tt
plain_step (steps.Append key source) words x = tt
plain_step steps.Clear words x = tt
plain_step (steps.Invoke invoke) words x = tt
plain_step (steps.Throw values.Undefined) words x = tt
plain_step (steps.Throw values.Null) words x = tt
plain_step (steps.Throw (values.Bool b)) words x = tt
plain_step (steps.Throw (values.Num n)) words x = tt
plain_step (steps.Throw (values.Str text)) words x = tt
plain_step (steps.Throw (values.Sym id)) words x = tt
plain_step (steps.Throw (values.Obj o)) words x = absurd x.4.3

-- a statement of one line is no steps block
plain_alone : (s : StatementTree) (ss : StatementTrees) (words : List Lexeme) → SpellsLine (statement_signs s) words → HasPlainSteps ss → HasPlainSteps (then_more s ss)
plain_alone (LetT name e) ss words x plain = plain
plain_alone (DoT e) ss words x plain = plain
plain_alone (ReturnT e) ss words x plain = plain
plain_alone (ThrowT e) ss words x plain = plain
plain_alone (ShowT e) ss words x plain = plain
plain_alone (SetT m e) ss words x plain = plain
plain_alone (DefineT m e hidden) ss words x plain = plain
plain_alone (DefineAccessorT m getter setter) ss words x plain = plain
plain_alone (DeleteT m) ss words x plain = plain
plain_alone (TryT body name handler) ss words x plain = plain
plain_alone (IfT left right met unmet) ss words x plain = plain
plain_alone (FunctionT number name params body) ss words x plain = plain
plain_alone (StepsT target lines) ss words x plain = absurd x.3

plain_followed : (before ss : StatementTrees) → HasPlainSteps before → HasPlainSteps ss → HasPlainSteps (followed_by before ss)
plain_followed no_statements ss x y = y
plain_followed (then_more (StepsT target lines) before) ss x y = (x.0, plain_followed before ss x.1 y)
plain_followed (then_more (LetT name e) before) ss x y = plain_followed before ss x y
plain_followed (then_more (DoT e) before) ss x y = plain_followed before ss x y
plain_followed (then_more (ReturnT e) before) ss x y = plain_followed before ss x y
plain_followed (then_more (ThrowT e) before) ss x y = plain_followed before ss x y
plain_followed (then_more (ShowT e) before) ss x y = plain_followed before ss x y
plain_followed (then_more (SetT m e) before) ss x y = plain_followed before ss x y
plain_followed (then_more (DefineT m e hidden) before) ss x y = plain_followed before ss x y
plain_followed (then_more (DefineAccessorT m getter setter) before) ss x y = plain_followed before ss x y
plain_followed (then_more (DeleteT m) before) ss x y = plain_followed before ss x y
plain_followed (then_more (TryT body name handler) before) ss x y = plain_followed before ss x y
plain_followed (then_more (IfT left right met unmet) before) ss x y = plain_followed before ss x y
plain_followed (then_more (FunctionT number name params body) before) ss x y = plain_followed before ss x y

record PlainBlock (block : List StepLine) (inner : StatementTrees) : Type 0 where
  lines : All ThrowsPlain block
  inside : HasPlainSteps inner

mutual
  plain_stated : {ss : StatementTrees} {n : ℕ} {from : Lines} {m : ℕ} {to : Lines} → Stated ss n from m to → HasPlainSteps ss
  plain_stated spelled.over = tt
  plain_stated (spelled.alone {s = s} {ss = ss} {words = words} line rest) = plain_alone s ss words line (plain_stated rest)
  plain_stated (spelled.tried opening body turn handler ending rest) = plain_stated rest
  plain_stated (spelled.either opening met turn unmet ending rest) = plain_stated rest
  plain_stated (spelled.maybe opening met ending rest) = plain_stated rest
  plain_stated (spelled.function opening body ending rest) = plain_stated rest
  plain_stated (spelled.steps target block inner ss opening stepped ending rest) =
      let x = plain_stepped stepped in
      plain_followed inner (then_more (StepsT target block) ss) x.inside (x.lines, plain_stated rest)

  plain_stepped : {block : List StepLine} {inner : StatementTrees} {n : ℕ} {from : Lines} {m : ℕ} {to : Lines} → Stepped block inner n from m to → PlainBlock block inner
  plain_stepped spelled.no_step = record { lines = λ k d less. absurd (omega (arith, less)); inside = tt }
  plain_stepped (spelled.one_step {step = step} {block = block} {words = words} line rest) =
      let x = plain_stepped rest in
      record { lines = All-cons ThrowsPlain step block (plain_step step words line) x.lines; inside = x.inside }
  plain_stepped (spelled.function_inside opening body ending rest) = let x = plain_stepped rest in record { lines = x.lines; inside = x.inside }
  plain_stepped (spelled.steps_inside target other deep inner opening stepped ending rest) =
      let x = plain_stepped stepped in
      let y = plain_stepped rest in
      record { lines = y.lines; inside = plain_followed deep (then_more (StepsT target other) inner) x.inside (x.lines, y.inside) }

pub plain_steps : (tree : ScriptTree) (lines : Lines) → IsTreeOf tree lines → HasPlainSteps tree.top
plain_steps tree lines x = plain_stated x.stated
