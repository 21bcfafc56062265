-- Expressions that have a value at once, statements that bind a literal, and the frames that go on with a statement. No rule names any of it.
use Rattle.std.specs.Prelude.{◌≡◌, ◌<◌, ℕ, List}
use Rattle.widl_dialog.specs.Dialog.{End, Say, bind}
use Rattle.widl_dialog.specs.Follows.{Follows}
use Rattle.widl_script_tree.specs.declared.row.Row.{Row}
use Rattle.widl_script_tree.specs.Rows.{rest_of}
use Rattle.widl_script_tree.specs.Tables.{Tables, expression_tree, statement_tree, statements_tree}
use Rattle.widl_script_tree.specs.Trees.{then_more}
use Rattle.widl_runs.specs.Ends.{JobEnd, Normal}
use Rattle.widl_runs.specs.Actions.{Pay, act}
use Rattle.widl_runs.specs.Expressions.{evaluate}
use Rattle.widl_runs.specs.Fitting.{Comes}
use Rattle.widl_runs.specs.Jobs.{Program, Doing}
use Rattle.widl_runs.specs.Rules.{rule}
use Rattle.widl_runs.specs.Statements.{performs, run_statement}
use Rattle.widl_store.specs.Objects.{StoreState}
use Rattle.widl_trace.specs.EventTerms.{EventTerm}
use Rattle.widl_value.specs.declared.value.Value.{Value}
use Rattle.widl_engine.specs.declared.at_once.Binding.{Binding}
use Rattle.widl_engine.specs.declared.following.Evaluation.{Evaluation}
use Rattle.widl_engine.specs.declared.charges.Charge.{Charge}
use Rattle.widl_engine.specs.declared.contexts.Place.{Place}
use Rattle.widl_engine.specs.declared.frames.Frame.{Frame}
use Rattle.widl_engine.specs.declared.frames.Frame.TheVariants as frame
use Rattle.widl_engine.specs.declared.frames.ValueFrame.TheVariants as goes_on
use Rattle.widl_engine.specs.declared.jobs.Job.TheVariants as job
use Rattle.widl_engine.specs.declared.moves.Move.{Move}
use Rattle.widl_engine.specs.declared.moves.Move.TheVariants as move
use Rattle.widl_engine.specs.Frames.{after_charge, move_of}
use Rattle.widl_engine.specs.Place.{world_of}

-- the literal is evaluated, and then bound to the name
abbrev pub binding : Binding → Move
binding b = move.Steps (frame.Value (goes_on.Binds b.name)) (job.Evaluate b.place)

-- after the charge this literal is bound
pub record BindsLiteral (s : Tables) (c : Charge) (b : Binding) : Type 0 where
  pub performs : (p : Program) → move_of p s (binding b) ≡ after_charge p s c
  pub value : evaluate (expression_tree s b.place) ≡ End (Normal b.value)

-- after the charge this expression is evaluated, for this frame
pub record Evaluates (s : Tables) (c : Charge) (e : Evaluation) : Type 0 where
  pub performs : (p : Program) → move_of p s (move.Steps (frame.Value e.frame) (job.Evaluate e.place)) ≡ after_charge p s c

-- the first of these statements takes a unit
pub record BeginWithUnit (s : Tables) (row : Row) : Type 0 where
  pub some : 0 < row.count
  pub opens : statements_tree s row ≡ then_more (statement_tree s row.first) (statements_tree s (rest_of row))
  pub pays : run_statement (statement_tree s row.first) ≡ Say Pay (λ r. performs (statement_tree s row.first))

-- a frame goes on with these statements, of which the first takes a unit
pub record GoesOnWith (s : Tables) (f : Frame) (row : Row) : Type 0 where
  pub next : f ≡ frame.Value (goes_on.NextStatements row)
  pub begin : BeginWithUnit s row

-- an expression comes to this value with no charge and no change of the world, whatever goes on with it
pub record HasValue (p : Program) (s : Tables) (t : StoreState) (x : Place) (place : ℕ) (v : Value) : Type 0 where
  pub between : ℕ
  pub follows : (k : JobEnd → Doing) (b : ℕ) (ls : List EventTerm) → Follows (rule p) (act p.list) (bind (evaluate (expression_tree s place)) k) (world_of s t x b ls) (k (Normal v)) (world_of s t x b ls) between
  pub comes : (k : JobEnd → Doing) (b : ℕ) (ls : List EventTerm) → Comes p (k (Normal v)) (world_of s t x b ls) (bind (evaluate (expression_tree s place)) k) (world_of s t x b ls)
