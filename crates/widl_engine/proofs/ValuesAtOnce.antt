-- For proofs alone. Expressions that have a value at once, and the frames that go on with it.
use Rattle.std.specs.Prelude.{IfSome, Option, Some, None}
use Rattle.std.proofs.Common.{◌≡◌, ℕ, ◌+◌, ◌-◌, List, [], ◌∷◌, ◌++◌, refl, sym, ap, subst, ◌∙◌, arith}
use Rattle.widl_dialog.specs.Dialog.{End, Say, bind}
use Rattle.widl_dialog.specs.Runs.{Went}
use Rattle.widl_dialog.proofs.Following.{follows_same, follows_said, follows_steps, follows_then}
use Rattle.widl_value.specs.declared.value.Value.{Value}
use Rattle.widl_script_tree.specs.declared.expression.Expression.{Expression}
use Rattle.widl_script_tree.specs.declared.expression.Expression.TheVariants as node
use Rattle.widl_script_tree.specs.Trees.{ExpressionTree, ExpressionTrees, more}
use Rattle.widl_script_tree.specs.declared.row.Row.{Row}
use Rattle.widl_script_tree.specs.Rows.{rest_of}
use Rattle.widl_script_tree.specs.Tables.{Tables, expression_tree, expressions_tree, name_at, opened}
use Rattle.widl_store.specs.Objects.{StoreState}
use Rattle.widl_trace.specs.EventTerms.{EventTerm}
use Rattle.widl_runs.specs.Worlds.{named_value}
use Rattle.widl_runs.specs.Actions.{ReadName, IsValue, Reply, act}
use Rattle.widl_runs.specs.Ends.{JobEnd, Normal}
use Rattle.widl_runs.specs.Expressions.{evaluate, evaluate_row}
use Rattle.widl_runs.specs.Fitting.{begun, said}
use Rattle.widl_runs.specs.Jobs.{Evaluate, Program, Doing, gives}
use Rattle.widl_runs.specs.Rules.{rule}
use Rattle.widl_engine.specs.declared.contexts.Place.{Place}
use Rattle.widl_engine.specs.declared.frames.Frame.TheVariants as frame
use Rattle.widl_engine.specs.declared.frames.ValueFrame.{ValueFrame}
use Rattle.widl_engine.specs.declared.frames.ValueFrame.TheVariants as goes_on
use Rattle.widl_engine.specs.declared.jobs.RowUse.{RowUse}
use Rattle.widl_engine.specs.declared.jobs.Job.TheVariants as job
use Rattle.widl_engine.specs.declared.machine.Machine.{Machine}
use Rattle.widl_engine.specs.declared.moves.Move.{Move}
use Rattle.widl_engine.specs.declared.moves.Move.TheVariants as move
use Rattle.widl_engine.specs.AtOnce.{HasValue}
use Rattle.widl_engine.specs.Frames.{back_to, job_of, move_of, row_use_of, value_to}
use Rattle.widl_engine.specs.Machine.{under, world, moves_on, Moves}
use Rattle.widl_engine.specs.Place.{world_of}
use Rattle.widl_engine.specs.ReadOver.{IsReadOver}
use Rattle.widl_engine.proofs.Acting.{Done}
use Rattle.widl_engine.proofs.Coming.{comes_same, comes_then}
use Rattle.widl_engine.proofs.Leading.{leads_is, then_moves, went}

module _ (p : Program) (s : Tables) (t : StoreState) where
  -- a literal
  pub has_literal : (x : Place) (place : ℕ) (v : Value) → evaluate (expression_tree s place) ≡ End (Normal v) → HasValue p s t x place v
  has_literal x place v is = record {
    between = 0;
    follows = λ k b ls. follows_same _ _ (ap (λ (d : Doing). bind d k) is) refl;
    comes = λ k b ls. comes_same (ap (λ (d : Doing). bind d k) is) refl;
  }

  -- a name
  pub has_name : (x : Place) (place name : ℕ) (v : Value) → evaluate (expression_tree s place) ≡ Say (ReadName (name_at s name)) gives → ((b : ℕ) (ls : List EventTerm) → v ≡ named_value p.list (world_of s t x b ls) (name_at s name)) → HasValue p s t x place v
  has_name x place name v is read =
      let went : (b : ℕ) (ls : List EventTerm) → act p.list (ReadName (name_at s name)) (world_of s t x b ls) ≡ Went (world_of s t x b ls) (IsValue v) =
      λ b ls. ap (λ (o : Value). let d : Done = Went (world_of s t x b ls) (IsValue o) in d) (sym (read b ls)) in
      record {
        between = 0 + 1;
        follows = λ k b ls.
            follows_then _ _ (follows_same _ _ (ap (λ (d : Doing). bind d k) is) refl)
            (follows_said (rule p) (act p.list) (ReadName (name_at s name)) (λ (r : Reply). bind (gives r) k) (IsValue v) (went b ls));
        comes = λ k b ls.
            comes_then (comes_same (ap (λ (d : Doing). bind d k) is) refl)
            (said (ReadName (name_at s name)) (λ (r : Reply). bind (gives r) k) (IsValue v) (world_of s t x b ls) (world_of s t x b ls) (went b ls) (comes_same refl refl));
      }

  -- the frame goes on with the value, and never lies on the others
  pub gone_on : (m : Machine) (f : ValueFrame) (place : ℕ) (v : Value) (next : Move) → HasValue p s t m.place place v → move_of p s next ≡ value_to s f v → Moves p s t (moves_on p s (move.Steps (frame.Value f) (job.Evaluate place)) m) m t (moves_on p s next m) m
  gone_on m f place v next x goes =
      let k : JobEnd → Doing = λ c. bind (back_to p s (frame.Value f) c) (under p s m.frames.items) in
      let tree : k (Normal v) ≡ moves_on p s next m = ap (λ (d : Doing). bind d (under p s m.frames.items)) (sym goes) in
      record {
        place = record {
          taken = refl;
          budget = refl;
          between = 1 + (x.between + 0);
          follows = λ b ls.
              follows_then _ _ (follows_steps (rule p) (act p.list) (Evaluate (expression_tree s place)) k (world s t m b ls))
              (follows_then _ _ (x.follows k (b - m.taken) ls) (follows_same _ _ tree refl));
          comes = λ b ls. begun (Evaluate (expression_tree s place)) k (world s t m b ls) (comes_then (x.comes k (b - m.taken) ls) (comes_same tree refl));
        };
        less = omega arith;
      }

  -- a row goes on behind its first value
  pub row_gone_on : (m : Machine) (what : RowUse) (vs more_vs : List Value) (row rest : Row) (v : Value) → expressions_tree s row ≡ more (expression_tree s row.first) (expressions_tree s (rest_of row)) → HasValue p s t m.place row.first v → more_vs ≡ vs ++ v ∷ [] → rest ≡ rest_of row → Moves p s t (moves_on p s (move.Goes (job.Row what vs row)) m) m t (moves_on p s (move.Goes (job.Row what more_vs rest)) m) m
  row_gone_on m what vs more_vs row rest v opens x pushed left =
      let f : ValueFrame = goes_on.InRow what vs (rest_of row) in
      let first : Move = move.Steps (frame.Value f) (job.Evaluate row.first) in
      then_moves (went p s t m first (job.Row what vs row) (leads_is p s (rule p (job_of s (job.Row what vs row))) first (ap (λ (es : ExpressionTrees). evaluate_row (row_use_of what) vs es) (sym opens))))
      (gone_on m f row.first v (move.Goes (job.Row what more_vs rest)) x
      (ap (λ (l : List Value). move_of p s (move.Goes (job.Row what l rest))) pushed ∙ ap (λ (r : Row). move_of p s (move.Goes (job.Row what (vs ++ v ∷ []) r))) left))

-- a node that is a name is evaluated as the name
pub evaluates_name : (s : Tables) (t : ExpressionTree) (n : Expression) (name : ℕ) → t ≡ opened s (expression_tree s) n → n ≡ node.Name name → evaluate t ≡ Say (ReadName (name_at s name)) gives
evaluates_name s t n name tree is = ap evaluate (tree ∙ ap (λ (k : Expression). opened s (expression_tree s) k) is)

-- the value of a literal, if it is one
pub literal_has : (s : Tables) (t : StoreState) (x : Place) (place : ℕ) (o : Option Value) → IfSome o (λ v. evaluate (expression_tree s place) ≡ End (Normal v)) → IfSome o (λ v. (p : Program) → IsReadOver p.list s → HasValue p s t x place v)
literal_has s t x place (Some v) is = λ p read. has_literal p s t x place v is
literal_has s t x place None is = tt

-- the value of an expression that has one
pub value_there : (s : Tables) (t : StoreState) (x : Place) (place : ℕ) (o : Option Value) (v : Value) → o ≡ Some v → IfSome o (λ w. (p : Program) → IsReadOver p.list s → HasValue p s t x place w) → (p : Program) → IsReadOver p.list s → HasValue p s t x place v
value_there s t x place o v is has = subst (λ (k : Option Value). IfSome k (λ w. (p : Program) → IsReadOver p.list s → HasValue p s t x place w)) is has
