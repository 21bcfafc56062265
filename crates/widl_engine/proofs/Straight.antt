-- For proofs alone. What a statement that binds a literal leads to, and what the end of a statement leads to.
use Rattle.std.proofs.Common.{◌≡◌, ◌+◌, List, [], ◌∷◌, ◌++◌, length, sym, ap, refl, arith}
use Rattle.widl_dialog.specs.Dialog.{End, bind}
use Rattle.widl_dialog.proofs.Following.{follows_same, follows_steps, follows_then}
use Rattle.widl_script_tree.specs.declared.row.Row.{Row}
use Rattle.widl_script_tree.specs.Rows.{rest_of}
use Rattle.widl_script_tree.specs.Tables.{Tables, expression_tree, name_at}
use Rattle.widl_script_tree.specs.Trees.{StatementTrees}
use Rattle.widl_value.specs.declared.value.Value.{Value}
use Rattle.widl_value.specs.declared.value.Value.TheVariants as values
use Rattle.widl_store.specs.Objects.{StoreState}
use Rattle.widl_runs.specs.Ends.{JobEnd, Normal}
use Rattle.widl_runs.specs.Actions.{BindName, IsDone, act}
use Rattle.widl_runs.specs.Expressions.{evaluate}
use Rattle.widl_runs.specs.Fitting.{begun}
use Rattle.widl_runs.specs.Jobs.{Program, Doing, Evaluate}
use Rattle.widl_runs.specs.Rules.{rule}
use Rattle.widl_runs.specs.Statements.{binds, run_statements}
use Rattle.widl_engine.specs.AtOnce.{BeginWithUnit, GoesOnWith, binding}
use Rattle.widl_engine.specs.declared.at_once.Binding.{Binding}
use Rattle.widl_engine.specs.declared.charges.Charge.TheVariants as charge
use Rattle.widl_engine.specs.declared.charges.Unit.TheVariants as unit
use Rattle.widl_engine.specs.declared.due.Due.TheVariants as due
use Rattle.widl_engine.specs.declared.due.Then.TheVariants as then_what
use Rattle.widl_engine.specs.declared.frames.Frame.{Frame}
use Rattle.widl_engine.specs.declared.frames.Frame.TheVariants as frame
use Rattle.widl_engine.specs.declared.frames.ValueFrame.TheVariants as goes_on
use Rattle.widl_engine.specs.declared.jobs.Job.TheVariants as job
use Rattle.widl_engine.specs.declared.machine.Machine.{Machine}
use Rattle.widl_engine.specs.declared.machine.Moved.{Moved}
use Rattle.widl_engine.specs.declared.machine.Moved.TheVariants as moved
use Rattle.widl_engine.specs.declared.moves.Move.{Move}
use Rattle.widl_engine.specs.declared.moves.Move.TheVariants as move
use Rattle.widl_engine.specs.declared.ends.Completion.TheVariants as completions
use Rattle.widl_engine.specs.declared.ends.JobEnd as job_ends
use Rattle.widl_engine.specs.declared.ends.JobEnd.TheVariants.{Completed as completed}
use Rattle.widl_engine.specs.Frames.{back_to, job_of, job_end_of}
use Rattle.widl_engine.specs.Machine.{under, world, still, moves_on, Leads, Stays, Advances}
use Rattle.widl_engine.specs.Place.{Acts}
use Rattle.widl_engine.proofs.Acting.{performed}
use Rattle.widl_engine.proofs.Coming.{comes_same}
use Rattle.widl_engine.proofs.Leading.{then_leads, then_runs, same_world, gave, went, stepped, acted, rested, leads_is}

-- all moves after one place are all moves after one that leads to it
pub then_advances : (p : Program) (s : Tables) (t u o : StoreState) (d e : Doing) (m n q : Machine) (led : Moved) → Leads p s t d m u e n → Advances p s u e n o q led → Advances p s t d m o q led
then_advances p s t u o d e m n q moved.Going x y = then_leads x y
then_advances p s t u o d e m n q (moved.Ended c) x y = then_runs x y
then_advances p s t u o d e m n q (moved.Stopped stop) x y = then_runs x y
then_advances p s t u o d e m n q moved.Memory x y = tt

module _ (p : Program) (s : Tables) where
  -- the literal is evaluated, and its value is to be bound
  evaluated : (t : StoreState) (m : Machine) (b : Binding) → evaluate (expression_tree s b.place) ≡ End (Normal b.value) → Leads p s t (moves_on p s (binding b) m) m t (moves_on p s (move.Acts (due.Bind b.name b.value then_what.Ends)) m) m
  evaluated t m b is =
      let k : JobEnd → Doing = λ c. bind (back_to p s (frame.Value (goes_on.Binds b.name)) c) (under p s m.frames.items) in
      let tree : bind (evaluate (expression_tree s b.place)) k ≡ bind (binds (name_at s b.name) b.value) (under p s m.frames.items) = ap (λ (d : Doing). bind d k) is in
      record {
        taken = refl;
        budget = refl;
        between = 1 + 0;
        follows = λ c ls. follows_then _ _ (follows_steps (rule p) (act p.list) (Evaluate (expression_tree s b.place)) k (world s t m c ls)) (follows_same _ _ tree refl);
        comes = λ c ls. begun (Evaluate (expression_tree s b.place)) k (world s t m c ls) (comes_same tree refl);
      }

  -- and is bound
  bound : (t : StoreState) (m n : Machine) (b : Binding) → evaluate (expression_tree s b.place) ≡ End (Normal b.value) → Acts p s (BindName (name_at s b.name) b.value) t m.place t n.place IsDone → n.frames.items ≡ m.frames.items → n.taken ≡ m.taken → n.budget ≡ m.budget → Leads p s t (moves_on p s (binding b) m) m t (moves_on p s (move.Gives (completed (completions.Normal values.Undefined))) n) n
  bound t m n b is x frames taken budget =
      then_leads (evaluated t m b is)
      (acted p s t t m n (due.Bind b.name b.value then_what.Ends) (move.Gives (completed (completions.Normal values.Undefined))) (performed IsDone x.went refl) frames taken budget).place

  -- the first of these statements takes its unit
  pub first_taken : (t : StoreState) (m n q : Machine) (row : Row) → BeginWithUnit s row → n.frames.items ≡ m.frames.items ++ frame.Value (goes_on.NextStatements (rest_of row)) ∷ [] → n.place ≡ m.place → n.taken ≡ m.taken → n.budget ≡ m.budget → q.due ≡ charge.Unit (unit.Statement row.first) → q.place ≡ n.place → q.frames.items ≡ n.frames.items → q.taken ≡ n.taken → q.budget ≡ n.budget → Leads p s t (moves_on p s (move.Goes (job.Statements row)) m) m t (still p s q) q
  first_taken t m n q row x pushed place_n taken_n budget_n due_q place_q frames_q taken_q budget_q =
      let rest : Frame = frame.Value (goes_on.NextStatements (rest_of row)) in
      let first : Move = move.Steps rest (job.Statement row.first) in
      let pays : Move = move.Pays (charge.Unit (unit.Statement row.first)) in
      then_leads (went p s t m first (job.Statements row) (leads_is p s (rule p (job_of s (job.Statements row))) first (ap (λ (ts : StatementTrees). run_statements ts) (sym x.opens)))).place
      (then_leads (stepped p s t m n pays rest (job.Statement row.first) place_n taken_n budget_n pushed (leads_is p s (rule p (job_of s (job.Statement row.first))) pays (sym x.pays))).place
      (rested p s t n q (charge.Unit (unit.Statement row.first)) due_q place_q frames_q taken_q budget_q))

  -- the next statement of the frame that was taken takes its unit
  pub next_taken : (t : StoreState) (m n q : Machine) (f : Frame) (row : Row) (v : Value) → GoesOnWith s f row → m.frames.items ≡ n.frames.items ++ f ∷ [] → n.place ≡ m.place → n.taken ≡ m.taken → n.budget ≡ m.budget → Leads p s t (moves_on p s (move.Goes (job.Statements row)) n) n t (still p s q) q → Leads p s t (moves_on p s (move.Gives (completed (completions.Normal v))) m) m t (still p s q) q
  next_taken t m n q f row v x popped place taken budget first =
      let goes : Move = move.Goes (job.Statements row) in
      then_leads (gave p s t m n goes f (completed (completions.Normal v)) place taken budget popped (leads_is p s (back_to p s f (Normal v)) goes (ap (λ (g : Frame). back_to p s g (Normal v)) (sym x.next)))).place first

  -- so steps stay at the end of the statement
  pub bound_stays : (t : StoreState) (m n : Machine) (b : Binding) → evaluate (expression_tree s b.place) ≡ End (Normal b.value) → Acts p s (BindName (name_at s b.name) b.value) t m.place t n.place IsDone → n.frames.items ≡ m.frames.items → n.taken ≡ m.taken → n.budget ≡ m.budget → Stays p s t (moves_on p s (binding b) m) m t (moves_on p s (move.Gives (completed (completions.Normal values.Undefined))) n) n
  bound_stays t m n b is x frames taken budget = record { place = bound t m n b is x frames taken budget; most = let e = ap (λ (l : List Frame). length l) frames in omega (arith, e) }

  -- frames that lie there again
  put_back : (t : StoreState) (m n : Machine) (c : job_ends.JobEnd) → n.place ≡ m.place → n.frames.items ≡ m.frames.items → n.taken ≡ m.taken → n.budget ≡ m.budget → Leads p s t (moves_on p s (move.Gives c) m) m t (moves_on p s (move.Gives c) n) n
  put_back t m n c place frames taken budget = record {
    taken = taken;
    budget = budget;
    between = 0;
    follows = λ b ls. follows_same _ _ (ap (λ (l : List Frame). under p s l (job_end_of c)) (sym frames)) (same_world s t m n b ls place taken);
    comes = λ b ls. comes_same (ap (λ (l : List Frame). under p s l (job_end_of c)) (sym frames)) (same_world s t m n b ls place taken);
  }

  pub stays_back : (t : StoreState) (m n : Machine) (c : job_ends.JobEnd) → n.place ≡ m.place → n.frames.items ≡ m.frames.items → n.taken ≡ m.taken → n.budget ≡ m.budget → Stays p s t (moves_on p s (move.Gives c) m) m t (moves_on p s (move.Gives c) n) n
  stays_back t m n c place frames taken budget = record { place = put_back t m n c place frames taken budget; most = let e = ap (λ (l : List Frame). length l) frames in omega (arith, e) }
