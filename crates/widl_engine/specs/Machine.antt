-- What a machine still does, for every budget. No rule names it.
use Rattle.std.specs.Prelude.{◌≡◌, ℕ, ◌+◌, ◌*◌, ◌-◌, ◌≤◌, ◌<◌, List, [], ◌∷◌, ◌++◌, length}
use Rattle.widl_dialog.specs.Dialog.{End, Say, bind}
use Rattle.widl_dialog.specs.Follows.{Follows}
use Rattle.widl_dialog.specs.Runs.{Finish, Ended, Halted}
use Rattle.widl_script_tree.specs.Tables.{Tables}
use Rattle.widl_store.specs.Objects.{StoreState}
use Rattle.widl_trace.specs.EventTerms.{EventTerm, event_term}
use Rattle.widl_runs.specs.Ends.{JobEnd}
use Rattle.widl_runs.specs.declared.stop.Stop.{Stop}
use Rattle.widl_runs.specs.declared.stop.Stop.TheVariants as stops
use Rattle.widl_runs.specs.Actions.{act, event_cost}
use Rattle.widl_runs.specs.Jobs.{Program, Doing}
use Rattle.widl_runs.specs.Rules.{rule}
use Rattle.widl_runs.specs.Traces.{Run}
use Rattle.widl_runs.specs.Worlds.{World}
use Rattle.widl_engine.specs.declared.charges.Charge.{Charge}
use Rattle.widl_engine.specs.declared.charges.Charge.TheVariants as charge
use Rattle.widl_engine.specs.declared.frames.Frame.{Frame}
use Rattle.widl_engine.specs.declared.machine.Machine.{Machine}
use Rattle.widl_engine.specs.declared.machine.Moved.{Moved}
use Rattle.widl_engine.specs.declared.machine.Moved.TheVariants as moved
use Rattle.widl_engine.specs.declared.machine.Turn.{Turn}
use Rattle.widl_engine.specs.declared.machine.Turn.TheVariants as turn
use Rattle.widl_engine.specs.declared.moves.Move.{Move}
use Rattle.widl_engine.specs.Frames.{charge_of, after_charge, after_paying, back_to, job_end_of, move_of}
use Rattle.widl_engine.specs.Place.{world_of}
use Rattle.widl_runs.specs.Fitting.{Comes, KeepsFitting}

-- the units of a charge, and its line
abbrev pub cost : Program → Charge → ℕ
cost p (charge.Unit u) = 1
cost p (charge.Line e after) = event_cost p.list (event_term e)

abbrev pub written : Charge → List EventTerm
written (charge.Unit u) = []
written (charge.Line e after) = event_term e ∷ []

-- what the frames do with an end, the lowest frame first
abbrev pub under : Program → Tables → List Frame → JobEnd → Doing
under p s [] c = End c
under p s (f ∷ fs) c = bind (under p s fs c) (back_to p s f)

-- the machine's world in a run with a budget, where these lines were written
abbrev pub world : Tables → StoreState → Machine → ℕ → List EventTerm → World
world s t m b ls = world_of s t m.place (b - m.taken) ls

-- what is still done where a charge is due, and where a move comes next
abbrev pub still : Program → Tables → Machine → Doing
still p s m = bind (Say (charge_of m.due) (after_paying p s m.due)) (under p s m.frames.items)

abbrev pub moves_on : Program → Tables → Move → Machine → Doing
moves_on p s current m = bind (move_of p s current) (under p s m.frames.items)

-- what is still done after a charge that was paid, and after the end of a job that a frame was for
abbrev pub once_paid : Program → Tables → Charge → Machine → Doing
once_paid p s charge m = bind (after_charge p s charge) (under p s m.frames.items)

abbrev pub once_ended : Program → Tables → Frame → JobEnd → Machine → Doing
once_ended p s f c m = bind (back_to p s f c) (under p s m.frames.items)

-- with each budget, the second place follows the first, with no charge between them
pub record Leads (p : Program) (s : Tables) (t : StoreState) (d : Doing) (m : Machine) (u : StoreState) (e : Doing) (n : Machine) : Type 0 where
  pub taken : n.taken ≡ m.taken
  pub budget : n.budget ≡ m.budget
  pub between : ℕ
  pub follows : (b : ℕ) (ls : List EventTerm) → Follows (rule p) (act p.list) d (world s t m b ls) e (world s u n b ls) between
  pub comes : (b : ℕ) (ls : List EventTerm) → Comes p e (world s u n b ls) d (world s t m b ls)

-- and there is less to do between two charges
pub record Moves (p : Program) (s : Tables) (t : StoreState) (d : Doing) (m : Machine) (u : StoreState) (e : Doing) (n : Machine) : Type 0 where
  pub place : Leads p s t d m u e n
  pub less : length n.frames.items < 2 * place.between + length m.frames.items

-- and there is no more to do between two charges
pub record Stays (p : Program) (s : Tables) (t : StoreState) (d : Doing) (m : Machine) (u : StoreState) (e : Doing) (n : Machine) : Type 0 where
  pub place : Leads p s t d m u e n
  pub most : length n.frames.items ≤ 2 * place.between + length m.frames.items

-- with each budget the run ends in this machine's world
pub record RunsTo (p : Program) (s : Tables) (t : StoreState) (d : Doing) (m : Machine) (u : StoreState) (n : Machine) (f : Finish JobEnd Stop) : Type 0 where
  pub taken : n.taken ≡ m.taken
  pub runs : (b : ℕ) (ls : List EventTerm) → Run p d (world s t m b ls) (world s u n b ls) f

abbrev pub Turns : Program → Tables → StoreState → Move → Machine → StoreState → Machine → Turn → Type 0
Turns p s t current m u n (turn.More next) = Moves p s t (moves_on p s current m) m u (moves_on p s next.value n) n
Turns p s t current m u n turn.Rests = Leads p s t (moves_on p s current m) m u (still p s n) n
Turns p s t current m u n (turn.Ended c) = RunsTo p s t (moves_on p s current m) m u n (Ended (job_end_of c.value))
Turns p s t current m u n (turn.Stopped stop) = RunsTo p s t (moves_on p s current m) m u n (Halted stop)
Turns p s t current m u n turn.Memory = Unit {0}

-- what steps lead to in a turn; the next move may still be the first one
abbrev pub LeadsOn : Program → Tables → StoreState → Doing → Machine → StoreState → Machine → Turn → Type 0
LeadsOn p s t d m u n (turn.More next) = Stays p s t d m u (moves_on p s next.value n) n
LeadsOn p s t d m u n turn.Rests = Leads p s t d m u (still p s n) n
LeadsOn p s t d m u n (turn.Ended c) = RunsTo p s t d m u n (Ended (job_end_of c.value))
LeadsOn p s t d m u n (turn.Stopped stop) = RunsTo p s t d m u n (Halted stop)
LeadsOn p s t d m u n turn.Memory = Unit {0}

-- what a move leads to in the turn of the one before it; it may still be the next one
abbrev pub Continues : Program → Tables → StoreState → Move → Machine → StoreState → Machine → Turn → Type 0
Continues p s t current m u n r = LeadsOn p s t (moves_on p s current m) m u n r

-- what steps lead to up to the next charge
abbrev pub Advances : Program → Tables → StoreState → Doing → Machine → StoreState → Machine → Moved → Type 0
Advances p s t d m u n moved.Going = Leads p s t d m u (still p s n) n
Advances p s t d m u n (moved.Ended c) = RunsTo p s t d m u n (Ended (job_end_of c))
Advances p s t d m u n (moved.Stopped stop) = RunsTo p s t d m u n (Halted stop)
Advances p s t d m u n moved.Memory = Unit {0}

-- with each budget that pays for less than the next charge the run stops here
pub record StopsHere (p : Program) (s : Tables) (t : StoreState) (m : Machine) : Type 0 where
  pub stops : (b : ℕ) (ls : List EventTerm) → b < m.taken + cost p m.due → Run p (still p s m) (world s t m b ls) (world s t m b ls) (Halted stops.Budget)

-- with each budget that pays for what was taken, a run from the new place is one from the old
pub record GoesOn (p : Program) (s : Tables) (t : StoreState) (m : Machine) (u : StoreState) (n : Machine) : Type 0 where
  pub budget : n.budget ≡ m.budget
  pub leads : (b : ℕ) (ls : List EventTerm) → n.taken ≤ b → (v : World) (f : Finish JobEnd Stop) → Run p (still p s n) (world s u n b (ls ++ written m.due)) v f → Run p (still p s m) (world s t m b ls) v f
  pub comes : (b : ℕ) (ls : List EventTerm) → n.taken ≤ b → Comes p (still p s n) (world s u n b (ls ++ written m.due)) (still p s m) (world s t m b ls)
  pub here : StopsHere p s u n

-- and ends so
pub record EndsSo (p : Program) (s : Tables) (t : StoreState) (m : Machine) (u : StoreState) (n : Machine) (f : Finish JobEnd Stop) : Type 0 where
  pub runs : (b : ℕ) (ls : List EventTerm) → n.taken ≤ b → Run p (still p s m) (world s t m b ls) (world s u n b (ls ++ written m.due)) f

-- the charge was taken, and the budget pays for it; with each budget between the two counts the run stops at it
pub record Charged (p : Program) (s : Tables) (t : StoreState) (m n : Machine) : Type 0 where
  pub taken : n.taken ≡ m.taken + cost p m.due
  pub within : n.taken ≤ m.budget
  pub here : StopsHere p s t m

-- what a charge that was taken leads to
abbrev pub StepsTo : Program → Tables → StoreState → Machine → StoreState → Machine → Moved → Type 0
StepsTo p s t m u n moved.Going = Charged p s t m n × GoesOn p s t m u n
StepsTo p s t m u n (moved.Ended c) = Charged p s t m n × EndsSo p s t m u n (Ended (job_end_of c))
StepsTo p s t m u n (moved.Stopped stop) = Charged p s t m n × EndsSo p s t m u n (Halted stop)
StepsTo p s t m u n moved.Memory = Unit {0}

-- with the machine's budget, and some lines before, each place that the run comes to fits
pub record MachineFits (p : Program) (s : Tables) (t : StoreState) (d : Doing) (m : Machine) : Type 0 where
  pub lines : List EventTerm
  pub keeps : KeepsFitting p d (world s t m m.budget lines)
