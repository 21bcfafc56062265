-- What a step of a machine leads to: its line is emitted and its units are taken, and the machine moves to the next charge. No rule names it.
use Rattle.std.specs.Prelude.{◌≡◌, ℕ, ◌+◌, ◌≤◌, ◌<◌, List, [], ◌⊎◌, Option, Some, None}
use Rattle.widl_script_tree.specs.Tables.{Tables}
use Rattle.widl_sink.specs.Causes.{Rose}
use Rattle.widl_sink.specs.Lines.{ended}
use Rattle.widl_store.specs.Objects.{StoreState}
use Rattle.widl_trace.specs.EventLines.{line_of}
use Rattle.widl_trace.specs.EventTerms.{event_term}
use Rattle.widl_runs.specs.Jobs.{Program}
use Rattle.widl_engine.specs.declared.charges.Charge.{Charge}
use Rattle.widl_engine.specs.declared.charges.Charge.TheVariants as charge
use Rattle.widl_engine.specs.declared.machine.Machine.{Machine}
use Rattle.widl_engine.specs.declared.machine.Moved.{Moved}
use Rattle.widl_engine.specs.declared.machine.Moved.TheVariants as moved
use Rattle.widl_engine.specs.declared.machine.Stepped.{Stepped}
use Rattle.widl_engine.specs.declared.machine.Stepped.TheVariants as stepped
use Rattle.widl_engine.specs.declared.machine.Way.{Way}
use Rattle.widl_engine.specs.declared.machine.Way.TheVariants as way
use Rattle.widl_engine.specs.declared.paying.Owed.{Owed}
use Rattle.widl_engine.specs.Machine.{cost, StopsHere, StepsTo}
use Rattle.widl_engine.specs.Output.{Output, Emits, Tears}

-- 1. What is owed

-- the bytes of a charge: its line and the line feed; a unit has none
abbrev pub bytes_of : Program → Charge → List ℕ
bytes_of p (charge.Unit u) = []
bytes_of p (charge.Line e after) = ended (line_of p.list (event_term e))

abbrev pub bytes_in : Option (List ℕ) → List ℕ
bytes_in None = []
bytes_in (Some line) = ended line

-- the units and the line of a charge, for which so many units suffice
pub record Owes (p : Program) (c : Charge) (left : ℕ) (o : Owed) : Type 0 where
  pub units : o.units ≡ cost p c
  pub within : o.units ≤ left
  pub bytes : bytes_in o.line ≡ bytes_of p c

-- nothing is owed only where the units that are left don't suffice
abbrev pub IsOwed : Program → Charge → ℕ → Option Owed → Type 0
IsOwed p c left None = left < cost p c
IsOwed p c left (Some o) = Owes p c left o

-- 2. A step

-- the budget doesn't pay for the charge, and nothing has changed
pub record Unpaid (p : Program) (s : Tables) (t : StoreState) (m : Machine) (n : Machine) (before after : Output) : Type 0 where
  pub lacks : m.budget < m.taken + cost p m.due
  pub same : after ≡ before
  pub taken : n.taken ≡ m.taken
  pub here : StopsHere p s t m

-- the charge was taken, its bytes were emitted, and this is where it led
pub record Takes (p : Program) (s : Tables) (t : StoreState) (m : Machine) (u : StoreState) (n : Machine) (before after : Output) (led : Moved) : Type 0 where
  pub emitted : Emits before after (bytes_of p m.due)
  pub leads : StepsTo p s t m u n led

-- nothing was emitted, or all bytes of the charge, for which the budget pays
abbrev pub Broke : Program → Machine → Output → Output → Type 0
Broke p m before after = (after ≡ before) ⊎ (Emits before after (bytes_of p m.due) × (m.taken + cost p m.due ≤ m.budget))

-- the sink failed at the bytes of the charge, for which the budget pays
pub record Torn (p : Program) (m : Machine) (before after : Output) : Type 0 where
  pub tears : Tears before after (bytes_of p m.due)
  pub pays : m.taken + cost p m.due ≤ m.budget

abbrev pub stepped_of : Moved → Stepped
stepped_of moved.Going = stepped.Going
stepped_of (moved.Ended c) = stepped.Over (way.Ended c)
stepped_of (moved.Stopped stop) = stepped.Over (way.Stopped stop)
stepped_of moved.Memory = stepped.Over way.Memory

abbrev pub Steps : Program → Tables → StoreState → Machine → StoreState → Machine → Output → Output → Stepped → Type 0
Steps p s t m u n before after stepped.Going = Takes p s t m u n before after moved.Going
Steps p s t m u n before after stepped.Unpaid = Unpaid p s t m n before after
Steps p s t m u n before after (stepped.Over (way.Ended c)) = Takes p s t m u n before after (moved.Ended c)
Steps p s t m u n before after (stepped.Over (way.Stopped stop)) = Takes p s t m u n before after (moved.Stopped stop)
Steps p s t m u n before after (stepped.Over way.Memory) = Broke p m before after
Steps p s t m u n before after (stepped.Over way.WriteFault) = Torn p m before after

-- 3. Faults of the sink, whose count is this before and now

-- the run ends for a fault only where the count rose, and for nothing else where it did
abbrev pub Faults : ℕ → ℕ → Way → Type 0
Faults before now way.WriteFault = (before ≤ now) × Rose before now
Faults before now way = now ≡ before

abbrev pub SteppedFaults : ℕ → ℕ → Stepped → Type 0
SteppedFaults before now (stepped.Over way) = Faults before now way
SteppedFaults before now s = now ≡ before
