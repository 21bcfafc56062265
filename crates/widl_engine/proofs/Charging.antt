-- For proofs alone. A charge that is taken, or that stops the run.
use Rattle.std.proofs.Common.{◌≡◌, ℕ, ◌≤◌, ◌<◌, ◌+◌, ◌-◌, Bool, List, [], ◌∷◌, ◌++◌, sym, ap, subst, ◌∙◌, refl, arith, append-nil, if◌then◌else◌}
use Rattle.std.proofs.lemmas.Bool.{lt-ltb, le-ltb}
use Rattle.widl_dialog.specs.Dialog.{bind}
use Rattle.widl_dialog.specs.Runs.{Went, Stops, Finish, Halted}
use Rattle.widl_dialog.proofs.Running.{does_said, does_stop}
use Rattle.widl_script_tree.specs.Tables.{Tables}
use Rattle.widl_store.specs.Objects.{StoreState}
use Rattle.widl_trace.specs.EventTerms.{EventTerm, event_term}
use Rattle.widl_runs.specs.Ends.{JobEnd}
use Rattle.widl_runs.specs.declared.stop.Stop.{Stop}
use Rattle.widl_runs.specs.declared.stop.Stop.TheVariants as stops
use Rattle.widl_runs.specs.Actions.{IsDone, act, event_cost}
use Rattle.widl_runs.specs.Jobs.{Program, Doing}
use Rattle.widl_runs.specs.Rules.{rule}
use Rattle.widl_runs.specs.Traces.{Run}
use Rattle.widl_runs.specs.Worlds.{World}
use Rattle.widl_engine.specs.declared.charges.Charge.{Charge}
use Rattle.widl_engine.specs.declared.charges.Charge.TheVariants as charge
use Rattle.widl_engine.specs.declared.contexts.Place.{Place}
use Rattle.widl_engine.specs.declared.due.Due.{Due}
use Rattle.widl_engine.specs.declared.machine.Machine.{Machine}
use Rattle.widl_engine.specs.declared.machine.Moved.{Moved}
use Rattle.widl_engine.specs.declared.machine.Moved.TheVariants as moved
use Rattle.widl_engine.specs.declared.moves.Move.TheVariants as move
use Rattle.widl_engine.specs.Frames.{charge_of, after_charge, after_paying, act_of, after}
use Rattle.widl_engine.specs.Place.{world_of, Stopped}
use Rattle.widl_engine.specs.Machine.{cost, written, under, world, still, moves_on, once_paid, RunsTo, Advances, StopsHere, GoesOn, MachineFits, StepsTo}
use Rattle.widl_engine.proofs.Acting.{Done}
use Rattle.widl_runs.specs.Fitting.{Comes, said, KeepsFitting}
use Rattle.widl_engine.proofs.Coming.{comes_same, comes_then, keeps_on}
use Rattle.widl_engine.proofs.Leading.{same_world}

module _ (p : Program) (s : Tables) where
  -- an action that stops
  pub stopped : (t u : StoreState) (m n : Machine) (due : Due) (stop : Stop) → Stopped p s due t m.place u n.place stop → n.taken ≡ m.taken → RunsTo p s t (moves_on p s (move.Acts due) m) m u n (Halted stop)
  stopped t u m n due stop x taken = record {
    taken = taken;
    runs = λ b ls.
        let g : JobEnd → Doing = under p s m.frames.items in
        let there : world s t m b ls ≡ world s u n b ls = same_world s t m n b ls x.place taken ∙ ap (λ (o : StoreState). world s o n b ls) (sym x.store) in
        subst (λ (w : World). Run p (moves_on p s (move.Acts due) m) (world s t m b ls) w (Halted stop)) there
        (does_stop (rule p) (act p.list) (act_of p s due) (λ r. bind (after p s due r) g) stop (world s t m b ls) (x.stops (b - m.taken) ls));
  }

  -- a charge goes where the budget pays for it
  pub charge_goes : (t : StoreState) (m n : Machine) (due : Charge) → n.taken ≡ m.taken + cost p due → n.place ≡ m.place → (b : ℕ) (ls : List EventTerm) → n.taken ≤ b → act p.list (charge_of due) (world s t m b ls) ≡ Went (world s t n b (ls ++ written due)) IsDone
  charge_goes t m n (charge.Unit u) taken place b ls h =
      let left : b - m.taken - 1 ≡ b - n.taken = omega (arith, taken) in
      ap (λ (x : Bool). let d : Done = if x then Stops stops.Budget else Went (world_of s t m.place (b - m.taken - 1) ls) IsDone in d) (le-ltb (b - m.taken) 1 (omega (arith, taken, h)))
      ∙ ap (λ (k : ℕ). let d : Done = Went (world_of s t m.place k ls) IsDone in d) left
      ∙ ap (λ (l : List EventTerm). let d : Done = Went (world_of s t m.place (b - n.taken) l) IsDone in d) (sym (append-nil ls))
      ∙ ap (λ (x : Place). let d : Done = Went (world_of s t x (b - n.taken) (ls ++ [])) IsDone in d) (sym place)
  charge_goes t m n (charge.Line e what) taken place b ls h =
      let units : ℕ = event_cost p.list (event_term e) in
      let left : b - m.taken - units ≡ b - n.taken = omega (arith, taken) in
      ap (λ (x : Bool). let d : Done = if x then Stops stops.Budget else Went (world_of s t m.place (b - m.taken - units) (ls ++ event_term e ∷ [])) IsDone in d) (le-ltb (b - m.taken) units (omega (arith, taken, h)))
      ∙ ap (λ (k : ℕ). let d : Done = Went (world_of s t m.place k (ls ++ event_term e ∷ [])) IsDone in d) left
      ∙ ap (λ (x : Place). let d : Done = Went (world_of s t x (b - n.taken) (ls ++ event_term e ∷ [])) IsDone in d) (sym place)

  charge_stops : (t : StoreState) (m : Machine) (due : Charge) (b : ℕ) (ls : List EventTerm) → b < m.taken + cost p due → act p.list (charge_of due) (world s t m b ls) ≡ Stops stops.Budget
  charge_stops t m (charge.Unit u) b ls h = ap (λ (x : Bool). let d : Done = if x then Stops stops.Budget else Went (world_of s t m.place (b - m.taken - 1) ls) IsDone in d) (lt-ltb (b - m.taken) 1 (omega (arith, h)))
  charge_stops t m (charge.Line e what) b ls h =
      let units : ℕ = event_cost p.list (event_term e) in
      ap (λ (x : Bool). let d : Done = if x then Stops stops.Budget else Went (world_of s t m.place (b - m.taken - units) (ls ++ event_term e ∷ [])) IsDone in d) (lt-ltb (b - m.taken) units (omega (arith, h)))

  pub stops_here : (t : StoreState) (m : Machine) → StopsHere p s t m
  stops_here t m = record {
    stops = λ b ls h. does_stop (rule p) (act p.list) (charge_of m.due) (λ r. bind (after_paying p s m.due r) (under p s m.frames.items)) stops.Budget (world s t m b ls) (charge_stops t m m.due b ls h);
  }

  -- what is left after a charge that is paid for
  pub after_paid : (t : StoreState) (m n : Machine) → n.taken ≡ m.taken + cost p m.due → n.place ≡ m.place → (b : ℕ) (ls : List EventTerm) → n.taken ≤ b → (v : World) (f : Finish JobEnd Stop) → Run p (bind (after_charge p s m.due) (under p s m.frames.items)) (world s t n b (ls ++ written m.due)) v f → Run p (still p s m) (world s t m b ls) v f
  after_paid t m n taken place b ls h v f run =
      does_said (rule p) (act p.list) (charge_of m.due) (λ r. bind (after_paying p s m.due r) (under p s m.frames.items)) IsDone (charge_goes t m n m.due taken place b ls h) run

  -- what is left after a charge, and before it
  before_charge : (t : StoreState) (m n : Machine) (d : Doing) → n.taken ≡ m.taken + cost p m.due → n.place ≡ m.place → d ≡ once_paid p s m.due m → (b : ℕ) (ls : List EventTerm) → n.taken ≤ b → (v : World) (f : Finish JobEnd Stop) → Run p d (world s t n b (ls ++ written m.due)) v f → Run p (still p s m) (world s t m b ls) v f
  before_charge t m n d taken place tree b ls h v f run =
      after_paid t m n taken place b ls h v f
      (subst (λ (e : Doing). Run p e (world s t n b (ls ++ written m.due)) v f) tree run)

  comes_charge : (t : StoreState) (m n : Machine) (d : Doing) → n.taken ≡ m.taken + cost p m.due → n.place ≡ m.place → d ≡ once_paid p s m.due m → (b : ℕ) (ls : List EventTerm) → n.taken ≤ b → Comes p d (world s t n b (ls ++ written m.due)) (still p s m) (world s t m b ls)
  comes_charge t m n d taken place tree b ls h =
      let g : JobEnd → Doing = under p s m.frames.items in
      said (charge_of m.due) (λ r. bind (after_paying p s m.due r) g) IsDone (world s t m b ls) (world s t n b (ls ++ written m.due)) (charge_goes t m n m.due taken place b ls h) (comes_same (sym tree) refl)

  -- where a machine fits, it fits after its charge
  pub fits_charged : (t : StoreState) (m n : Machine) (d : Doing) → n.taken ≡ m.taken + cost p m.due → n.taken ≤ m.budget → n.budget ≡ m.budget → n.place ≡ m.place → d ≡ once_paid p s m.due m → MachineFits p s t (still p s m) m → MachineFits p s t d n
  fits_charged t m n d taken within budget place tree fits = record {
    lines = fits.lines ++ written m.due;
    keeps = subst (λ (b : ℕ). KeepsFitting p d (world s t n b (fits.lines ++ written m.due))) (sym budget) (keeps_on (comes_charge t m n d taken place tree m.budget fits.lines within) fits.keeps);
  }

  -- and at the charge after it
  pub fits_after : (t u : StoreState) (m n : Machine) → n.taken ≤ m.budget → GoesOn p s t m u n → MachineFits p s t (still p s m) m → MachineFits p s u (still p s n) n
  fits_after t u m n within x fits = record {
    lines = fits.lines ++ written m.due;
    keeps = subst (λ (b : ℕ). KeepsFitting p (still p s n) (world s u n b (fits.lines ++ written m.due))) (sym x.budget) (keeps_on (x.comes m.budget fits.lines within) fits.keeps);
  }

  -- a charge that was taken, and all moves up to the next one
  pub charge_steps : (t u : StoreState) (m n o : Machine) (d : Doing) (led : Moved) → n.taken ≡ m.taken + cost p m.due → n.taken ≤ m.budget → n.budget ≡ m.budget → n.place ≡ m.place → d ≡ once_paid p s m.due m → Advances p s t d n u o led → StepsTo p s t m u o led
  charge_steps t u m n o d moved.Going taken within budget place tree x = (
    record { taken = x.taken ∙ taken; within = omega (arith, x.taken, within); here = stops_here t m },
    record {
      budget = x.budget ∙ budget;
      leads = λ b ls h v f run. before_charge t m n d taken place tree b ls (omega (arith, x.taken, h)) v f ((x.follows b (ls ++ written m.due)).leads v f run);
      comes = λ b ls h. comes_then (comes_charge t m n d taken place tree b ls (omega (arith, x.taken, h))) (x.comes b (ls ++ written m.due));
      here = stops_here u o;
    },
  )
  charge_steps t u m n o d (moved.Ended c) taken within budget place tree x = (
    record { taken = x.taken ∙ taken; within = omega (arith, x.taken, within); here = stops_here t m },
    record { runs = λ b ls h. before_charge t m n d taken place tree b ls (omega (arith, x.taken, h)) _ _ (x.runs b (ls ++ written m.due)) },
  )
  charge_steps t u m n o d (moved.Stopped stop) taken within budget place tree x = (
    record { taken = x.taken ∙ taken; within = omega (arith, x.taken, within); here = stops_here t m },
    record { runs = λ b ls h. before_charge t m n d taken place tree b ls (omega (arith, x.taken, h)) _ _ (x.runs b (ls ++ written m.due)) },
  )
  charge_steps t u m n o d moved.Memory taken within budget place tree x = tt
