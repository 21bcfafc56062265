-- For proofs alone. A whole run, from its begin to what becomes of it.
use Rattle.std.proofs.Common.{◌≡◌, ℕ, ◌+◌, ◌-◌, ◌≤◌, List, [], ◌++◌, inl, inr, length, map, sym, ap, subst, ◌∙◌, refl, arith, append-nil, append_assoc, length-append}
use Rattle.std.proofs.lemmas.Grind.{flat_map-append}
use Rattle.std.proofs.lemmas.List.{map-append}
use Rattle.widl_dialog.specs.Dialog.{bind}
use Rattle.widl_dialog.specs.Runs.{Finish, Halted}
use Rattle.widl_dialog.proofs.Bind.{bind_end}
use Rattle.widl_dialog.proofs.Running.{one_outcome}
use Rattle.widl_script_tree.specs.Tables.{Tables, script_tree, statements_tree}
use Rattle.widl_sink.specs.Lines.{ended}
use Rattle.widl_sink.proofs.Grows.{sends_then, sends_none, sends_prefix, prefix_longer}
use Rattle.widl_store.specs.Objects.{StoreState}
use Rattle.widl_trace.specs.EventLines.{line_of}
use Rattle.widl_trace.specs.EventTerms.{EventTerm, event_term}
use Rattle.widl_runs.specs.Ends.{JobEnd}
use Rattle.widl_runs.specs.declared.stop.Stop.{Stop}
use Rattle.widl_runs.specs.declared.stop.Stop.TheVariants as stops
use Rattle.widl_runs.specs.Actions.{act}
use Rattle.widl_runs.specs.Jobs.{Program, Doing}
use Rattle.widl_runs.specs.Rules.{rule}
use Rattle.widl_runs.specs.Traces.{Run, whole, first_world}
use Rattle.widl_runs.specs.Worlds.{World}
use Rattle.widl_runs.proofs.LineCosts.{lines_grow}
use Rattle.widl_runs.proofs.Outcomes.{some_outcome}
use Rattle.widl_engine.specs.declared.charges.Charge.{Charge}
use Rattle.widl_engine.specs.declared.charges.Charge.TheVariants as charge
use Rattle.widl_engine.specs.declared.frames.Frame.{Frame}
use Rattle.widl_engine.specs.declared.machine.Machine.{Machine}
use Rattle.widl_engine.specs.declared.machine.Moved.TheVariants as moved
use Rattle.widl_engine.specs.declared.machine.Stepped.TheVariants as stepped
use Rattle.widl_engine.specs.declared.machine.Way.{Way}
use Rattle.widl_engine.specs.declared.machine.Way.TheVariants as way
use Rattle.widl_engine.specs.declared.moves.Move.{Move}
use Rattle.widl_engine.specs.declared.runs.Counts.{Counts}
use Rattle.widl_engine.specs.Frames.{after_charge, move_of}
use Rattle.widl_runs.specs.Fitting.{KeepsFitting}
use Rattle.widl_engine.specs.Machine.{cost, written, under, world, still, moves_on, Leads, RunsTo, EndsSo, MachineFits}
use Rattle.widl_engine.specs.Output.{Output, Emits, Tears, bytes_of_lines}
use Rattle.widl_engine.specs.Place.{named, contexts_of}
use Rattle.widl_engine.specs.Running.{IsFresh, bytes_of_events, WholeRun, Stands, Finished, Begun, Broken, Became}
use Rattle.widl_engine.specs.Stepping.{bytes_of, Unpaid, Takes, Broke, Torn, Steps}
use Rattle.widl_engine.proofs.Charging.{after_paid}
use Rattle.widl_engine.proofs.Coming.{keeps_on}

-- the trees of the statements outside functions
pub top_tree : (s : Tables) → statements_tree s s.top ≡ (script_tree s).top
unfolding script_tree
top_tree s = refl

emits_none : (o : Output) → Emits o o []
emits_none o = sends_none o.held o.kept

written_few : (p : Program) (c : Charge) → length (written c) ≤ cost p c
written_few p (charge.Unit u) = omega arith
written_few p (charge.Line e then) = omega arith

module _ (p : Program) where
  pub bytes_append : (es fs : List EventTerm) → bytes_of_events p (es ++ fs) ≡ bytes_of_events p es ++ bytes_of_events p fs
  bytes_append es fs = ap bytes_of_lines (map-append (line_of p.list) es fs) ∙ flat_map-append ended (map (line_of p.list) es) (map (line_of p.list) fs)

  bytes_written : (c : Charge) → bytes_of_events p (written c) ≡ bytes_of p c
  bytes_written (charge.Unit u) = refl
  bytes_written (charge.Line e then) = append-nil (ended (line_of p.list (event_term e)))

  with_bytes : (es : List EventTerm) (c : Charge) → bytes_of_events p es ++ bytes_of p c ≡ bytes_of_events p (es ++ written c)
  with_bytes es c = ap (λ (l : List ℕ). bytes_of_events p es ++ l) (sym (bytes_written c)) ∙ sym (bytes_append es (written c))

  -- the bytes after one more charge
  emits_more : (before mid after : Output) (es : List EventTerm) (c : Charge) → Emits before mid (bytes_of_events p es) → Emits mid after (bytes_of p c) → Emits before after (bytes_of_events p (es ++ written c))
  emits_more before mid after es c x y = subst (Emits before after) (with_bytes es c) (sends_then before.held mid.held after.held before.kept (bytes_of_events p es) mid.kept (bytes_of p c) after.kept x y)

  -- bytes that a sink doesn't hold whole, after lines that were emitted and before others
  tears_more : (before mid after : Output) (es more : List EventTerm) (bytes : List ℕ) (all : List EventTerm) → Emits before mid (bytes_of_events p es) → Tears mid after bytes → bytes_of_events p all ≡ (bytes_of_events p es ++ bytes) ++ bytes_of_events p more → Tears before after (bytes_of_events p all)
  tears_more before mid after es more bytes all x y is =
      let so_far = sends_prefix before.held mid.held after.held before.kept (bytes_of_events p es) mid.kept bytes x y in
      let longer = prefix_longer before.held after.held (before.kept ++ (bytes_of_events p es ++ bytes)) (bytes_of_events p more) so_far in
      subst (Rattle.widl_sink.specs.Growth.GrewByPrefix before.held after.held) (append_assoc before.kept (bytes_of_events p es ++ bytes) (bytes_of_events p more) ∙ ap (λ (l : List ℕ). before.kept ++ l) (sym is)) longer

  -- where a run from a place is a whole one, the lines of the place begin those of the whole one
  pub begins : (start : StoreState) (budget : ℕ) (d : Doing) (w : World) → ((v : World) (f : Finish JobEnd Stop) → Run p d w v f → WholeRun p start budget v f) → (v : World) (f : Finish JobEnd Stop) → WholeRun p start budget v f → (more : List EventTerm) × (v.lines ≡ w.lines ++ more)
  begins start budget d w leads v f run =
      let here = some_outcome p d w in
      let grown = lines_grow p d w here.world here.finish here.does in
      let one = one_outcome (rule p) (act p.list) run (leads here.world here.finish here.does) in
      (grown.0, ap (λ (x : World). x.lines) one.0 ∙ grown.1)

  module _ (s : Tables) where
    -- 1. The begin

    fresh_world : (t : StoreState) (m : Machine) (budget : ℕ) → IsFresh m budget → world s t m budget [] ≡ first_world t budget
    fresh_world t m budget x =
        let globals = x.globals in
        let symbol = x.symbol in
        let here = x.here in
        let outer = x.outer in
        let units : budget - m.taken ≡ budget = ap (λ (k : ℕ). budget - k) x.taken ∙ omega arith in
        λ i. record { store = t; globals = named (Rattle.widl_script_tree.specs.Tables.name_at s) (globals i); next_symbol = symbol i; lines = []; units = units i; contexts = contexts_of s (here i) (outer i) }

    fresh_moves : (m : Machine) (first : Move) (budget : ℕ) → move_of p s first ≡ whole p → IsFresh m budget → moves_on p s first m ≡ whole p
    fresh_moves m first budget is x = ap (λ (d : Doing). bind d (under p s m.frames.items)) is ∙ ap (λ (fs : List Frame). bind (whole p) (under p s fs)) x.frames ∙ bind_end (whole p)

    from_fresh : (t : StoreState) (m : Machine) (first : Move) (budget : ℕ) → move_of p s first ≡ whole p → IsFresh m budget → (v : World) (f : Finish JobEnd Stop) → Run p (moves_on p s first m) (world s t m budget []) v f → WholeRun p t budget v f
    from_fresh t m first budget is x v f run =
        subst (λ (w : World). Run p (whole p) w v f) (fresh_world t m budget x)
        (subst (λ (d : Doing). Run p d (world s t m budget []) v f) (fresh_moves m first budget is x) run)

    fresh_keeps : (t : StoreState) (m : Machine) (first : Move) (budget : ℕ) → move_of p s first ≡ whole p → IsFresh m budget → KeepsFitting p (whole p) (first_world t budget) → KeepsFitting p (moves_on p s first m) (world s t m budget [])
    fresh_keeps t m first budget is x keeps =
        subst (λ (d : Doing). KeepsFitting p d (world s t m budget [])) (sym (fresh_moves m first budget is x))
        (subst (λ (w : World). KeepsFitting p (whole p) w) (sym (fresh_world t m budget x)) keeps)

    -- the first move fits
    pub first_fits : (t : StoreState) (m : Machine) (first : Move) (budget : ℕ) → move_of p s first ≡ whole p → IsFresh m budget → KeepsFitting p (whole p) (first_world t budget) → MachineFits p s t (moves_on p s first m) m
    first_fits t m first budget is x keeps = record {
      lines = [];
      keeps = subst (λ (b : ℕ). KeepsFitting p (moves_on p s first m) (world s t m b [])) (sym x.limit) (fresh_keeps t m first budget is x keeps);
    }

    pub first_stands : (t u : StoreState) (m n : Machine) (first : Move) (budget : ℕ) (before : Output) → move_of p s first ≡ whole p → IsFresh m budget → KeepsFitting p (whole p) (first_world t budget) → Leads p s t (moves_on p s first m) m u (still p s n) n → Stands p s t budget before u n before 0
    first_stands t u m n first budget before is x keeps led = record {
      limit = led.budget ∙ x.limit;
      paid = omega (arith, led.taken, x.taken);
      events = [];
      emitted = emits_none before;
      count = refl;
      few = omega arith;
      leads = λ v f run. from_fresh t m first budget is x v f ((led.follows budget []).leads v f run);
      fits = keeps_on (led.comes budget []) (fresh_keeps t m first budget is x keeps);
    }

    -- a run that ends before its first charge
    pub first_finished : (t u : StoreState) (m n : Machine) (first : Move) (budget : ℕ) (before : Output) (f : Finish JobEnd Stop) (counts : Counts) → move_of p s first ≡ whole p → IsFresh m budget → counts.events ≡ 0 → counts.units ≡ 0 → RunsTo p s t (moves_on p s first m) m u n f → Finished p t budget before before f counts
    first_finished t u m n first budget before f counts is x none free ends = record {
      world = world s u n budget [];
      runs = from_fresh t m first budget is x _ f (ends.runs budget []);
      emitted = emits_none before;
      events = none;
      units = omega (arith, free, ends.taken, x.taken);
      few = omega (arith, none);
    }

    pub not_begun : (t : StoreState) (budget : ℕ) (before : Output) → Begun p t budget before before
    not_begun t budget before = record { events = []; emitted = emits_none before; begins = λ v f run. (v.lines, refl) }

    -- 2. A step

    pub stands_fits : {t u : StoreState} {m : Machine} {budget count : ℕ} {before after : Output} → Stands p s t budget before u m after count → MachineFits p s u (still p s m) m
    stands_fits {u = u} {m = m} r = record {
      lines = r.events;
      keeps = subst (λ (b : ℕ). KeepsFitting p (still p s m) (world s u m b r.events)) (sym r.limit) r.fits;
    }

    pub goes_on : (start t u : StoreState) (m n : Machine) (budget count more : ℕ) (before mid after : Output) → Stands p s start budget before t m mid count → Takes p s t m u n mid after moved.Going → more ≡ length (written m.due) → Stands p s start budget before u n after (count + more)
    goes_on start t u m n budget count more before mid after r x is =
        let charged = x.leads.0 in
        let on = x.leads.1 in
        let size = length-append r.events (written m.due) in
        let less = written_few p m.due in
        let within : n.taken ≤ budget = omega (arith, charged.within, r.limit) in
        record {
          limit = on.budget ∙ r.limit;
          paid = within;
          events = r.events ++ written m.due;
          emitted = emits_more before mid after r.events m.due r.emitted x.emitted;
          count = omega (arith, size, is, r.count);
          few = omega (arith, size, less, r.few, charged.taken);
          leads = λ v f run. r.leads v f (on.leads budget r.events within v f run);
          fits = keeps_on (on.comes budget r.events within) r.fits;
        }

    finished : (start t u : StoreState) (m n : Machine) (budget count more : ℕ) (before mid after : Output) (f : Finish JobEnd Stop) (counts : Counts) → Stands p s start budget before t m mid count → n.taken ≡ m.taken + cost p m.due → n.taken ≤ m.budget → EndsSo p s t m u n f → Emits mid after (bytes_of p m.due) → more ≡ length (written m.due) → counts.events ≡ count + more → counts.units ≡ n.taken → Finished p start budget before after f counts
    finished start t u m n budget count more before mid after f counts r taken within ends emitted is events units =
        let size = length-append r.events (written m.due) in
        let less = written_few p m.due in
        let paid : n.taken ≤ budget = omega (arith, within, r.limit) in
        record {
          world = world s u n budget (r.events ++ written m.due);
          runs = r.leads _ f (ends.runs budget r.events paid);
          emitted = emits_more before mid after r.events m.due r.emitted emitted;
          events = omega (arith, events, size, is, r.count);
          units = omega (arith, units, paid);
          few = omega (arith, events, is, r.count, less, r.few, taken, paid);
        }

    -- the charge that is due isn't paid for
    pub unpaid : (start t : StoreState) (m n : Machine) (budget count : ℕ) (before mid after : Output) (counts : Counts) → Stands p s start budget before t m mid count → Unpaid p s t m n mid after → counts.events ≡ count → counts.units ≡ n.taken → Finished p start budget before after (Halted stops.Budget) counts
    unpaid start t m n budget count before mid after counts r x events units = record {
      world = world s t m budget r.events;
      runs = r.leads _ _ (x.here.stops budget r.events (omega (arith, x.lacks, r.limit)));
      emitted = subst (λ (o : Output). Emits before o (bytes_of_events p r.events)) (sym x.same) r.emitted;
      events = events ∙ r.count;
      units = omega (arith, units, x.taken, r.paid);
      few = omega (arith, events, r.count, r.few, r.paid);
    }

    stands_begun : (start t : StoreState) (m : Machine) (budget count : ℕ) (before mid : Output) → Stands p s start budget before t m mid count → Begun p start budget before mid
    stands_begun start t m budget count before mid r = record {
      events = r.events;
      emitted = r.emitted;
      begins = begins start budget (still p s m) (world s t m budget r.events) r.leads;
    }

    -- with the line of the charge that is due, for which the budget pays
    paid_begins : (start t : StoreState) (m : Machine) (budget count : ℕ) (before mid : Output) (r : Stands p s start budget before t m mid count) → m.taken + cost p m.due ≤ m.budget → (v : World) (f : Finish JobEnd Stop) → WholeRun p start budget v f → (more : List EventTerm) × (v.lines ≡ (r.events ++ written m.due) ++ more)
    paid_begins start t m budget count before mid r pays =
        let n : Machine = record m { taken = m.taken + cost p m.due } in
        begins start budget (bind (after_charge p s m.due) (under p s m.frames.items)) (world s t n budget (r.events ++ written m.due))
        (λ v f run. r.leads v f (after_paid p s t m n refl refl budget r.events (omega (arith, pays, r.limit)) v f run))

    broke : (start t : StoreState) (m : Machine) (budget count : ℕ) (before mid after : Output) → Stands p s start budget before t m mid count → Broke p m mid after → Begun p start budget before after
    broke start t m budget count before mid after r (inl same) = subst (Begun p start budget before) (sym same) (stands_begun start t m budget count before mid r)
    broke start t m budget count before mid after r (inr x) = record {
      events = r.events ++ written m.due;
      emitted = emits_more before mid after r.events m.due r.emitted x.0;
      begins = paid_begins start t m budget count before mid r x.1;
    }

    torn : (start t : StoreState) (m : Machine) (budget count : ℕ) (before mid after : Output) → Stands p s start budget before t m mid count → Torn p m mid after → Broken p start budget before after
    torn start t m budget count before mid after r x = record {
      tears = λ v f run.
          let more = paid_begins start t m budget count before mid r x.pays v f run in
          let bytes : bytes_of_events p v.lines ≡ (bytes_of_events p r.events ++ bytes_of p m.due) ++ bytes_of_events p more.0 =
          ap (bytes_of_events p) more.1 ∙ bytes_append (r.events ++ written m.due) more.0 ∙ ap (λ (l : List ℕ). l ++ bytes_of_events p more.0) (sym (with_bytes r.events m.due)) in
          tears_more before mid after r.events more.0 (bytes_of p m.due) v.lines r.emitted x.tears bytes;
    }

    -- what becomes of the run at its end
    pub over : (start t u : StoreState) (m n : Machine) (budget count more : ℕ) (before mid after : Output) (how : Way) (counts : Counts) → Stands p s start budget before t m mid count → Steps p s t m u n mid after (stepped.Over how) → more ≡ length (written m.due) → counts.events ≡ count + more → counts.units ≡ n.taken → Became p start budget before after how counts
    over start t u m n budget count more before mid after (way.Ended c) counts r x is events units = finished start t u m n budget count more before mid after _ counts r x.leads.0.taken x.leads.0.within x.leads.1 x.emitted is events units
    over start t u m n budget count more before mid after (way.Stopped stop) counts r x is events units = finished start t u m n budget count more before mid after _ counts r x.leads.0.taken x.leads.0.within x.leads.1 x.emitted is events units
    over start t u m n budget count more before mid after way.WriteFault counts r x is events units = torn start t m budget count before mid after r x
    over start t u m n budget count more before mid after way.Memory counts r x is events units = broke start t m budget count before mid after r x
