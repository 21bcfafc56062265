-- Runs whose lines cost one unit each: they are computed without a look at the texts of the lines.
use Rattle.std.proofs.Common.{◌≡◌, ℕ, zero, suc, ◌+◌, ◌-◌, ◌/◌, ◌%◌, ◌<◌, ◌≤◌, Bool, true, false, List, [], ◌∷◌, ◌++◌, map, arith, refl, sym, ap, subst, ◌∙◌, if◌then◌else◌}
use Rattle.std.specs.Prelude.{nat_lt, decimal}
use Rattle.std.proofs.lemmas.Bool.{lt-ltb, ltb-true}
use Rattle.std.proofs.lemmas.Fmt.{decimal_digit, decimal_step}
use Rattle.widl_dialog.specs.Dialog.{End, Say, Steps, bind}
use Rattle.widl_dialog.specs.Kept.{Grown, Holds}
use Rattle.widl_dialog.specs.Runs.{Did, Went, Stops, Finish, Halted, on_did, Runs}
use Rattle.widl_dialog.proofs.Keeping.{grows}
use Rattle.widl_idl.specs.DefinitionTerms.{DefsTerm}
use Rattle.widl_store.specs.Realm.{realm_of}
use Rattle.widl_script_tree.specs.Trees.{ScriptTree}
use Rattle.widl_sink.specs.Lines.{line_cost}
use Rattle.widl_trace.specs.EventTerms.{EventTerm}
use Rattle.widl_trace.specs.EventLines.{line_of}
use Rattle.widl_runs.specs.Ends.{JobEnd}
use Rattle.widl_runs.specs.declared.stop.Stop.{Stop}
use Rattle.widl_runs.specs.declared.stop.Stop.TheVariants as stops
use Rattle.widl_runs.specs.Worlds.{World}
use Rattle.widl_runs.specs.Actions.{Action, Pay, Write, TestDepth, Enter, Leave, FindBody, ReadThis, ReadName, BindName, TakeSymbol, AddObject, FindProperty, PutProperty, DefineProperty, DeleteProperty, FindKeys, FindOwn, FindInner, ChangePart, Reach, Reply, IsDone, event_cost, paid, act}
use Rattle.widl_runs.specs.Jobs.{Program, Doing}
use Rattle.widl_runs.specs.Rules.{rule}
use Rattle.widl_runs.specs.Traces.{whole, first_world, stop_events, Ending, ending_of, IsTrace}
use Rattle.widl_runs.proofs.LineCosts.{lines_of, adds_lines}

-- the actions, where each line costs one unit
abbrev pub short_act : DefsTerm → Action → World → Did World Reply Stop
short_act list (Write event) w = paid 1 w (record w { lines = w.lines ++ event ∷ [] })
short_act list q w = act list q w

-- the fact holds of each item
abbrev pub Every : {X : Type 0} → (X → Type 0) → List X → Type 0
Every P [] = Unit {0}
Every P (x ∷ xs) = P x × Every P xs

abbrev CostsOne : DefsTerm → EventTerm → Type 0
CostsOne list event = event_cost list event ≡ 1

all_in : (list : DefsTerm) (before : List EventTerm) (event : EventTerm) (more lines : List EventTerm) → lines ≡ (before ++ event ∷ []) ++ more → Every (CostsOne list) lines → CostsOne list event
all_in list [] event more lines e all = (subst (Every (CostsOne list)) e all).0
all_in list (b ∷ before) event more lines e all = all_in list before event more ((before ++ event ∷ []) ++ more) refl (subst (Every (CostsOne list)) e all).1

paid_grows : (b : Bool) (w v : World) → Grown lines_of w v → Holds {A = Reply} {S = Stop} (Grown lines_of) w (if b then Stops stops.Budget else Went (record v { units = w.units - 1 }) IsDone)
paid_grows true w v g = tt
paid_grows false w v g = g

short_grows : (list : DefsTerm) (q : Action) (w : World) → Holds (Grown lines_of) w (short_act list q w)
short_grows list (Write event) w = paid_grows (nat_lt w.units 1) w (record w { lines = w.lines ++ event ∷ [] }) (event ∷ [], refl)
short_grows list Pay w = adds_lines list Pay w
short_grows list (Enter context) w = adds_lines list (Enter context) w
short_grows list Leave w = adds_lines list Leave w
short_grows list (FindBody object) w = adds_lines list (FindBody object) w
short_grows list ReadThis w = adds_lines list ReadThis w
short_grows list (ReadName name) w = adds_lines list (ReadName name) w
short_grows list (BindName name v) w = adds_lines list (BindName name v) w
short_grows list TakeSymbol w = adds_lines list TakeSymbol w
short_grows list (AddObject new) w = adds_lines list (AddObject new) w
short_grows list (FindProperty object key) w = adds_lines list (FindProperty object key) w
short_grows list (PutProperty object key v) w = adds_lines list (PutProperty object key v) w
short_grows list (DefineProperty object key prop) w = adds_lines list (DefineProperty object key prop) w
short_grows list (DeleteProperty object key) w = adds_lines list (DeleteProperty object key) w
short_grows list (FindKeys object) w = adds_lines list (FindKeys object) w
short_grows list (FindOwn object key) w = adds_lines list (FindOwn object key) w
short_grows list (FindInner object) w = adds_lines list (FindInner object) w
short_grows list (ChangePart object change) w = adds_lines list (ChangePart object change) w
short_grows list (Reach end) w = adds_lines list (Reach end) w
short_grows list TestDepth w = adds_lines list TestDepth w

module _ (p : Program) where
  abbrev Short : ℕ → Doing → World → World → Finish JobEnd Stop → Type 0
  Short n d w v f = Runs (rule p) (short_act p.list) n d w v f

  abbrev Real : ℕ → Doing → World → World → Finish JobEnd Stop → Type 0
  Real n d w v f = Runs (rule p) (act p.list) n d w v f

  abbrev written : World → EventTerm → ℕ → World
  written w event cost = record w { units = w.units - cost; lines = w.lines ++ event ∷ [] }

  -- what comes after a line that costs this, where the test says whether too few units are left
  abbrev After : (ℕ → Doing → World → World → Finish JobEnd Stop → Type 0) → ℕ → (Reply → Doing) → (w v : World) → Finish JobEnd Stop → EventTerm → Bool → ℕ → Type 0
  After Go n k w v f event test cost = on_did {W = World} {A = Reply} {S = Stop} (if test then Stops stops.Budget else Went (written w event cost) IsDone) (λ u a. Go n (k a) u v f) (λ s. (v ≡ w) × (f ≡ Halted s))

  write_real : (n : ℕ) (event : EventTerm) (k : Reply → Doing) (w v : World) (f : Finish JobEnd Stop) → Every (CostsOne p.list) v.lines → ((a : Reply) (u : World) → Short n (k a) u v f → Real n (k a) u v f) → (b : Bool) → nat_lt w.units 1 ≡ b → After Short n k w v f event b 1 → After Real n k w v f event (nat_lt w.units (event_cost p.list event)) (event_cost p.list event)
  write_real n event k w v f all go true test x =
      let none = ltb-true w.units 1 test in
      let cost : ℕ = event_cost p.list event in
      let few : nat_lt w.units cost ≡ true = lt-ltb w.units cost (omega (arith, none)) in
      subst (λ (t : Bool). After Real n k w v f event t cost) (sym few) x
  write_real n event k w v f all go false test x =
      let grown = grows (rule p) (short_act p.list) lines_of (short_grows p.list) {d = k IsDone} {w = written w event 1} {v = v} {f = f} (record { steps = n; runs = x }) in
      let one = all_in p.list w.lines event grown.0 v.lines grown.1 all in
      subst (λ (c : ℕ). After Real n k w v f event (nat_lt w.units c) c) (sym one) (subst (λ (t : Bool). After Real n k w v f event t 1) (sym test) (go IsDone (written w event 1) x))

  did_real : (n : ℕ) (did : Did World Reply Stop) (k : Reply → Doing) (w v : World) (f : Finish JobEnd Stop) → ((a : Reply) (u : World) → Short n (k a) u v f → Real n (k a) u v f) → on_did did (λ u a. Short n (k a) u v f) (λ s. (v ≡ w) × (f ≡ Halted s)) → on_did did (λ u a. Real n (k a) u v f) (λ s. (v ≡ w) × (f ≡ Halted s))
  did_real n (Went u a) k w v f go x = go a u x
  did_real n (Stops s) k w v f go x = x

  said_real : (n : ℕ) (q : Action) (k : Reply → Doing) (w v : World) (f : Finish JobEnd Stop) → Every (CostsOne p.list) v.lines → ((a : Reply) (u : World) → Short n (k a) u v f → Real n (k a) u v f) → on_did (short_act p.list q w) (λ u a. Short n (k a) u v f) (λ s. (v ≡ w) × (f ≡ Halted s)) → on_did (act p.list q w) (λ u a. Real n (k a) u v f) (λ s. (v ≡ w) × (f ≡ Halted s))
  said_real n (Write event) k w v f all go x = write_real n event k w v f all go (nat_lt w.units 1) refl x
  said_real n Pay k w v f all go x = did_real n (act p.list Pay w) k w v f go x
  said_real n (Enter context) k w v f all go x = did_real n (act p.list (Enter context) w) k w v f go x
  said_real n Leave k w v f all go x = did_real n (act p.list Leave w) k w v f go x
  said_real n (FindBody object) k w v f all go x = did_real n (act p.list (FindBody object) w) k w v f go x
  said_real n ReadThis k w v f all go x = did_real n (act p.list ReadThis w) k w v f go x
  said_real n (ReadName name) k w v f all go x = did_real n (act p.list (ReadName name) w) k w v f go x
  said_real n (BindName name y) k w v f all go x = did_real n (act p.list (BindName name y) w) k w v f go x
  said_real n TakeSymbol k w v f all go x = did_real n (act p.list TakeSymbol w) k w v f go x
  said_real n (AddObject new) k w v f all go x = did_real n (act p.list (AddObject new) w) k w v f go x
  said_real n (FindProperty object key) k w v f all go x = did_real n (act p.list (FindProperty object key) w) k w v f go x
  said_real n (PutProperty object key y) k w v f all go x = did_real n (act p.list (PutProperty object key y) w) k w v f go x
  said_real n (DefineProperty object key prop) k w v f all go x = did_real n (act p.list (DefineProperty object key prop) w) k w v f go x
  said_real n (DeleteProperty object key) k w v f all go x = did_real n (act p.list (DeleteProperty object key) w) k w v f go x
  said_real n (FindKeys object) k w v f all go x = did_real n (act p.list (FindKeys object) w) k w v f go x
  said_real n (FindOwn object key) k w v f all go x = did_real n (act p.list (FindOwn object key) w) k w v f go x
  said_real n (FindInner object) k w v f all go x = did_real n (act p.list (FindInner object) w) k w v f go x
  said_real n (ChangePart object change) k w v f all go x = did_real n (act p.list (ChangePart object change) w) k w v f go x
  said_real n (Reach end) k w v f all go x = did_real n (act p.list (Reach end) w) k w v f go x
  said_real n TestDepth k w v f all go x = did_real n (act p.list TestDepth w) k w v f go x

  -- a run that is computed so is one, where each line that it writes costs one unit
  pub real_run : (n : ℕ) (d : Doing) (w v : World) (f : Finish JobEnd Stop) → Every (CostsOne p.list) v.lines → Short n d w v f → Real n d w v f
  real_run zero d w v f all x = absurd x
  real_run (suc n) (End r) w v f all x = x
  real_run (suc n) (Say q k) w v f all x = said_real n q k w v f all (λ a u. real_run n (k a) u v f all) x
  real_run (suc n) (Steps j k) w v f all x = real_run n (bind (rule p j) k) w v f all x

-- the texts of the lines are short
abbrev pub IsShort : List ℕ → Type 0
IsShort line = line_cost line ≡ 1

costs_one : (list : DefsTerm) (events stop : List EventTerm) (lines : List (List ℕ)) → lines ≡ map (line_of list) (events ++ stop) → Every IsShort lines → Every (CostsOne list) events
costs_one list [] stop lines e all = tt
costs_one list (event ∷ events) stop lines e all =
    let whole_list : Every IsShort (map (line_of list) ((event ∷ events) ++ stop)) = subst (Every IsShort) e all in
    (whole_list.0, costs_one list events stop (map (line_of list) (events ++ stop)) refl whole_list.1)

-- a trace that is computed with lines of one unit
pub worked : {list : DefsTerm} {script : ScriptTree} {budget : ℕ} {lines : List (List ℕ)} {end : Ending} (v : World) (f : Finish JobEnd Stop) (n : ℕ) → (let p : Program = record { list = list; script = script } in Runs (rule p) (short_act list) n (whole p) (first_world (realm_of list) budget) v f) → lines ≡ map (line_of list) (v.lines ++ stop_events f) → end ≡ ending_of f → Every IsShort lines → IsTrace list script budget lines end
worked {list = list} {script = script} {budget = budget} {lines = lines} v f n runs told ended short =
    let p : Program = record { list = list; script = script } in
    record {
      world = v;
      finish = f;
      runs = record { steps = n; runs = real_run p n (whole p) (first_world (realm_of list) budget) v f (costs_one list v.lines (stop_events f) lines told short) runs };
      written = told;
      ended = ended;
    }

-- decimal digits, one and two of them
pub one_digit : (n : ℕ) → n < 10 → decimal n ≡ (48 + n) ∷ []
one_digit = decimal_digit

pub two_digits : (n : ℕ) → 10 ≤ n → n < 100 → decimal n ≡ (48 + n / 10) ∷ (48 + n % 10) ∷ []
two_digits n low high = decimal_step n low (omega arith) ∙ ap (λ ds. ds ++ (48 + n % 10) ∷ []) (decimal_digit (n / 10) (omega arith))
