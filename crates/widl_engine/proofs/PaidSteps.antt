-- For proofs alone. What is owed for a charge, and the step that pays it.
use Rattle.std.proofs.Common.{◌≡◌, ℕ, Option, Some, None, ◌+◌, ◌-◌, ◌≤◌, ◌<◌, List, inr, length, sym, subst, refl, arith}
use Rattle.widl_script_tree.specs.Tables.{Tables}
use Rattle.widl_store.specs.Objects.{StoreState}
use Rattle.widl_runs.specs.Jobs.{Program}
use Rattle.widl_engine.specs.declared.charges.Charge.{Charge}
use Rattle.widl_engine.specs.declared.charges.Charge.TheVariants as charge
use Rattle.widl_engine.specs.declared.machine.Machine.{Machine}
use Rattle.widl_engine.specs.declared.machine.Moved.{Moved}
use Rattle.widl_engine.specs.declared.machine.Moved.TheVariants as moved
use Rattle.widl_engine.specs.declared.machine.Stepped.{Stepped}
use Rattle.widl_engine.specs.declared.paying.Owed.{Owed}
use Rattle.widl_engine.specs.Machine.{cost, written, StepsTo}
use Rattle.widl_engine.specs.Output.{Output, Emits, Tears}
use Rattle.widl_engine.specs.Stepping.{bytes_of, Owes, IsOwed, stepped_of, Unpaid, Takes, Torn, Steps}
use Rattle.widl_engine.proofs.Charging.{stops_here}

module _ (p : Program) (s : Tables) (t u : StoreState) (m n : Machine) (before after : Output) where
  takes : (led : Moved) → Emits before after (bytes_of p m.due) → m.taken + cost p m.due ≤ m.budget → StepsTo p s t m u n led → Steps p s t m u n before after (stepped_of led)
  takes moved.Going emitted pays x = record { emitted = emitted; leads = x }
  takes (moved.Ended c) emitted pays x = record { emitted = emitted; leads = x }
  takes (moved.Stopped stop) emitted pays x = record { emitted = emitted; leads = x }
  takes moved.Memory emitted pays x = inr (emitted, pays)

  -- a charge was paid, and its bytes were emitted
  pub steps_paid : (led : Moved) (result : Stepped) (bytes : List ℕ) (units : ℕ) → bytes ≡ bytes_of p m.due → units ≡ cost p m.due → m.taken + units ≤ m.budget → result ≡ stepped_of led → Emits before after bytes → StepsTo p s t m u n led → Steps p s t m u n before after result
  steps_paid led result bytes units same owed pays is emitted x =
      subst (Steps p s t m u n before after) (sym is) (takes led (subst (Emits before after) same emitted) (omega (arith, pays, owed)) x)

  pub steps_torn : (bytes : List ℕ) (units : ℕ) → bytes ≡ bytes_of p m.due → units ≡ cost p m.due → m.taken + units ≤ m.budget → Tears before after bytes → Torn p m before after
  steps_torn bytes units same owed pays tears = record { tears = subst (Tears before after) same tears; pays = omega (arith, pays, owed) }

-- the budget doesn't pay
pub steps_unpaid : (p : Program) (s : Tables) (t : StoreState) (m : Machine) (out : Output) → m.taken ≤ m.budget → m.budget - m.taken < cost p m.due → Unpaid p s t m m out out
steps_unpaid p s t m out paid lacks = record { lacks = omega (arith, paid, lacks); same = refl; taken = refl; here = stops_here p s t m }

-- a charge costs something, and has one line at most
pub cost_positive : (p : Program) (c : Charge) → 0 < cost p c
cost_positive p (charge.Unit u) = omega arith
cost_positive p (charge.Line e then) = omega arith

pub one_line : (c : Charge) → length (written c) ≤ 1
one_line (charge.Unit u) = omega arith
one_line (charge.Line e then) = omega arith

-- the units that are left are fewer after a step that goes on
pub fewer_left : (p : Program) (s : Tables) (t u : StoreState) (m n : Machine) (before after : Output) (budget : ℕ) → m.budget ≡ budget → Takes p s t m u n before after moved.Going → budget - n.taken < budget - m.taken
fewer_left p s t u m n before after budget limit x =
    let charged = x.leads.0 in
    let some = cost_positive p m.due in
    omega (arith, charged.taken, charged.within, limit, some)

-- what is owed, where something is
pub owed_some : (p : Program) (c : Charge) (left : ℕ) (o : Option Owed) (owed : Owed) → o ≡ Some owed → IsOwed p c left o → Owes p c left owed
owed_some p c left o owed is x = subst (IsOwed p c left) is x

pub owed_none : (p : Program) (c : Charge) (left : ℕ) (o : Option Owed) → o ≡ None → IsOwed p c left o → left < cost p c
owed_none p c left o is x = subst (IsOwed p c left) is x
