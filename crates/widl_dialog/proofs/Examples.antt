-- Worked conversations and runs, of small rules: take items one after another, and count them.
use Rattle.std.specs.Prelude.{◌≡◌, ℕ, zero, suc, ◌+◌, List, [], ◌∷◌, true, false, refl}
use Rattle.std.proofs.Common.{arith}
use mathlib.Core.Logic.{inl}
use Rattle.widl_dialog.specs.Dialog.{Dialog, End, Say, Steps}
use Rattle.widl_dialog.specs.Conversation.{Next, Asks, Ends, Comes}
use Rattle.widl_dialog.specs.Runs.{Did, Went, Stops, Ended, Halted, Does, Outcome}
use Rattle.widl_dialog.specs.Calm.{Ranks, Leaves, Calm}
use Rattle.widl_dialog.proofs.Nexts.{one_next}
use Rattle.widl_dialog.proofs.Ending.{ends}

data Job : Type 0 where
  Count : Job
  Turns : ℕ → Job

data Ask : Type 0 where
  Take : Ask

-- an item, or none
data Answer : Type 0 where
  Item : Answer
  Nothing : Answer

abbrev Talk : Type 0
Talk = Dialog Job Ask Answer ℕ

abbrev turn : ℕ → Answer → Talk
turn n Item = Steps (Turns (n + 1)) End
turn n Nothing = End n

abbrev rule : Job → Talk
rule Count = Steps (Turns 0) End
rule (Turns n) = Say Take (turn n)

abbrev Fits : Ask → Answer → Type 0
Fits q a = Unit {0}

abbrev Says : List (Ask × Answer) → Next Ask ℕ → Type 0
Says = Comes rule Fits (rule Count)

-- it asks first
asks_first : Says [] (Asks Take)
asks_first = (3, refl)

-- two items and none: it ends with 2
ends_with_two : Says ((Take, Item) ∷ ((Take, Item) ∷ ((Take, Nothing) ∷ []))) (Ends 2)
ends_with_two = (9, (refl, tt, (refl, tt, (refl, tt, refl))))

-- after an item it doesn't end
goes_on : (n : ℕ) → Says ((Take, Item) ∷ []) (Ends n) → ⊥
goes_on n x =
    let e : ◌≡◌ {A = Next Ask ℕ} (Asks Take) (Ends n) = one_next rule Fits (rule Count) ((Take, Item) ∷ []) (Asks Take) (Ends n) (5, (refl, tt, refl)) x in
    absurd (cc)

-- a world has units and items: each item that is taken costs a unit, and where none is left the run stops
record World : Type 0 where
  pub units : ℕ
  pub items : ℕ

data Stop : Type 0 where
  Spent : Stop

abbrev taken : ℕ → ℕ → Did World Answer Stop
taken zero items = Stops Spent
taken (suc n) zero = Went (record { units = n; items = 0 }) Nothing
taken (suc n) (suc items) = Went (record { units = n; items = items }) Item

abbrev act : Ask → World → Did World Answer Stop
act Take w = taken w.units w.items

-- two items, and units enough
counts_two : Does rule act (rule Count) (record { units = 5; items = 2 }) (record { units = 2; items = 0 }) (Ended 2)
counts_two = record { steps = 9; runs = (refl, refl) }

-- two items, and units for one
stops_at_one : Does rule act (rule Count) (record { units = 1; items = 2 }) (record { units = 0; items = 1 }) (Halted Spent)
stops_at_one = record { steps = 5; runs = (refl, refl) }

-- the whole stands above its turns
abbrev height : Job → ℕ
height Count = 1
height (Turns n) = 0

abbrev ranks : Ranks Job Ask
ranks = record { pays = λ q. true; high = height; low = λ j. 0; spends = λ j. false }

leaves : (q : Ask) (n items : ℕ) (w : World) → w.units ≡ n → Leaves (λ (x : World). x.units) true w (taken n items)
leaves q zero items w e = tt
leaves q (suc n) zero w e = omega (arith, e)
leaves q (suc n) (suc items) w e = omega (arith, e)

calm : (j : Job) → Calm ranks (ranks.high j) (ranks.low j) (rule j)
calm Count = (inl (omega arith), λ r. tt)
calm (Turns n) = tt

-- each run ends
each_ends : (d : Talk) (w : World) → Outcome rule act d w
each_ends = ends rule act (λ w. w.units) ranks (record { leaves = taking; calm = calm; spends = λ j e. absurd (cc) })
  where
    taking : (q : Ask) (w : World) → Leaves (λ (x : World). x.units) true w (act q w)
    taking Take w = leaves Take w.units w.items w refl
