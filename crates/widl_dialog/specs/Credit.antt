-- What an action takes, another one before it has given: so a level rises over a run by no more than the credit at its start.
use Rattle.std.specs.Prelude.{ℕ, ◌+◌, ◌-◌, ◌≤◌}
use Rattle.widl_dialog.specs.Dialog.{Dialog, End, Say, Steps}
use Rattle.widl_dialog.specs.Runs.{Did, Went, Stops}

-- an action raises the level by at most what it takes, less what it gives
abbrev pub MovesLevel : {W A S : Type 0} → (W → ℕ) → ℕ → ℕ → W → Did W A S → Type 0
MovesLevel level gives takes w (Went v a) = level v + gives ≤ level w + takes
MovesLevel level gives takes w (Stops s) = Unit {0}

module _ {J Q A R : Type 0} (gives takes : Q → ℕ) where
  -- with this credit each action of the steps has what it takes; a job gives none
  abbrev pub Owes : ℕ → Dialog J Q A R → Type 0
  Owes n (End r) = Unit {0}
  Owes n (Say q k) = (takes q ≤ n) × ((a : A) → Owes (n - takes q + gives q) (k a))
  Owes n (Steps j k) = (r : R) → Owes n (k r)

-- what rules and actions owe so that over a job's run the level doesn't rise
pub record Balanced {J Q A R W S : Type 0} (rule : J → Dialog J Q A R) (act : Q → W → Did W A S) (level : W → ℕ) (gives takes : Q → ℕ) : Type 0 where
  pub moves : (q : Q) (w : W) → MovesLevel level (gives q) (takes q) w (act q w)
  pub owes : (j : J) → Owes gives takes 0 (rule j)
