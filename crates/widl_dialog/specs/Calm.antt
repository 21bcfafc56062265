-- Why each run ends: a charge takes from what is left, and between two charges jobs only go to lower ones.
use Rattle.std.specs.Prelude.{◌≡◌, ℕ, ◌<◌, ◌≤◌, ◌⊎◌, Bool, true, false}
use Rattle.widl_dialog.specs.Dialog.{Dialog, End, Say, Steps}
use Rattle.widl_dialog.specs.Runs.{Did, Went, Stops}

-- which asks are charges, two ranks of each job, and which jobs take a charge on every way to their end. One rank wouldn't do:
-- no number is above what is left of every list that an answer may bring.
pub record Ranks (Job Ask : Type 0) : Type 0 where
  pub pays : Ask → Bool
  pub high : Job → ℕ
  pub low : Job → ℕ
  pub spends : Job → Bool

-- the fact is owed where the test fails
abbrev pub unless : Bool → Type 0 → Type 0
unless true t = Unit {0}
unless false t = t

-- the first rank decides, and the second where the first is the same
abbrev pub Below : {J : Type 0} → (J → ℕ) → (J → ℕ) → ℕ → ℕ → J → Type 0
Below high low m n j = (high j < m) ⊎ ((high j ≡ m) × (low j < n))

-- what an action may leave: less where it is a charge, and never more
abbrev pub Leaves : {W A S : Type 0} → (W → ℕ) → Bool → W → Did W A S → Type 0
Leaves units true w (Went v a) = units v < units w
Leaves units false w (Went v a) = units v ≤ units w
Leaves units pays w (Stops s) = Unit {0}

module _ {J Q A R : Type 0} (ranks : Ranks J Q) where
  -- until a charge is taken, only jobs below these ranks are gone through
  abbrev pub Calm : ℕ → ℕ → Dialog J Q A R → Type 0
  Calm m n (End r) = Unit {0}
  Calm m n (Say q k) = unless (ranks.pays q) ((a : A) → Calm m n (k a))
  Calm m n (Steps j k) = Below ranks.high ranks.low m n j × unless (ranks.spends j) ((r : R) → Calm m n (k r))

  -- each way to the end takes a charge
  abbrev pub Spends : Dialog J Q A R → Type 0
  Spends (End r) = ⊥
  Spends (Say q k) = unless (ranks.pays q) ((a : A) → Spends (k a))
  Spends (Steps j k) = unless (ranks.spends j) ((r : R) → Spends (k r))

-- what rules and actions owe so that each run ends
pub record Calming {J Q A R W S : Type 0} (rule : J → Dialog J Q A R) (act : Q → W → Did W A S) (units : W → ℕ) (ranks : Ranks J Q) : Type 0 where
  pub leaves : (q : Q) (w : W) → Leaves units (ranks.pays q) w (act q w)
  pub calm : (j : J) → Calm ranks (ranks.high j) (ranks.low j) (rule j)
  pub spends : (j : J) → ranks.spends j ≡ true → Spends ranks (rule j)
