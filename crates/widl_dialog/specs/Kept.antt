-- What each action keeps: a relation between worlds before and after.
use Rattle.std.specs.Prelude.{◌≡◌, List, ◌++◌}
use Rattle.widl_dialog.specs.Runs.{Did, Went, Stops}

-- the relation holds from the world before an action to the world after it
abbrev pub Holds : {W A S : Type 0} → (W → W → Type 0) → W → Did W A S → Type 0
Holds Kept w (Went v a) = Kept w v
Holds Kept w (Stops s) = Unit {0}

-- it holds from each world to itself, goes on, and holds over each action
pub record Keeps {Q A W S : Type 0} (act : Q → W → Did W A S) (Kept : W → W → Type 0) : Type 0 where
  pub same : (w : W) → Kept w w
  pub goes_on : (u v w : W) → Kept u v → Kept v w → Kept u w
  pub holds : (q : Q) (w : W) → Holds Kept w (act q w)

-- nothing is taken from a list that worlds have, and nothing in it changes
abbrev pub Grown : {W E : Type 0} → (W → List E) → W → W → Type 0
Grown {E = E} lines w v = (more : List E) × (lines v ≡ lines w ++ more)
