-- Runs: what steps do in a world, where an ask is an action on the world, and the action gives the answer.
use Rattle.std.specs.Prelude.{◌≡◌, ℕ, zero, suc}
use Rattle.widl_dialog.specs.Dialog.{Dialog, End, Say, Steps, bind}

-- an action goes to another world and answers, or it stops the run
pub data Did (World Answer Stop : Type 0) : Type 0 where
  Went : World → Answer → Did World Answer Stop
  Stops : Stop → Did World Answer Stop

-- a run ends with a completion, or an action has stopped it
pub data Finish (Completion Stop : Type 0) : Type 0 where
  Ended : Completion → Finish Completion Stop
  Halted : Stop → Finish Completion Stop

-- the one of the world and answer where the action went, the other of what stopped it
abbrev pub on_did : {W A S : Type 0} → Did W A S → (W → A → Type 0) → (S → Type 0) → Type 0
on_did (Went w a) f g = f w a
on_did (Stops s) f g = g s

-- in fewer than n jobs and actions the steps go from the one world to the other and finish so; an action that stops leaves the world as it was
abbrev pub Runs : {J Q A R W S : Type 0} → (J → Dialog J Q A R) → (Q → W → Did W A S) → ℕ → Dialog J Q A R → W → W → Finish R S → Type 0
Runs rule act zero d w v f = ⊥
Runs rule act (suc n) (End r) w v f = (v ≡ w) × (f ≡ Ended r)
Runs rule act (suc n) (Say q k) w v f = on_did (act q w) (λ u a. Runs rule act n (k a) u v f) (λ s. (v ≡ w) × (f ≡ Halted s))
Runs rule act (suc n) (Steps j k) w v f = Runs rule act n (bind (rule j) k) w v f

-- the steps go from the one world to the other and finish so
pub record Does {J Q A R W S : Type 0} (rule : J → Dialog J Q A R) (act : Q → W → Did W A S) (d : Dialog J Q A R) (w v : W) (f : Finish R S) : Type 0 where
  pub steps : ℕ
  pub runs : Runs rule act steps d w v f

-- where the steps go from this world, and how they finish
pub record Outcome {J Q A R W S : Type 0} (rule : J → Dialog J Q A R) (act : Q → W → Did W A S) (d : Dialog J Q A R) (w : W) : Type 0 where
  pub world : W
  pub finish : Finish R S
  pub does : Does rule act d w world finish
