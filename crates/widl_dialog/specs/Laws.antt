-- The laws of conversations and of runs, each a statement about rules. The functions of `laws` have them as contracts, for all rules.
use Rattle.std.specs.Prelude.{◌≡◌, ◌↔◌, ℕ, ◌≤◌, List, ◌∷◌, ◌++◌}
use Rattle.widl_dialog.specs.Dialog.{Dialog, bind}
use Rattle.widl_dialog.specs.Conversation.{Next, Asks, Ends, Comes, Parts}
use Rattle.widl_dialog.specs.Runs.{Did, Finish, Does, Outcome}
use Rattle.widl_dialog.specs.Lift.{Ways, lift, IsDone}

module _ {J Q A R : Type 0} (rule : J → Dialog J Q A R) (Fits : Q → A → Type 0) where
  -- at most one thing comes next
  abbrev pub OneNext : Type 0
  OneNext = (d : Dialog J Q A R) (said : List (Q × A)) (n n' : Next Q R) → Comes rule Fits d said n → Comes rule Fits d said n' → n ≡ n'

  -- a part's whole conversation, with what is said of the rest after it, is said of the whole
  abbrev pub PartsJoin : Type 0
  PartsJoin = (d : Dialog J Q A R) (k : R → Dialog J Q A R) (talk more : List (Q × A)) (r : R) (n : Next Q R) → Comes rule Fits d talk (Ends r) → Comes rule Fits (k r) more n → Comes rule Fits (bind d k) (talk ++ more) n

  -- and a whole conversation of the whole is one of the part with one of the rest after it
  abbrev pub WholesSplit : Type 0
  WholesSplit = (d : Dialog J Q A R) (k : R → Dialog J Q A R) (talk : List (Q × A)) (s : R) → Comes rule Fits (bind d k) talk (Ends s) → Parts rule Fits d k talk s

  -- what a part asks next, the whole asks next
  abbrev pub PartsAsk : Type 0
  PartsAsk = (d : Dialog J Q A R) (k : R → Dialog J Q A R) (said : List (Q × A)) (q : Q) → Comes rule Fits d said (Asks q) → Comes rule Fits (bind d k) said (Asks q)

  -- of this job an ask comes next exactly where some whole conversation goes on with it, whichever answer it gets that fits
  abbrev pub AsksGoOn : J → Type 0
  AsksGoOn j = (said : List (Q × A)) (q : Q) (a : A) → Fits q a → Comes rule Fits (rule j) said (Asks q) ↔ ((more : List (Q × A)) × (r : R) × Comes rule Fits (rule j) (said ++ (q, a) ∷ more) (Ends r))

module _ {J Q A R W S : Type 0} (rule : J → Dialog J Q A R) (act : Q → W → Did W A S) where
  -- from a world steps go to at most one world, and finish there in one way
  abbrev pub OneOutcome : Type 0
  OneOutcome = (d : Dialog J Q A R) (w v v' : W) (f f' : Finish R S) → Does rule act d w v f → Does rule act d w v' f' → (v ≡ v') × (f ≡ f')

  -- each run ends
  abbrev pub EachEnds : Type 0
  EachEnds = (d : Dialog J Q A R) (w : W) → Outcome rule act d w

  -- the relation holds from a run's first world to its last
  abbrev pub RunsKeep : (W → W → Type 0) → Type 0
  RunsKeep Kept = (d : Dialog J Q A R) (w v : W) (f : Finish R S) → Does rule act d w v f → Kept w v

  -- over a job's run the level doesn't rise
  abbrev pub NoneRises : (W → ℕ) → Type 0
  NoneRises level = (j : J) (w v : W) (f : Finish R S) → Does rule act (rule j) w v f → level v ≤ level w

-- what steps do in a world is one of their conversations, its asks done one after another, to its end or to an ask that stops
abbrev pub RunsAreTalks : {J Q A R I P C B W S : Type 0} → (J → Dialog J Q A R) → (Q → A → Type 0) → Ways J Q A R I B → (I → Dialog I P C B) → (P → W → Did W C S) → Type 0
RunsAreTalks {J = J} {Q = Q} {A = A} {R = R} {B = B} {W = W} {S = S} talk_rule Fits ways rule act = (d : Dialog J Q A R) (w v : W) (f : Finish B S) → IsDone ways rule act talk_rule Fits d w v f ↔ Does rule act (lift ways d) w v f
