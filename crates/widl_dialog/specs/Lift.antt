-- A conversation in a world: each of its asks becomes a job of the world, and the completion of that job becomes the answer.
use Rattle.std.specs.Prelude.{◌≡◌, List, [], ◌∷◌}
use Rattle.widl_dialog.specs.Dialog.{Dialog, End, Say, Steps}
use Rattle.widl_dialog.specs.Conversation.{Next, Asks, Ends, Comes}
use Rattle.widl_dialog.specs.Runs.{Did, Finish, Ended, Halted, Does}

-- the jobs and asks of conversations among the jobs of a world, and their completions among its completions
pub record Ways (J Q A R I B : Type 0) : Type 0 where
  pub task : J → I
  pub ask : Q → I
  pub ends : R → B
  pub answer : Q → B → A
  pub result : B → R
  pub back : (r : R) → result (ends r) ≡ r

-- the conversation's steps in the world
abbrev pub lift : {J Q A R I P C B : Type 0} → Ways J Q A R I B → Dialog J Q A R → Dialog I P C B
lift ways (End r) = End (ways.ends r)
lift ways (Say q k) = Steps (ways.ask q) (λ b. lift ways (k (ways.answer q b)))
lift ways (Steps j k) = Steps (ways.task j) (λ b. lift ways (k (ways.result b)))

module _ {J Q A R I P C B W S : Type 0} (ways : Ways J Q A R I B) (rule : I → Dialog I P C B) (act : P → W → Did W C S) where
  -- the asks are done one after another, each in the world that the one before it left, and get these answers
  abbrev pub Asked : List (Q × A) → W → W → Type 0
  Asked [] w v = v ≡ w
  Asked (p ∷ said) w v = (u : W) × (b : B) × Does rule act (rule (ways.ask p.0)) w u (Ended b) × (ways.answer p.0 b ≡ p.1) × Asked said u v

  -- a conversation is over, or its next ask stops the run
  abbrev pub Last : Next Q R → W → W → Finish B S → Type 0
  Last (Ends r) w v f = (v ≡ w) × (f ≡ Ended (ways.ends r))
  Last (Asks q) w v f = (s : S) × (f ≡ Halted s) × Does rule act (rule (ways.ask q)) w v f

  -- a conversation by these rules whose asks are done in the world, as far as they go
  pub record IsDone (talk_rule : J → Dialog J Q A R) (Fits : Q → A → Type 0) (d : Dialog J Q A R) (w v : W) (f : Finish B S) : Type 0 where
    pub said : List (Q × A)
    pub next : Next Q R
    pub comes : Comes talk_rule Fits d said next
    pub world : W
    pub asked : Asked said w world
    pub last : Last next world v f
