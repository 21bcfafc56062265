-- Conversations: lists of asks with their answers, and what comes next after such a list. `rule` gives each job its steps,
-- and `Fits` tells which answers an ask may get.
use Rattle.std.specs.Prelude.{◌≡◌, ℕ, zero, suc, List, [], ◌∷◌, ◌++◌}
use Rattle.widl_dialog.specs.Dialog.{Dialog, End, Say, Steps, bind}

-- what comes after a list of asks and answers: one more ask, or a completion
pub data Next (Q R : Type 0) : Type 0 where
  Asks : Q → Next Q R
  Ends : R → Next Q R

-- the steps ask this, get these answers, and then this comes, all of it in fewer than m jobs and asks
abbrev pub Reads : {J Q A R : Type 0} → (J → Dialog J Q A R) → (Q → A → Type 0) → ℕ → Dialog J Q A R → List (Q × A) → Next Q R → Type 0
Reads rule Fits zero d said n = ⊥
Reads rule Fits (suc m) (End r) [] n = n ≡ Ends r
Reads rule Fits (suc m) (End r) (p ∷ said) n = ⊥
Reads rule Fits (suc m) (Say q k) [] n = n ≡ Asks q
Reads rule Fits (suc m) (Say q k) (p ∷ said) n = (p.0 ≡ q) × Fits q p.1 × Reads rule Fits m (k p.1) said n
Reads rule Fits (suc m) (Steps j k) said n = Reads rule Fits m (bind (rule j) k) said n

-- after these asks and answers this comes next: a conversation is whole where that is its end
abbrev pub Comes : {J Q A R : Type 0} → (J → Dialog J Q A R) → (Q → A → Type 0) → Dialog J Q A R → List (Q × A) → Next Q R → Type 0
Comes rule Fits d said n = (m : ℕ) × Reads rule Fits m d said n

module _ {J Q A R : Type 0} (rule : J → Dialog J Q A R) (Fits : Q → A → Type 0) where
  -- some whole conversation ends
  abbrev pub Finishes : Dialog J Q A R → Type 0
  Finishes d = (talk : List (Q × A)) × (r : R) × Comes rule Fits d talk (Ends r)

  -- after each answer that fits, and after each completion of a job, some conversation ends
  abbrev pub Good : Dialog J Q A R → Type 0
  Good (End r) = Unit {0}
  Good (Say q k) = (a : A) → Fits q a → Finishes (k a) × Good (k a)
  Good (Steps j k) = (r : R) → Finishes (k r) × Good (k r)

  -- the whole conversation of a whole, as one of a part and one of the rest after it
  pub record Parts (d : Dialog J Q A R) (k : R → Dialog J Q A R) (talk : List (Q × A)) (s : R) : Type 0 where
    pub said : List (Q × A)
    pub more : List (Q × A)
    pub middle : R
    pub whole : talk ≡ said ++ more
    pub part : Comes rule Fits d said (Ends middle)
    pub rest : Comes rule Fits (k middle) more (Ends s)
