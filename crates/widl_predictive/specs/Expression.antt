-- Printed grammars, with choices, options and repetitions.
use Rattle.std.specs.Prelude.{◌≡◌, List, [], ◌∷◌, ◌++◌}

infixr 50 ◌∣◌
infixr 60 ◌·◌
-- a token, a rule by its name, one part after another, one part or another, a part or nothing, a part any number of times
pub data Expression (T P : Type 0) : Type 0 where
  token : T → Expression T P
  rule : P → Expression T P
  ◌·◌ ◌∣◌ : Expression T P → Expression T P → Expression T P
  maybe many : Expression T P → Expression T P

-- the expression stands for the tokens, where a rule's name stands for what its own expression stands for
pub data Spells {T P : Type 0} (rules : P → Expression T P) : Expression T P → List T → Type 0 where
  one : {a : T} → Spells rules (token a) (a ∷ [])
  named : {p : P} {w : List T} → Spells rules (rules p) w → Spells rules (rule p) w
  both : {e f : Expression T P} {w : List T} (u v : List T) → Spells rules e u → Spells rules f v → w ≡ u ++ v → Spells rules (e · f) w
  left : {e f : Expression T P} {w : List T} → Spells rules e w → Spells rules (e ∣ f) w
  right : {e f : Expression T P} {w : List T} → Spells rules f w → Spells rules (e ∣ f) w
  absent : {e : Expression T P} → Spells rules (maybe e) []
  present : {e : Expression T P} {w : List T} → Spells rules e w → Spells rules (maybe e) w
  stop : {e : Expression T P} → Spells rules (many e) []
  again : {e : Expression T P} {w : List T} (u v : List T) → Spells rules e u → Spells rules (many e) v → w ≡ u ++ v → Spells rules (many e) w
