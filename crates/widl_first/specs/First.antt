-- The first of what has a property, in any order: it has the property, and nothing that has it stands before.
-- Source: this program's own.
use Rattle.std.specs.Prelude.{◌≡◌, ◌⊎◌, Bool, true, false, Option, Some, None, if◌then◌else◌}

module _ {X : Type 0} where
  -- it has the property, and nothing that has it stands before
  pub record IsFirst (Before : X → X → Type 0) (P : X → Type 0) (x : X) : Type 0 where
    pub holds : P x
    pub first : (y : X) → P y → Before y x → ⊥

  -- the first that has the property, or none where nothing has it
  abbrev pub FirstWhere : (X → X → Type 0) → (X → Type 0) → Option X → Type 0
  FirstWhere Before P None = (y : X) → P y → ⊥
  FirstWhere Before P (Some x) = IsFirst Before P x

  -- of two that may be absent the latter where the test says that it stands before the former, and else the former
  abbrev pub first_of : (X → X → Bool) → Option X → Option X → Option X
  first_of is_before None q = q
  first_of is_before (Some p) None = Some p
  first_of is_before (Some p) (Some q) = if is_before q p then Some q else Some p

  -- what has R is what has P or Q
  pub record Either (P Q R : X → Type 0) : Type 0 where
    pub left : (x : X) → P x → R x
    pub right : (x : X) → Q x → R x
    pub only : (x : X) → R x → P x ⊎ Q x

  -- the test tells the order
  pub record Tells (Before : X → X → Type 0) (is_before : X → X → Bool) : Type 0 where
    pub told : (p q : X) → is_before p q ≡ true → Before p q
    -- what stands before p stands before each that doesn't
    pub not_told : (p q r : X) → is_before q p ≡ false → Before r p → Before r q
    pub trans : (p q r : X) → Before p q → Before q r → Before p r
