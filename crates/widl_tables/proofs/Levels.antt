-- Levels: that of a dictionary is told by that of its parent.
use Rattle.std.proofs.Common.{◌≡◌, ℕ, zero, suc, ◌+◌, ◌-◌, ◌<◌, ◌≤◌, Bool, true, false, nat_lt, if◌then◌else◌, List, [], ◌∷◌, length, Option, None, Some, refl, ap, ◌∙◌, arith, ltb-true, ltb-false}
use Rattle.std.specs.Prelude.{slice_get}
use Rattle.std.proofs.lemmas.Option.{slice_get_past}
use Rattle.std.specs.Option.{option_map_or, option_and_then}
use Rattle.widl_idl.specs.DefinitionTerms.{DictTerm}
use Rattle.widl_tables.specs.declared.level.Level.{Level}
use Rattle.widl_tables.specs.Levels.{declares, has_any, further, level_of, nearest}
use Rattle.widl_tables.specs.MemberOrder.{parent_in}

abbrev here : ℕ → ℕ → Level
here n links = record { dictionary = n; links = links }

-- 1. A walk

-- the next dictionary of the line
pub walked : (dicts : List DictTerm) (count links n : ℕ) → links < count → declares dicts n ≡ false → nearest dicts (count - links) links (Some n) ≡ nearest dicts (count - (links + 1)) (links + 1) (parent_in dicts n)
walked dicts count links n below none =
    let more : count - links ≡ suc (count - (links + 1)) = omega (arith, below) in
    ap (λ (k : ℕ). nearest dicts k links (Some n)) more
    ∙ ap (λ (b : Bool). if b then Some (here n links) else nearest dicts (count - (links + 1)) (links + 1) (parent_in dicts n)) none

-- one that declares a member
pub found : (dicts : List DictTerm) (count links n : ℕ) → links < count → declares dicts n ≡ true → nearest dicts (count - links) links (Some n) ≡ Some (here n links)
found dicts count links n below there =
    let more : count - links ≡ suc (count - (links + 1)) = omega (arith, below) in
    ap (λ (k : ℕ). nearest dicts k links (Some n)) more
    ∙ ap (λ (b : Bool). if b then Some (here n links) else nearest dicts (count - (links + 1)) (links + 1) (parent_in dicts n)) there

-- the end of the line
pub ended : (dicts : List DictTerm) (k links : ℕ) → nearest dicts k links None ≡ None
ended dicts zero links = refl
ended dicts (suc k) links = refl

-- as far as it may go
pub spent : (dicts : List DictTerm) (count links : ℕ) (at : Option ℕ) → count ≤ links → nearest dicts (count - links) links at ≡ None
spent dicts count links at past =
    let none : count - links ≡ 0 = omega (arith, past) in
    ap (λ (k : ℕ). nearest dicts k links at) none

-- 2. One link further

within : (count n links : ℕ) → links + 1 < count → (b : Bool) → nat_lt (links + 1) count ≡ b → Some (here n (links + 1)) ≡ (if b then Some (here n (links + 1)) else None)
within count n links below true e = refl
within count n links below false e = absurd (omega (arith, below, ltb-false (links + 1) count e))

past : (count n links : ℕ) → count ≤ links + 1 → (b : Bool) → nat_lt (links + 1) count ≡ b → None ≡ (if b then Some (here n (links + 1)) else None)
past count n links above true e = absurd (omega (arith, above, ltb-true (links + 1) count e))
past count n links above false e = refl

module _ (dicts : List DictTerm) where
  -- what a walk of one link more finds, from one link further
  one_further : (k links : ℕ) (at : Option ℕ) (count : ℕ) → count ≡ links + k + 1 → nearest dicts k (links + 1) at ≡ further count (nearest dicts (suc k) links at)
  one_further zero links None count e = refl
  one_further (suc k) links None count e = refl
  one_further zero links (Some n) count e = by (declares dicts n)
    where
      by : (b : Bool) → None ≡ further count (if b then Some (here n links) else None)
      by true = past count n links (omega (arith, e)) (nat_lt (links + 1) count) refl
      by false = refl
  one_further (suc k) links (Some n) count e = by (declares dicts n) (one_further k (links + 1) (parent_in dicts n) count (omega (arith, e)))
    where
      by : (b : Bool) → nearest dicts k (links + 1 + 1) (parent_in dicts n) ≡ further count (nearest dicts (suc k) (links + 1) (parent_in dicts n))
          → (if b then Some (here n (links + 1)) else nearest dicts k (links + 1 + 1) (parent_in dicts n)) ≡ further count (if b then Some (here n links) else nearest dicts (suc k) (links + 1) (parent_in dicts n))
      by true above = within count n links (omega (arith, e)) (nat_lt (links + 1) count) refl
      by false above = above

-- a dictionary that declares a member is its own level
pub level_itself : (dicts : List DictTerm) (n : ℕ) → declares dicts n ≡ true → level_of dicts n ≡ Some (here n 0)
level_itself [] n e = absurd (cc)
level_itself (d ∷ dicts) n e = ap (λ (b : Bool). if b then Some (here n 0) else nearest (d ∷ dicts) (length dicts) 1 (parent_in (d ∷ dicts) n)) e

-- that of any other is that of its parent
pub level_above : (dicts : List DictTerm) (n p : ℕ) → declares dicts n ≡ false → parent_in dicts n ≡ Some p → level_of dicts n ≡ further (length dicts) (level_of dicts p)
level_above [] n p none parent = refl
level_above (d ∷ dicts) n p none parent =
    ap (λ (b : Bool). if b then Some (here n 0) else nearest (d ∷ dicts) (length dicts) 1 (parent_in (d ∷ dicts) n)) none
    ∙ ap (nearest (d ∷ dicts) (length dicts) 1) parent
    ∙ one_further (d ∷ dicts) (length dicts) 0 (Some p) (suc (length dicts)) (omega arith)

-- one without a parent that declares none has no level
pub level_nowhere : (dicts : List DictTerm) (n : ℕ) → declares dicts n ≡ false → parent_in dicts n ≡ None → level_of dicts n ≡ None
level_nowhere [] n none parent = refl
level_nowhere (d ∷ dicts) n none parent =
    ap (λ (b : Bool). if b then Some (here n 0) else nearest (d ∷ dicts) (length dicts) 1 (parent_in (d ∷ dicts) n)) none
    ∙ ap (nearest (d ∷ dicts) (length dicts) 1) parent
    ∙ ended (d ∷ dicts) (length dicts) 1

-- nor has one that isn't there
pub level_past : (dicts : List DictTerm) (n : ℕ) → length dicts ≤ n → level_of dicts n ≡ None
level_past dicts n above =
    let none : slice_get dicts n ≡ None = slice_get_past dicts n above in
    level_nowhere dicts n (ap (λ (d : Option DictTerm). option_map_or (λ (x : DictTerm). has_any x.members) d false) none) (ap (λ (d : Option DictTerm). option_and_then (λ (x : DictTerm). x.parent) d) none)
