-- The shortest decimal text of a short number.
use Rattle.std.specs.Prelude.{◌≡◌, ◌≢◌, ℕ, zero, suc, ◌+◌, ◌*◌, ◌/◌, ◌%◌, ◌^◌, ◌<◌, ◌≤◌, ◌==◌, Bool, if◌then◌else◌, Option, Some, None}
use Rattle.std.specs.Option.{unwrap_or}
use Rattle.widl_value.specs.Near.{Near, apart}
use Rattle.widl_value.specs.Rounding.{near_of, rounded}

-- w is written with at most n digits and then zeros
pub record Digits (n w : ℕ) : Type 0 where
  pub m : ℕ
  pub e : ℕ
  pub small : m < 10 ^ n
  pub is : w ≡ m * 10 ^ e

-- of the numbers that round to x, w has the fewest digits before its zeros, then lies nearest, then has an even last such digit
pub record Shortest (x w : ℕ) : Type 0 where
  pub n : ℕ
  pub digits : Digits n w
  pub rounds : Near w x
  pub fewest : (k u : ℕ) → Digits k u → Near u x → n ≤ k
  pub closest : (u : ℕ) → Digits n u → Near u x → apart x w ≤ apart x u
  pub even : (u : ℕ) → Digits n u → Near u x → w ≢ u → apart x w ≡ apart x u → digits.m % 2 ≡ 0

-- the same, computed: whether x is the short number nearest to v
abbrev pub rounds_to : ℕ → ℕ → Bool
rounds_to v x = near_of v == x

-- of the two multiples of a step around x, the one that rounds to x; where both do the nearer one, on a tie the even one
abbrev pub multiple_at : ℕ → ℕ → Option ℕ
multiple_at step x =
    let low : ℕ = x / step * step in
    if rounds_to (low + step) x then (if rounds_to low x then Some (rounded step x) else Some (low + step)) else if rounds_to low x then Some low else None

-- the multiple of the greatest power of ten of which one rounds to x, from the power of this exponent down
unfoldable pub shortest_from : ℕ → ℕ → ℕ
shortest_from zero x = x
shortest_from (suc e) x = unwrap_or (multiple_at (10 ^ suc e) x) (shortest_from e x)

-- the shortest digits of a short number above 0 and below 10 to the 20, filled with zeros
unfoldable pub shortest_of : ℕ → ℕ
shortest_of x = shortest_from 19 x
