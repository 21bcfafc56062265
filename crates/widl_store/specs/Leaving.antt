-- For proofs alone. What a removal leaves of a list, in whatever order.
use Rattle.std.specs.Prelude.{◌≡◌, Bool, true, List, Contains}
use Rattle.widl_store.specs.Order.{Entry}

-- the entries that pass are left, and no others
pub record Leaves (p : Entry → Bool) (es fs : List Entry) : Type 0 where
  pub sub : (e : Entry) → Contains fs e → Contains es e
  pub pass : (e : Entry) → Contains fs e → p e ≡ true
  pub kept : (e : Entry) → Contains es e → p e ≡ true → Contains fs e
