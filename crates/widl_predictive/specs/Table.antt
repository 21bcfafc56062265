-- A grammar with its sets, as tables.
use Rattle.std.specs.Prelude.{ℕ, ◌/◌, ◌%◌, ◌^◌, Option, Some, None, List, length, Bool, nat_eq, slice_index_or}
use Rattle.widl_predictive.specs.Coded.{Coded}
use Rattle.widl_predictive.specs.Grammar.{Grammar}
use Rattle.widl_predictive.specs.Lookahead.{Sets}

-- sets are numbers, a bit for each terminal and one for the end; `rank` and `shortest` show that each rule derives something, `cost` bounds the rows that are put before a token is wanted
pub record Table (T R : Type 0) : Type 0 where
  pub grammar : Grammar T R
  pub terminals : Coded T
  pub rules : Coded R
  pub picks : R → List ℕ
  pub first_set : R → ℕ
  pub follow_set : R → ℕ
  pub nullable_of : R → Bool
  pub rank_of : R → ℕ
  pub shortest_of : R → ℕ
  pub cost_of : R → ℕ

abbrev pub has : ℕ → ℕ → Bool
has s k = nat_eq (s / (2 ^ k) % 2) 1

module _ {T R : Type 0} (t : Table T R) where
  abbrev pub look_code : Option T → ℕ
  look_code None = length t.terminals.all
  look_code (Some a) = t.terminals.code a

  abbrev pub picked : R → Option T → ℕ
  picked r l = slice_index_or (t.picks r) (look_code l) 0

  abbrev pub sets_of : Sets T R
  sets_of = record {
    is = λ a l. nat_eq (t.terminals.code a) (look_code l);
    nullable = t.nullable_of;
    first = λ r l. has (t.first_set r) (look_code l);
    follow = λ r l. has (t.follow_set r) (look_code l);
    picked = picked;
    cost = t.cost_of;
  }
