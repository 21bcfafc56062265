-- For proofs alone: an integer of at most 53 bits is a Number itself.
use Rattle.std.proofs.Common.{◌≡◌, ℕ, suc, ◌^◌, ◌<◌, ℤ, pos, negsuc, refl, arith}
use Rattle.std.specs.Prelude.{unsigned_abs}
use Rattle.widl_value.specs.declared.number.Number.TheVariants.{Whole}
use Rattle.widl_value.specs.Near.{Near}
use Rattle.widl_value.specs.Rounding.{nearest_of}
use Rattle.widl_value.proofs.NearWords.{nearest_word}

near_itself : (v : ℕ) → v < 2 ^ 53 → Near v v
near_itself v small = record {
  short = record { m = v; e = 0; small = small; is = omega arith };
  least = λ k short. omega arith;
  even = λ k short other same. absurd (other (omega (arith, same)));
}

pub exact_number : (v : ℤ) → unsigned_abs v < 2 ^ 53 → Whole v ≡ nearest_of v
exact_number (pos v) small = nearest_word (pos v) (Whole (pos v)) (omega (arith, small)) ((v, refl, near_itself v small), record { short = (near_itself v small).short; most = omega (arith, small) })
exact_number (negsuc v) small = nearest_word (negsuc v) (Whole (negsuc v)) (omega (arith, small)) ((suc v, refl, near_itself (suc v) small), record { short = (near_itself (suc v) small).short; most = omega (arith, small) })
