use Rattle.std.proofs.Common.{◌<◌, ◌⊎◌, inl, inr, length}
use Rattle.widl_scalar.proofs.NumeralCuts.{not_empty}
use Rattle.widl_scalar.proofs.NumeralReads.{unsigned_no_end, unsigned_reads}
use Rattle.widl_scalar.proofs.numerals.decimal_number.Goals as goal
use Rattle.widl_scalar.proofs.numerals.decimal_number.Goals.{else-is_empty-via-then-is_empty+else-is_empty-2, else-is_empty-via-else-is_empty}

pub returns-in-None-clause-reads : goal.returns-in-None-clause-reads
returns-in-None-clause-reads c = unsigned_no_end _ _ _ _ _ c.split_digits.ensures c.split_fraction.ensures _ c.in-None.ensures.none

pub returns-in-Some-clause-reads : goal.returns-in-Some-clause-reads
returns-in-Some-clause-reads c =
    let some : (0 < length c.split_digits.result.0.now) ⊎ (0 < length c.split_fraction.result.0.now) = elim c.else-is_empty.branch [ else-is_empty-via-then-is_empty+else-is_empty-2 w ↦ inr (not_empty _ w.if-is_empty-2.ensures) | else-is_empty-via-else-is_empty w ↦ inl (not_empty _ w.if-is_empty.ensures) ] in
    unsigned_reads _ _ _ _ _ c.split_digits.ensures c.split_fraction.ensures _ _ some (λ up over tail. c.finite.ensures.answers _ up _ (c.exact_value.ensures.scales up over (c.in-Some.ensures.means up over tail))) c.in-Some.ensures.found
