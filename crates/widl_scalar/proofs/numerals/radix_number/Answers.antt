use Rattle.widl_scalar.proofs.NumeralCuts.{not_empty}
use Rattle.widl_scalar.proofs.NumeralReads.{radix_reads}
use Rattle.widl_scalar.proofs.numerals.radix_number.Goals as goal

pub returns-in-Some-clause-reads : goal.returns-in-Some-clause-reads
returns-in-Some-clause-reads c = radix_reads _ _ _ c.in-Some.ensures.some.0 (not_empty _ c.if-is_empty.ensures) (c.finite.ensures.answers _ 0 0 (c.whole_value.ensures.scales _ c.in-Some.ensures.some.1))
