use Rattle.std.proofs.Common.{ap, sym, ◌∙◌}
use Rattle.std.proofs.lemmas.Bool.{cond-false, cond-true, false≢true}
use Rattle.std.proofs.lemmas.Slice.Eq.{bytes_eq-Decides}
use Rattle.widl_scalar.proofs.NumeralCuts.{empty, not_empty}
use Rattle.widl_scalar.proofs.ReadWords.{decimal_read, empty_read, infinite_read, prefix_read}
use Rattle.widl_scalar.proofs.TextReads.{decimal_reads, infinite_reads, prefix_reads}
use Rattle.widl_value.specs.declared.number.Number.TheVariants as numbers
use Rattle.widl_scalar.specs.declared.numerals.Read.TheVariants as reads
use Rattle.widl_scalar.proofs.numerals.read_trimmed.Goals as goal

pub returns-in-Some-clause-reads : goal.returns-in-Some-clause-reads
returns-in-Some-clause-reads c = prefix_reads _ _ _ c.in-Some.ensures.some _ c.radix_number.ensures.reads

pub returns-then-negative-clause-reads : goal.returns-then-negative-clause-reads
returns-then-negative-clause-reads c = infinite_reads _ _ _ c.split_sign-negative.ensures c.in_default.ensures.none ((bytes_eq-Decides _ _).0 (sym c.if-eq.ensures)) _ (ap reads.Number (sym (cond-true _ numbers.NegInf numbers.PosInf c.if-negative.true)))

pub returns-else-negative-clause-reads : goal.returns-else-negative-clause-reads
returns-else-negative-clause-reads c = infinite_reads _ _ _ c.split_sign-negative.ensures c.in_default.ensures.none ((bytes_eq-Decides _ _).0 (sym c.if-eq.ensures)) _ (ap reads.Number (sym (cond-false _ numbers.NegInf numbers.PosInf c.if-negative.false)))

pub returns-clause-reads : goal.returns-clause-reads
returns-clause-reads c = decimal_reads _ _ _ c.split_sign-negative.ensures c.in_default.ensures.none (not_empty _ c.if-is_empty.ensures) (λ e. false≢true (c.if-eq.ensures ∙ (bytes_eq-Decides _ _).1 e)) _ c.decimal_number.ensures.reads

pub returns-in-Some-clause-value : goal.returns-in-Some-clause-value
returns-in-Some-clause-value c = prefix_read _ _ _ _ c.in-Some.ensures.some c.radix_number.ensures.reads

pub returns-then-negative-clause-value : goal.returns-then-negative-clause-value
returns-then-negative-clause-value c = infinite_read _ _ _ (not_empty _ c.if-is_empty.ensures) c.split_sign-negative.ensures c.in_default.ensures.none ((bytes_eq-Decides _ _).0 (sym c.if-eq.ensures)) _ (ap reads.Number (sym (cond-true _ numbers.NegInf numbers.PosInf c.if-negative.true)))

pub returns-else-negative-clause-value : goal.returns-else-negative-clause-value
returns-else-negative-clause-value c = infinite_read _ _ _ (not_empty _ c.if-is_empty.ensures) c.split_sign-negative.ensures c.in_default.ensures.none ((bytes_eq-Decides _ _).0 (sym c.if-eq.ensures)) _ (ap reads.Number (sym (cond-false _ numbers.NegInf numbers.PosInf c.if-negative.false)))

pub returns-clause-value : goal.returns-clause-value
returns-clause-value c = decimal_read _ _ _ (not_empty _ c.if-is_empty.ensures) c.split_sign-negative.ensures c.in_default.ensures.none (sym c.if-eq.ensures) _ c.decimal_number.ensures.reads

pub returns-then-is_empty-clause-value : goal.returns-then-is_empty-clause-value
returns-then-is_empty-clause-value c = empty_read _ (empty _ c.if-is_empty.ensures)
