use Rattle.widl_text.proofs.Decimals.{index_is, padded_none, unpadded_none, unpadded_some}
use Rattle.widl_text.proofs.index.array_index.Goals as goal

pub returns-then-is_unpadded-clause-some : goal.returns-then-is_unpadded-clause-some
returns-then-is_unpadded-clause-some c = unpadded_some _ _ (c.is_unpadded.ensures.some c.if-is_unpadded.true) (c.is_unpadded.ensures.lead c.if-is_unpadded.true) c.digits_number.ensures.some

pub returns-then-is_unpadded-clause-none : goal.returns-then-is_unpadded-clause-none
returns-then-is_unpadded-clause-none c = unpadded_none _ _ c.digits_number.ensures.none

pub returns-then-is_unpadded-clause-value : goal.returns-then-is_unpadded-clause-value
returns-then-is_unpadded-clause-value c = index_is _ _ (returns-then-is_unpadded-clause-some c) (returns-then-is_unpadded-clause-none c)

pub returns-else-is_unpadded-clause-none : goal.returns-else-is_unpadded-clause-none
returns-else-is_unpadded-clause-none c = padded_none _ (c.is_unpadded.ensures.not c.if-is_unpadded.false)

pub returns-else-is_unpadded-clause-value : goal.returns-else-is_unpadded-clause-value
returns-else-is_unpadded-clause-value c = index_is _ _ tt (returns-else-is_unpadded-clause-none c)
