use Rattle.std.proofs.Common.{◌∙◌, ap, map, slice_index, slice_index_or, []}
use Rattle.widl_lex.specs.declared.tables.TheConstants.{QUOTED, QUOTED_AT}
use Rattle.widl_lex.proofs.QuotedTable.{place_within}
use Rattle.widl_lex.proofs.quoted.candidate.Goals as goal

pub word_at-requires : goal.word_at-requires
word_at-requires c = place_within c.slot.result c.slot.ensures.small

pub returns : goal.returns
returns c = c.word_at.ensures ∙ ap (λ s. slice_index_or (map (λ x. x.now) QUOTED) (slice_index QUOTED_AT s) []) c.slot.ensures.slot
