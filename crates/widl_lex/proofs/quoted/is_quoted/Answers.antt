use Rattle.std.proofs.Common.{◌∙◌, sym, ap, not}
use Rattle.widl_lex.proofs.Computed.{differ}
use lib.Pointwise.{bytes_decides}
use Rattle.widl_lex.proofs.QuotedTable.{is_candidate, quoted_candidate, empty_not}
use Rattle.widl_lex.proofs.quoted.is_quoted.Goals as goal

pub returns-then-not-is_empty : goal.returns-then-not-is_empty
returns-then-not-is_empty c = (
  λ t. is_candidate c.args.text.now (sym c.candidate.ensures ∙ (bytes_decides _ _).0 (sym c.eq.ensures ∙ t)),
  λ q. c.eq.ensures ∙ (bytes_decides _ _).1 (c.candidate.ensures ∙ quoted_candidate c.args.text.now q),
)

pub returns-else-not-is_empty : goal.returns-else-not-is_empty
returns-else-not-is_empty c = (λ t. absurd (differ (sym t ∙ ap not c.if-not-is_empty.false)), λ q. absurd (empty_not c.args.text.now c.is_empty.result c.is_empty.ensures c.if-not-is_empty.false q))
