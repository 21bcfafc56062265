use Rattle.std.proofs.Common.{◌∙◌, sym, arith}
use Rattle.widl_lex.proofs.Computed.{all_bytes, differ}
use Rattle.widl_lex.proofs.Scans.{scan_piece, quoted_may_be}
use Rattle.widl_lex.proofs.cut.kind_of.Goals as goal

pub returns-then-not-may_be_quoted-clause-tie : goal.returns-then-not-may_be_quoted-clause-tie
returns-then-not-may_be_quoted-clause-tie c = λ q. absurd (differ (sym (quoted_may_be c.args.scan c.args.text.now (all_bytes c.args.text.now (λ i. omega (arith, c.type_inv.text i))) c.requires q) ∙ sym c.may_be_quoted.ensures ∙ c.if-not-may_be_quoted.true))

pub returns-else-is_quoted-clause-piece : goal.returns-else-is_quoted-clause-piece
returns-else-is_quoted-clause-piece c = scan_piece c.args.scan c.args.text.now c.requires (λ q. differ (sym (c.is_quoted.ensures.1 q) ∙ c.if-is_quoted.false))
