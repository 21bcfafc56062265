use Rattle.std.proofs.Common.{◌∙◌, arith, sym}
use Rattle.widl_lex.proofs.Computed.{all_bytes}
use Rattle.widl_lex.proofs.Scans.{scan_longest}
use Rattle.widl_lex.proofs.Signs.{sign_longest}
use Rattle.widl_lex.proofs.Unclosed.{unclosed_longest}
use Rattle.widl_lex.proofs.Whole.{some_scan}
use Rattle.widl_lex.proofs.cut.longest_piece.Goals as goal

pub returns-then-is_sign : goal.returns-then-is_sign
returns-then-is_sign c = sign_longest c.args.text.now (all_bytes c.args.text.now (λ i. omega (arith, c.type_inv.text i))) (λ i. omega (arith, c.type_inv.text i)) c.requires.some (sym c.is_sign.ensures ∙ c.if-is_sign.true)

pub returns-then-opens_comment : goal.returns-then-opens_comment
returns-then-opens_comment c = unclosed_longest c.args.text.now (all_bytes c.args.text.now (λ i. omega (arith, c.type_inv.text i))) (c.opens_comment.ensures.0 c.if-opens_comment.true) (c.requires.unclosed c.if-not-closes.true)

pub unreachable-requires : goal.unreachable-requires
unreachable-requires c = some_scan c.args.text.now (all_bytes c.args.text.now (λ i. omega (arith, c.type_inv.text i))) c.requires.utf8 c.requires.some c.in-None.ensures

pub returns : goal.returns
returns c = scan_longest c.kind_of.result c.in-Some.scan c.in-Some.len c.args.text.now (all_bytes c.args.text.now (λ i. omega (arith, c.type_inv.text i))) c.in-Some.ensures c.kind_of.ensures.tie c.kind_of.ensures.piece
