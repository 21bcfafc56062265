use Rattle.std.proofs.Common.{sym, subst, arith, drop}
use Rattle.widl_lex.specs.Comments.{NeverCloses}
use Rattle.widl_lex.specs.Cut.{Longest}
use Rattle.widl_lex.proofs.Computed.{all_bytes}
use Rattle.widl_lex.proofs.Unclosed.{one_byte_never}
use Rattle.widl_lex.proofs.cut.still_closes.Goals as goal

pub returns-then-opens_comment-clause-unclosed : goal.returns-then-opens_comment-clause-unclosed
returns-then-opens_comment-clause-unclosed c = λ e.
    subst (λ n. NeverCloses (drop n c.args.text.now)) (sym c.if-len-eq1.true)
    (one_byte_never c.args.text.now c.requires.longest.0 (all_bytes c.args.text.now (λ i. omega (arith, c.type_inv.text i))) (c.opens_comment.ensures.0 c.if-opens_comment.true) (subst (λ n. Longest c.requires.longest.0 n c.args.text.now) c.if-len-eq1.true c.requires.longest.1))
