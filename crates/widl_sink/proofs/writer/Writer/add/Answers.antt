use Rattle.std.proofs.Common.{rules, ◌≡◌, List, ◌++◌, ap, sym, ◌∙◌, subst, append_assoc}
use Rattle.widl_sink.specs.Growth.{GrewByPrefix}
use Rattle.widl_sink.proofs.Grows.{sends_kept, sends_out, sends_torn, prefix_longer, on_err}
use Rattle.widl_sink.proofs.writer.Writer.add.Goals as goal

pub loop-rest-preserved-in-Continue-1 : goal.loop-rest-preserved-in-Continue-1
loop-rest-preserved-in-Continue-1 g c =
    let i = c.loop-rest.invariant in
    let m = c.keep-rest.ensures.moved in (
      i.0 ++ m.0,
      i.1 ∙ ap (λ l. i.0 ++ l) m.2 ∙ sym (append_assoc i.0 m.0 c.keep-rest.result.now),
      sends_out _ _ _ _ (i.0 ++ m.0) _ _ (sends_kept _ _ _ i.0 _ m.0 _ i.2 (m.1 ∙ ap (λ l. l ++ m.0) c.self.view_is)) c.in_ok-flush.ensures.ok c.in_ok-flush.ensures.empty,
      search rules,
    )

pub returns-in_err-flush-clause-err : goal.returns-in_err-flush-clause-err
returns-in_err-flush-clause-err g c =
    let i = c.loop-rest.invariant in
    let m = c.keep-rest.ensures.moved in
    let r = c.keep-rest.result.now in
    let w = c.args.self.now in
    let torn = sends_torn _ _ _ w (i.0 ++ m.0) _ (sends_kept _ _ _ i.0 _ m.0 _ i.2 (m.1 ∙ ap (λ l. l ++ m.0) c.self.view_is)) c.in_err-flush.ensures.err in
    let whole : (w ++ (i.0 ++ m.0)) ++ r ≡ w ++ c.args.bytes.now =
    append_assoc w (i.0 ++ m.0) r ∙ ap (λ l. w ++ l) (append_assoc i.0 m.0 r ∙ ap (λ l. i.0 ++ l) (sym m.2) ∙ sym i.1) in
    on_err c.from_residual.result _ (subst (GrewByPrefix _ _) whole (prefix_longer _ _ (w ++ (i.0 ++ m.0)) r torn))
