use Rattle.std.proofs.Common.{[], ◌∷◌, ◌++◌, subst, append_assoc}
use Rattle.widl_sink.specs.Growth.{GrewByPrefix}
use Rattle.widl_sink.proofs.Grows.{sends_then_ok, sends_prefix_err, prefix_longer, on_err}
use Rattle.widl_sink.proofs.writer.Writer.emit.Goals as goal

pub returns-in_err-add-clause-err : goal.returns-in_err-add-clause-err
returns-in_err-add-clause-err g c =
    on_err c.from_residual.result _
    (subst (GrewByPrefix _ _) (append_assoc c.args.self.now c.args.line.now (10 ∷ []))
    (prefix_longer _ _ (c.args.self.now ++ c.args.line.now) (10 ∷ []) (rw c.bytes.ensures at c.in_err-add.ensures.err)))

pub returns-clause-ok : goal.returns-clause-ok
returns-clause-ok g c =
    sends_then_ok c.add-2.result _ _ _ _ c.args.line.now _ (10 ∷ []) _ (rw c.bytes.ensures at c.in_ok-add.ensures.ok) c.add-2.ensures.ok

pub returns-clause-err : goal.returns-clause-err
returns-clause-err g c =
    sends_prefix_err c.add-2.result _ _ _ _ c.args.line.now _ (10 ∷ []) (rw c.bytes.ensures at c.in_ok-add.ensures.ok) c.add-2.ensures.err
