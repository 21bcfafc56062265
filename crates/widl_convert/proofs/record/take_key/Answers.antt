use Rattle.std.proofs.Common.{subst, ◌<◌}
use Rattle.std.specs.Prelude.{ℕ}
use Rattle.widl_text.specs.declared.key.Key.TheVariants.{Sym}
use Rattle.widl_convert.proofs.RecordEntries.{next_key}
use Rattle.widl_convert.proofs.record.take_key.Goals as goal

pub returns-then-next-len-clause-some : goal.returns-then-next-len-clause-some
returns-then-next-len-clause-some c =
    next_key c.args.properties.now.keys c.replace.new.self c.args.properties.now.next c.replace.result (Sym 0)
    (subst (λ (n : ℕ). c.args.properties.now.next < n) c.len.ensures c.if-next-len.true) c.replace.ensures.former c.replace.ensures.list
