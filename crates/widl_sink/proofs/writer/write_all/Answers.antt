use Rattle.std.proofs.Common.{rules, ◌++◌, take, sym, ap, ◌∙◌}
use Rattle.std.proofs.lemmas.List.{take_rest}
use Rattle.widl_sink.proofs.Grows.{sent_more, grown_more}
use Rattle.widl_sink.proofs.writer.write_all.Goals as goal

pub loop-rest-preserved : goal.loop-rest-preserved
loop-rest-preserved g c =
    let i = c.loop-rest.invariant in
    let rest = c.loop-rest.rest.now in
    let n = c.in_ok-count.count in
    (i.0 ++ take n rest, sent_more _ i.0 rest n i.1 ∙ ap (λ l. (i.0 ++ take n rest) ++ l) (sym (take_rest rest n)), grown_more _ _ _ i.0 (take n rest) i.2 c.in_ok-count.ensures.front, search rules)
