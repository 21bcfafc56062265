use Rattle.std.proofs.Common.{◌≡◌, ℕ, List, length, take, ap, arith, ◌∙◌}
use Rattle.std.proofs.Math.Seq.{take-append_seam}
use Rattle.widl_script_tree.proofs.items.put_statement_items.Goals as goal

pub returns-in-Err-clause-err : goal.returns-in-Err-clause-err
returns-in-Err-clause-err c =
    let size : c.len-first.result ≡ length c.args.nodes.now.items = omega (arith, c.len-first.ensures) in
    c.truncate.ensures.items
    ∙ ap (λ n. take n c.push.new.self.items) size
    ∙ ap (take (length c.args.nodes.now.items)) (c.in-Err.ensures.items ∙ c.row.invariant)
    ∙ take-append_seam c.args.nodes.now.items _
