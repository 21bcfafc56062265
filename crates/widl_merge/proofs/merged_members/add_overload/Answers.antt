use Rattle.std.proofs.Common.{ap, ◌∙◌}
use Rattle.std.proofs.Math.ListN.{set}
use Rattle.std.proofs.lemmas.List.{set-set}
use Rattle.widl_idl.specs.declared.operation.OpName.{OpName}
use Rattle.widl_merge.proofs.merged_members.add_overload.Goals as goal

pub returns : goal.returns
returns c =
    let pushed : OpName = record { name = c.replace-op.result.name; fixed = c.replace-op.result.fixed; sigs = c.push.new.self } in
    record {
      op = c.replace-op.result;
      at = c.replace-op.ensures.former;
      becomes = c.replace.ensures.list ∙ ap (λ l. set l c.args.number pushed) c.replace-op.ensures.list ∙ set-set c.args.ops.now c.args.number c.nameless.result pushed
          ∙ ap (λ sigs. set c.args.ops.now c.args.number (record { name = c.replace-op.result.name; fixed = c.replace-op.result.fixed; sigs = sigs })) c.in_ok-push.ensures.ok;
    }
