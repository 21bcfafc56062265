use Rattle.std.proofs.lemmas.Result.{on_ok_weaker}
use Rattle.widl_idl.specs.PlainTrees.{constant_of, plain_definitions}
use Rattle.widl_merge.proofs.Gathering.{constant_more}
use Rattle.widl_merge.proofs.merged_members.MergedMembers.add_constant.Goals as goal

pub returns : goal.returns
returns c =
    on_ok_weaker c.push.result
    (λ e attributes members number g.
    constant_more (plain_definitions c.args.resolver.now) members attributes c.args.self.now number g (constant_of c.args.constant.now) c.in_ok-meant.meant c.push_numbered.new.items c.push.new.self c.in_ok-number.number
    c.in_ok-number.ensures.list c.in_ok-meant.ensures c.in_ok-number.ensures.number e)
    c.push.ensures.ok
