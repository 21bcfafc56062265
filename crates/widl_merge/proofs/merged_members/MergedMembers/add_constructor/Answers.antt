use Rattle.std.proofs.lemmas.Result.{on_ok_weaker}
use Rattle.widl_idl.specs.PlainTrees.{constructor_of, plain_definitions}
use Rattle.widl_merge.proofs.Gathering.{constructor_more}
use Rattle.widl_merge.proofs.merged_members.MergedMembers.add_constructor.Goals as goal

pub returns : goal.returns
returns c =
    on_ok_weaker c.push.result
    (λ e attributes members number g.
    constructor_more (plain_definitions c.args.resolver.now) members attributes c.args.self.now number g (constructor_of c.args.constructor.now) c.in_ok-sig.sig c.push.new.self e c.in_ok-sig.ensures)
    c.push.ensures.ok
