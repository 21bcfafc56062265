use Rattle.widl_store.proofs.FewProperties.{pushed_once}
use Rattle.widl_store.proofs.few.push_few.Goals as goal

pub returns-in-Ok-clause-once : goal.returns-in-Ok-clause-once
returns-in-Ok-clause-once c = pushed_once c.args.key c.args.prop c.args.entries.now.items c.push_last.new.entries.items c.in-Ok.ensures.ok c.requires.absent c.requires.once
