use Rattle.std.proofs.Common.{rules}
use Rattle.widl_engine.specs.Bound.{more_in}
use Rattle.widl_engine.proofs.FewBindings.{added_on, added_last_on}
use Rattle.widl_engine.proofs.bindings.add.Goals as goal

pub returns-then-is_nothing : goal.returns-then-is_nothing
returns-then-is_nothing c = added_last_on c.args.name c.args.value c.args.few.now.items c.push_few.new.few.items (more_in c.args.more.now) c.push_few.result c.requires (c.if-is_nothing.ensures (search rules)) c.push_few.ensures

pub returns : goal.returns
returns c = added_on c.args.name c.args.value c.args.few.now.items (more_in c.args.more.now) (more_in c.set_more.new.more) c.set_more.result c.requires c.set_more.ensures
