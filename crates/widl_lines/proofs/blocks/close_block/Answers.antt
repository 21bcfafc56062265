use Rattle.widl_lines.proofs.Stacking.{popped}
use Rattle.widl_lines.proofs.blocks.close_block.Goals as goal

pub returns : goal.returns
returns c = popped _ _ c.pop.result _ _ c.pop.ensures.items c.pop.ensures.cases c.args.blocks.now.ok.0
