use Rattle.widl_lines.proofs.Stacking.{pushed}
use Rattle.widl_lines.proofs.blocks.open_block.Goals as goal

pub returns : goal.returns
returns c = pushed _ _ _ c.in_ok-push.ensures.items
