use Rattle.std.proofs.Common.{◌∙◌}
use Rattle.widl_lines.proofs.Stacking.{last_block}
use Rattle.widl_lines.proofs.blocks.innermost.Goals as goal

pub returns : goal.returns
returns c = c.copied.ensures ∙ c.last.ensures.value ∙ last_block c.args.blocks.now
