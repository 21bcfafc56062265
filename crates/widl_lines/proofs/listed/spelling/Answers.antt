use Rattle.widl_lines.proofs.Listing.{spelling_at}
use Rattle.widl_lines.proofs.listed.spelling.Goals as goal

pub returns : goal.returns
returns c = spelling_at c.spellings.result.now c.args.number _ c.spellings.ensures c.requires
