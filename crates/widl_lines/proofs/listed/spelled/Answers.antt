use Rattle.widl_lines.proofs.Listing.{spelled_at}
use Rattle.widl_lines.proofs.listed.spelled.Goals as goal

pub returns : goal.returns
returns c = spelled_at c.args.number _ c.requires
