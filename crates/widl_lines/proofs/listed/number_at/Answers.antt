use Rattle.widl_lines.proofs.Listing.{number_below}
use Rattle.widl_lines.proofs.listed.number_at.Goals as goal

pub returns-clause-small : goal.returns-clause-small
returns-clause-small c = number_below c.args.slot c.requires
