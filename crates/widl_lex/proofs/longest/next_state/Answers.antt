use Rattle.widl_lex.proofs.Table.{next_below}
use Rattle.widl_lex.proofs.longest.next_state.Goals as goal

pub returns-clause-small : goal.returns-clause-small
returns-clause-small c = next_below c.args.state c.args.byte c.requires c.ranges.byte.fits
