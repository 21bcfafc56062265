use Rattle.widl_lex.proofs.Characters.{utf8_class_below, utf8_next_below}
use Rattle.widl_lex.proofs.utf8.next_state.Goals as goal

pub bounds-byte-2 : goal.bounds-byte-2
bounds-byte-2 c = utf8_class_below c.args.byte c.ranges.byte.fits

pub returns-clause-small : goal.returns-clause-small
returns-clause-small c = utf8_next_below c.args.state c.args.byte c.requires c.ranges.byte.fits
