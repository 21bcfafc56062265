use Rattle.std.proofs.Common.{◌≡◌, slice_range}
use Rattle.widl_grammar.specs.declared.spelling.TheConstants.{QUOTED}
use Rattle.widl_grammar.specs.Words.{quoted_among}
use Rattle.widl_grammar.proofs.lookup.quoted_between.Given as goal

abbrev pub invariant-loop-number : goal.invariant-loop-number
invariant-loop-number l = quoted_among (slice_range QUOTED l.from l.to) l.text ≡ quoted_among (slice_range QUOTED l.number l.to) l.text
