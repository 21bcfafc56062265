use Rattle.std.proofs.Common.{◌∙◌, arith}
use Rattle.widl_grammar.proofs.FaultPlaces.{place_within, place_past, end_place}
use Rattle.widl_grammar.proofs.source.place_of.Goals as goal

pub returns-then-number-len : goal.returns-then-number-len
returns-then-number-len c = place_within c.args.tokens.now c.args.number _ c.at.ensures.token

pub returns-else-number-len : goal.returns-else-number-len
returns-else-number-len c = end_place c.args.tokens.now c.file.result c.end.result c.file.ensures c.end.ensures ∙ place_past c.args.tokens.now c.args.number (omega (arith, c.if-number-len.false, c.len.ensures))
