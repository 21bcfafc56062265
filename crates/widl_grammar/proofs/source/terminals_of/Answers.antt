use Rattle.widl_grammar.proofs.FaultPlaces.{more_terminals}
use Rattle.widl_grammar.proofs.source.terminals_of.Goals as goal

pub loop-number-preserved : goal.loop-number-preserved
loop-number-preserved c = more_terminals c.args.tokens.now.lexemes c.loop-number.number _ c.terminal_of.result _ _ c.at.ensures.token c.terminal_of.ensures c.loop-number.invariant c.in_ok-push.ensures.items
