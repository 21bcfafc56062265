use Rattle.widl_grammar.proofs.FaultPlaces.{syntax_at, deep_at}
use Rattle.widl_grammar.proofs.source.check_terminals.Goals as goal

pub returns-in-Err-Syntax-clause-fault : goal.returns-in-Err-Syntax-clause-fault
returns-in-Err-Syntax-clause-fault c = syntax_at c.args.tokens.now c.args.terminals.now c.in-Err-Syntax.field-0 c.in-Err-Syntax.number c.place_of.result c.in-Err-Syntax.field-0-is c.requires c.place_of.ensures c.in-Err-Syntax.ensures.fault

pub returns-in-Err-TooDeep-clause-fault : goal.returns-in-Err-TooDeep-clause-fault
returns-in-Err-TooDeep-clause-fault c = deep_at c.args.tokens.now c.args.terminals.now c.in-Err-TooDeep.field-0 c.in-Err-TooDeep.number c.place_of-in-Err-TooDeep.result c.in-Err-TooDeep.field-0-is c.requires c.place_of-in-Err-TooDeep.ensures c.in-Err-TooDeep.ensures.fault
