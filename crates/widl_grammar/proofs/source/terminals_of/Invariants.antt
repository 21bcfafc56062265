use Rattle.std.proofs.Common.{◌≡◌, take}
use Rattle.std.specs.Prelude.{map}
use Rattle.widl_grammar.specs.Source.{terminal_of}
use Rattle.widl_grammar.proofs.source.terminals_of.Given as goal

abbrev pub invariant-loop-number : goal.invariant-loop-number
invariant-loop-number l = l.terminals.items ≡ map terminal_of (take l.number l.tokens.lexemes)
