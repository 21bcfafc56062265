use Rattle.std.proofs.Common.{refl, [], ◌∷◌}
use Rattle.widl_grammar.specs.declared.rule.Rule.TheVariants as rule
use Rattle.widl_grammar.specs.declared.terminal.Terminal.TheVariants as terminal
use Rattle.widl_syntax.proofs.Reading.{by_row, by_rest, and_then, took, other_than}
use Rattle.widl_syntax.proofs.Types.{of_signs, from_same, if_passed, if_taken, second_long}
use Rattle.widl_syntax.proofs.build.reader.Reader.integer_kind.Goals as goal

pub returns-then-is_some-clause-reads : goal.returns-then-is_some-clause-reads
returns-then-is_some-clause-reads c =
    let found = if_taken terminal.Short c.take_if.result c.is_some.result c.is_some.ensures c.if-is_some.true c.take_if.ensures in
    of_signs c.short_kind.ensures.rest
    (by_row rule.IntegerWord terminal.Short found.1.ahead refl refl (took terminal.Short found.1.taken))

pub returns-clause-reads : goal.returns-clause-reads
returns-clause-reads c =
    let passed = if_passed terminal.Short c.take_if.result c.is_some.result c.is_some.ensures c.if-is_some.false c.take_if.ensures in
    of_signs c.long_kind.ensures.rest
    (by_rest rule.IntegerWord (terminal.Short ∷ []) 1 refl refl (other_than terminal.Short _ passed.other)
    (from_same passed.same
    (and_then (took terminal.Long c.take-long.ensures)
    (second_long _ _ c.take_if-2.result c.is_some-twice.result c.is_some-twice.ensures c.take_if-2.ensures))))
