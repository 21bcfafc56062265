use Rattle.std.proofs.Common.{refl, [], ◌∷◌}
use Rattle.widl_grammar.specs.declared.rule.Rule.TheVariants as rule
use Rattle.widl_grammar.specs.declared.terminal.Terminal.TheVariants as terminal
use Rattle.widl_syntax.proofs.Reading.{by_row, by_rest, took, other_than}
use Rattle.widl_syntax.proofs.Types.{of_signs, from_same, if_passed, if_taken}
use Rattle.widl_syntax.proofs.build.reader.Reader.float_kind.Goals as goal

pub returns-then-is_some-clause-reads : goal.returns-then-is_some-clause-reads
returns-then-is_some-clause-reads c =
    let found = if_taken terminal.Float c.take_if.result c.is_some.result c.is_some.ensures c.if-is_some.true c.take_if.ensures in
    of_signs c.single_kind.ensures.rest
    (by_row rule.FloatWord terminal.Float found.1.ahead refl refl (took terminal.Float found.1.taken))

pub returns-clause-reads : goal.returns-clause-reads
returns-clause-reads c =
    let passed = if_passed terminal.Float c.take_if.result c.is_some.result c.is_some.ensures c.if-is_some.false c.take_if.ensures in
    of_signs c.double_kind.ensures.rest
    (by_rest rule.FloatWord (terminal.Float ∷ []) 1 refl refl (other_than terminal.Float _ passed.other)
    (from_same passed.same (took terminal.Double c.take-double.ensures)))
