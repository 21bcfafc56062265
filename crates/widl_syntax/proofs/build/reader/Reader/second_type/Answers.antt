use Rattle.std.proofs.Common.{refl, [], ◌∷◌}
use Rattle.widl_grammar.specs.declared.rule.Rule.TheVariants as rule
use Rattle.widl_grammar.specs.declared.terminal.Terminal.TheVariants as terminal
use Rattle.widl_syntax.proofs.Reading.{by_row, by_rest, and_then, took, nothing_if, other_than, passed_by, taken_as}
use Rattle.widl_syntax.proofs.build.reader.Reader.second_type.Goals as goal

pub returns-then-is_none : goal.returns-then-is_none
returns-then-is_none c =
    let passed = passed_by terminal.Comma _ _ c.take_if.result c.is_none.result c.is_none.ensures c.if-is_none.true c.take_if.ensures in
    by_rest rule.SecondType (terminal.Comma ∷ []) 1 refl refl (other_than terminal.Comma _ passed.other) (nothing_if passed.same)

pub returns : goal.returns
returns c =
    let found = taken_as terminal.Comma _ _ c.take_if.result c.is_none.result c.is_none.ensures c.if-is_none.false c.take_if.ensures in
    by_row rule.SecondType terminal.Comma found.1.ahead refl refl (and_then (took terminal.Comma found.1.taken) c.in_ok-annotated_type.ensures.reads)
