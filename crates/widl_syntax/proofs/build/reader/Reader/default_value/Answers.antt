use Rattle.std.proofs.Common.{refl, ap, [], ◌∷◌}
use Rattle.widl_grammar.specs.declared.rule.Rule.TheVariants as rule
use Rattle.widl_grammar.specs.declared.terminal.Terminal.TheVariants as terminal
use Rattle.widl_syntax.specs.UnparsedNames.{literal}
use Rattle.widl_syntax.proofs.Reading.{by_row, by_rest, and_then, took, nothing_if, other_than, passed_by, taken_as}
use Rattle.widl_syntax.proofs.Types.{of_signs}
use Rattle.widl_syntax.proofs.build.reader.Reader.default_value.Goals as goal

pub returns-then-is_none : goal.returns-then-is_none
returns-then-is_none c =
    let passed = passed_by terminal.Equals _ _ c.take_if.result c.is_none.result c.is_none.ensures c.if-is_none.true c.take_if.ensures in
    by_rest rule.Default (terminal.Equals ∷ []) 1 refl refl (other_than terminal.Equals _ passed.other) (nothing_if passed.same)

pub returns : goal.returns
returns c =
    let found = taken_as terminal.Equals _ _ c.take_if.result c.is_none.result c.is_none.ensures c.if-is_none.false c.take_if.ensures in
    by_row rule.Default terminal.Equals found.1.ahead refl refl
    (and_then (took terminal.Equals found.1.taken) (of_signs (ap literal c.in_ok-new.ensures.ok) c.in_ok-value.ensures))
