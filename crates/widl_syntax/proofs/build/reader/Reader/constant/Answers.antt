use Rattle.std.proofs.Common.{refl, ap}
use Rattle.widl_grammar.specs.declared.rule.Rule.TheVariants as rule
use Rattle.widl_grammar.specs.declared.terminal.Terminal.TheVariants as terminal
use Rattle.widl_syntax.specs.UnparsedMembers.{constant}
use Rattle.widl_syntax.proofs.Reading.{by_only, and_then, took, took_at, took_identifier}
use Rattle.widl_syntax.proofs.Types.{of_signs}
use Rattle.widl_syntax.proofs.build.reader.Reader.constant.Goals as goal

pub returns : goal.returns
returns c = of_signs (ap constant c.in_ok-new.ensures.ok) (by_only rule.Const refl
    (and_then (took_at terminal.Const c.take-at.ensures)
    (and_then c.in_ok-ty.ensures
    (and_then (took_identifier c.in-Ok.ensures)
    (and_then (took terminal.Equals c.take-equals.ensures)
    (and_then c.in-Ok-constant_value.ensures
    (took terminal.Semicolon c.take-semicolon.ensures)))))))
