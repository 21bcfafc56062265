use Rattle.std.proofs.Common.{refl, ap, ◌∙◌}
use Rattle.widl_grammar.specs.declared.rule.Rule.TheVariants as rule
use Rattle.widl_grammar.specs.declared.terminal.Terminal.TheVariants as terminal
use Rattle.widl_syntax.proofs.Reading.{by_row, and_then, took}
use Rattle.widl_syntax.specs.UnparsedTypes.{form_signs}
use Rattle.widl_syntax.proofs.TypeForms.{form-Float}
use Rattle.widl_syntax.proofs.Types.{of_signs}
use Rattle.widl_syntax.proofs.build.reader.Reader.unrestricted_form.Goals as goal

pub returns-clause-reads : goal.returns-clause-reads
returns-clause-reads c = of_signs (ap form_signs (form-Float c.float_kind.result) ∙ c.float_kind.ensures.words)
    (by_row rule.Primitive terminal.Unrestricted c.requires refl refl
    (and_then (took terminal.Unrestricted c.take-unrestricted.ensures) c.float_kind.ensures.reads))
