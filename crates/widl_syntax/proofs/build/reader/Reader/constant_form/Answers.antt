use Rattle.std.proofs.Common.{refl, sym, ◌∙◌, ap}
use Rattle.widl_grammar.specs.declared.rule.Rule.TheVariants as rule
use Rattle.widl_idl.specs.PlainTypes.{plain_form}
use Rattle.widl_syntax.specs.Nesting.{form_levels}
use Rattle.widl_syntax.specs.UnparsedTypes.{form_signs}
use Rattle.widl_syntax.specs.TypeWords.{is_primitive_word}
use Rattle.widl_syntax.proofs.Reading.{took_identifier}
use Rattle.widl_syntax.proofs.TypeForms.{form-Named}
use Rattle.widl_syntax.proofs.Types.{of_signs, by_test, by_other_test}
use Rattle.widl_syntax.proofs.build.reader.Reader.constant_form.Goals as goal

pub returns-then-is_primitive-clause-reads : goal.returns-then-is_primitive-clause-reads
returns-then-is_primitive-clause-reads c =
    by_test rule.ConstType is_primitive_word 0 refl refl (ap is_primitive_word (sym c.ahead.ensures) ∙ sym c.is_primitive.ensures ∙ c.if-is_primitive.true)
    c.primitive_form.ensures.reads

pub returns-clause-reads : goal.returns-clause-reads
returns-clause-reads c = of_signs (ap form_signs (form-Named c.in_ok-name.field-0))
    (by_other_test rule.ConstType is_primitive_word 1 refl refl (ap is_primitive_word (sym c.ahead.ensures) ∙ sym c.is_primitive.ensures ∙ c.if-is_primitive.false)
    (took_identifier c.in_ok-name.ensures))

pub returns-clause-flat : goal.returns-clause-flat
returns-clause-flat c = ap (λ form. form_levels (plain_form form)) (form-Named c.in_ok-name.field-0)
