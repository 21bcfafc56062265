use Rattle.std.proofs.Common.{None, ◌∙◌, ap}
use Rattle.widl_idl.specs.declared.tree.types.TypeForm.TheVariants as form
use Rattle.widl_idl.specs.PlainTypes.{plain_form}
use Rattle.widl_idl.specs.TypeTrees.{AnyForm}
use Rattle.widl_grammar.specs.declared.terminal.Terminal.TheVariants as terminal
use Rattle.widl_syntax.proofs.Reading.{took_at}
use Rattle.widl_syntax.proofs.TypeForms.{form-Any, type-WrittenType, levels-WrittenType}
use Rattle.widl_syntax.specs.Nesting.{form_levels}
use Rattle.widl_syntax.proofs.Types.{of_signs}
use Rattle.widl_syntax.proofs.build.reader.Reader.any_type.Goals as goal

pub returns-clause-reads : goal.returns-clause-reads
returns-clause-reads c = of_signs (type-WrittenType c.take-at.result form.Any AnyForm None form-Any)
    (took_at terminal.Any c.take-at.ensures)

pub returns-clause-flat : goal.returns-clause-flat
returns-clause-flat c = levels-WrittenType c.take-at.result form.Any None ∙ ap (λ form. form_levels (plain_form form)) form-Any
