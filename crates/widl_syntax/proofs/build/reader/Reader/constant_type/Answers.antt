use Rattle.std.proofs.Common.{refl, None, ◌∙◌}
use Rattle.widl_idl.specs.declared.tree.types.WrittenType.{roll-WrittenType}
use Rattle.widl_grammar.specs.declared.rule.Rule.TheVariants as rule
use Rattle.widl_syntax.proofs.Reading.{and_then, at_part, nothing}
use Rattle.widl_syntax.proofs.TypeForms.{type-WrittenType, levels-WrittenType}
use Rattle.widl_syntax.proofs.TypeLevels.{outer_flat}
use Rattle.widl_syntax.proofs.Types.{of_signs}
use Rattle.widl_syntax.proofs.build.reader.Reader.constant_type.Goals as goal

pub returns : goal.returns
returns c = outer_flat (roll-WrittenType (record { at = c.at-at.result; form = c.in_ok-form.form; question = None })) (levels-WrittenType c.at-at.result c.in_ok-form.form None ∙ c.in_ok-form.ensures.flat)
    (of_signs (type-WrittenType c.at-at.result c.in_ok-form.form _ None refl)
    (at_part rule.ConstType refl c.at-at.ensures (and_then c.in_ok-form.ensures.reads nothing)))
