use Rattle.std.proofs.Common.{◌∙◌, ap, length, true}
use Rattle.std.specs.Prelude.{option_map}
use Rattle.std.specs.Str.{chars}
use Rattle.std.specs.Prelude.{is_some}
use Rattle.widl_lines.specs.Texts.{between_quotes, units_of, units_of_characters}
use Rattle.widl_lines.proofs.Counting.{is_counted}
use Rattle.widl_lines.proofs.texts.is_well_formed.Goals as goal

pub returns : goal.returns
unfolding units_of
returns c = c.is_some.ensures ∙ ap is_some (c.count_units.ensures ∙ ap (λ t. option_map length (units_of_characters true (chars t))) c.between_quotes.ensures) ∙ is_counted (units_of_characters true (chars (between_quotes c.args.text.now)))
