use Rattle.std.proofs.Common.{sym, ◌∙◌, ap, length}
use Rattle.std.specs.Prelude.{option_map}
use Rattle.std.specs.Str.{chars}
use Rattle.widl_lines.specs.Texts.{units_of_characters}
use Rattle.widl_lines.proofs.Counting.{many_counted, none_counted}
use Rattle.widl_lines.proofs.texts.has_many_units.Goals as goal

pub returns-in-Some : goal.returns-in-Some
returns-in-Some c = many_counted _ c.in-Some.count (ap (λ t. option_map length (units_of_characters c.args.escapes (chars t))) (sym c.between_quotes.ensures) ∙ sym c.count_units.ensures ∙ c.in-Some.is)

pub returns-in-None : goal.returns-in-None
returns-in-None c = none_counted _ (ap (λ t. option_map length (units_of_characters c.args.escapes (chars t))) (sym c.between_quotes.ensures) ∙ sym c.count_units.ensures ∙ c.in-None.is)
