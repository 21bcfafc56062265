-- For proofs alone. Lines that the grammar has where they stand.
use Rattle.std.specs.Prelude.{◌≡◌, ℕ, List, Some, slice_get, if◌then◌else◌}
use Rattle.widl_lines.specs.declared.grammar.Rule.{Rule}
use Rattle.widl_lines.specs.declared.grammar.Rule.TheVariants as rule
use Rattle.widl_lines.specs.TextBreaks.{Line}
use Rattle.widl_script_words.specs.Reading.{Runs, part}
use Rattle.widl_script_rules.specs.Standings.{is_in_steps}
use Rattle.widl_script_rules.specs.Surroundings.{around_at}

-- the rule of the grammar for a line in these blocks
abbrev pub rule_in : List Line → Rule
rule_in around = if is_in_steps around then rule.StepLine else rule.Line

abbrev pub IsFormed : List Line → Line → Type 0
IsFormed around line = Runs (part (rule_in around)) line.words

abbrev pub AreFormed : List Line → Type 0
AreFormed lines = (place : ℕ) (line : Line) → slice_get lines place ≡ Some line → IsFormed (around_at lines place) line
