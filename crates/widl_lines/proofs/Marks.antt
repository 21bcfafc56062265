-- The marks of the rows, by a test that the checker computes.
use Rattle.std.proofs.Common.{◌≡◌, true, refl, subst, Bool}
use Rattle.std.specs.Prelude.{Contains}
use Rattle.widl_predictive.proofs.Check.{each, each_at, each_coded}
use Rattle.widl_lines.specs.declared.grammar.Rule.{Rule}
use Rattle.widl_lines.specs.Levels.{Row, is_leveled}
use Rattle.widl_lines.specs.Grammar.{rows_of}
use Rattle.widl_lines.specs.RuleNumbers.{rules, all_rules}

all_leveled : Rule → Bool
unfolding each
all_leveled rule = each (is_leveled rule) (rows_of rule)

all_pass : each all_leveled all_rules ≡ true
unfolding each all_leveled
all_pass = refl

pub each_leveled : (rule : Rule) (row : Row) → Contains (rows_of rule) row → is_leveled rule row ≡ true
unfolding all_leveled
each_leveled rule row has = subst (λ r. is_leveled rule r ≡ true) has.2 (each_at (is_leveled rule) (rows_of rule) (each_coded rules all_leveled all_pass rule) has.0 has.1 row)
