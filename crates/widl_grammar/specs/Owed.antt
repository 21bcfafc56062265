-- The grammar is predictive: the checker computes the test of its tables.
use Rattle.std.specs.Prelude.{◌≡◌, true, refl, ℕ}
use Rattle.widl_grammar.specs.Rows.{grammar}
use Rattle.widl_grammar.specs.Tables.{table, sets}
use Rattle.widl_predictive.specs.Lookahead.{IsPredictive}
use Rattle.widl_predictive.proofs.Check
use Rattle.widl_predictive.proofs.Check.{test, each, over_looks, over_rules, all_fine, fine, inside, low_rule, all_low, cheap, vanishing}

passed : (v : ℕ) → test table v ≡ true
unfolding test each over_looks over_rules all_fine fine inside low_rule all_low cheap vanishing
passed v = refl

pub owed : IsPredictive grammar sets
owed = Check.predictive table passed
