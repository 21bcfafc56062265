use Rattle.std.proofs.Common.{◌≡◌}
use Rattle.widl_idl.specs.Sameness.{same_terms}
use Rattle.widl_script_rules.proofs.SameTypes.{rest, stripped}
use Rattle.widl_script_rules.proofs.same_types.+same.Given as goal

abbrev pub invariant-all_same-loop-place : goal.invariant-all_same-loop-place
invariant-all_same-loop-place l = rest l.types l.others l.place ≡ same_terms (stripped l.types) (stripped l.others)
