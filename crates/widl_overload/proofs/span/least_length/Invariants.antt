use Rattle.std.proofs.Common.{◌≡◌, ◌≤◌, ℕ, length, true, map}
use Rattle.widl_idl.specs.DefinitionTerms.{arg_term}
use Rattle.widl_overload.proofs.Shorter.{free_from}
use Rattle.widl_overload.proofs.span.least_length.Given as goal

abbrev pub invariant-loop-least : goal.invariant-loop-least
invariant-loop-least l = record {
  within : l.least ≤ length l.args;
  free : (m : ℕ) → l.least ≤ m → free_from (map arg_term l.args) m ≡ true;
}

abbrev pub decreases-loop-least : goal.decreases-loop-least
decreases-loop-least l = l.least
