use Rattle.std.proofs.Common.{length, ◌≤◌}
use Rattle.widl_front.specs.Texts.{AreShort}
use Rattle.widl_text.specs.Limits.{most_files}
use Rattle.widl_tests.proofs.shared.accepted_sets.accepted.Given as goal

abbrev pub invariant-loop-file : goal.invariant-loop-file
invariant-loop-file g l = record {
  few : length l.texts ≤ most_files;
  short : AreShort l.texts;
}
