use Rattle.std.proofs.Common.{length, ◌≤◌}
use Rattle.widl_front.specs.Texts.{AreShort}
use Rattle.widl_text.specs.Limits.{most_files}
use Rattle.widl_bench.proofs.sets.accepted_of.Given as goal

abbrev pub invariant-loop-name : goal.invariant-loop-name
invariant-loop-name l = record {
  few : length l.texts ≤ most_files;
  short : AreShort l.texts;
}
