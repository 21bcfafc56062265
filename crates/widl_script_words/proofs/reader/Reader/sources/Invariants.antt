use Rattle.std.proofs.Common.{◌≤◌, length}
use Rattle.widl_script_words.proofs.BuiltSteps.{Listed}
use Rattle.widl_script_words.proofs.reader.Reader.sources.Given as goal

abbrev pub invariant-more : goal.invariant-more
invariant-more l = Listed l.sources l.fn.self l.self

abbrev pub decreases-more : goal.decreases-more
decreases-more l = length l.self
