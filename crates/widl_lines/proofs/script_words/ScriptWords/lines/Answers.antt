use Rattle.std.proofs.Common.{subst}
use Rattle.widl_lines.specs.TextBreaks.{IsScript}
use Rattle.widl_lines.proofs.FewWords.{few_words}
use Rattle.widl_lines.proofs.script_words.ScriptWords.lines.Goals as goal

pub returns-clause-few : goal.returns-clause-few
returns-clause-few c = few_words _ (subst IsScript c.self.view_is c.self.invariant)
