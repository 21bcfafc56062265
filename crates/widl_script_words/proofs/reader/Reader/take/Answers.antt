use Rattle.std.proofs.Common.{sym, ◌∙◌, ap, drop}
use Rattle.widl_script_words.proofs.Parts.{one_further}
use Rattle.widl_script_words.proofs.reader.Reader.take.Goals as goal

pub returns-then-self : goal.returns-then-self
returns-then-self c = one_further c.self.inside.words.now c.self.inside.next ∙ ap (drop 1) c.self.view_is
