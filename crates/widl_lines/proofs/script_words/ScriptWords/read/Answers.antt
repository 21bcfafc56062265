use Rattle.widl_lines.proofs.OneBreak.{complete_of, exact_of}
use Rattle.widl_lines.proofs.script_words.ScriptWords.read.Goals as goal

pub returns-clause-complete : goal.returns-clause-complete
returns-clause-complete c = complete_of c.args.bytes.now c.read_words.result c.read_words.ensures.refused

pub returns-clause-exact : goal.returns-clause-exact
returns-clause-exact c = exact_of c.args.bytes.now c.read_words.result c.read_words.ensures.unbroken c.read_words.ensures.refused
