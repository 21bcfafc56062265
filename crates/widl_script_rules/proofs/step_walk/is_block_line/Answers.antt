use Rattle.std.proofs.Common.{◌∙◌, ap}
use Rattle.widl_script_words.specs.StepReading.{is_block_word}
use Rattle.widl_script_rules.proofs.StepWalks.{told_block}
use Rattle.widl_script_rules.proofs.step_walk.is_block_line.Goals as goal

pub returns : goal.returns
returns c = c.is_some.ensures ∙ told_block c.first_word.result c.block_word_of.result c.block_word_of.ensures ∙ ap is_block_word c.first_word.ensures
