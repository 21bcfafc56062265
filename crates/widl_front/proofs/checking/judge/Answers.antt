use Rattle.widl_front.proofs.Trees.{found_countable, found_files}
use Rattle.widl_front.proofs.checking.judge.Goals as goal

pub judge_trees-requires-clause-files : goal.judge_trees-requires-clause-files
judge_trees-requires-clause-files c = found_files c.args.texts.now _ _ c.requires.few c.requires.short c.in-None.is c.in_ok-finding.ensures.trees

pub judge_trees-requires-clause-countable : goal.judge_trees-requires-clause-countable
judge_trees-requires-clause-countable c = found_countable c.args.texts.now _ _ c.requires.few c.requires.short c.in-None.is c.in_ok-finding.ensures.trees
