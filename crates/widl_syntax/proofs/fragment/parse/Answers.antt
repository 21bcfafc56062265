use Rattle.widl_syntax.proofs.FileLevels.{file_levels}
use Rattle.widl_syntax.proofs.Whole.{whole_file}
use Rattle.widl_syntax.proofs.fragment.parse.Goals as goal

pub returns-in-Ok-definitions-clause-spelled : goal.returns-in-Ok-definitions-clause-spelled
returns-in-Ok-definitions-clause-spelled c = whole_file c.args.tokens.now c.new.ensures c.in-Ok.ensures.ok c.in-Ok-definitions.ensures

pub returns-in-Ok-definitions-clause-levels : goal.returns-in-Ok-definitions-clause-levels
returns-in-Ok-definitions-clause-levels c = λ ty has. file_levels _ _ _ (whole_file c.args.tokens.now c.new.ensures c.in-Ok.ensures.ok c.in-Ok-definitions.ensures) ty has
