use Rattle.widl_merge.proofs.Growing.{none_listed}
use Rattle.widl_merge.proofs.defs.no_definitions.Goals as goal

pub returns : goal.returns
returns c = λ all. none_listed all _ c.new.ensures c.new-2.ensures c.new-3.ensures c.new-4.ensures c.new-5.ensures c.new-6.ensures
