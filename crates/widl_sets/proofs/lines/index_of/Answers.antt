use Rattle.widl_idl.specs.DefinitionTerms.{defs_term}
use Rattle.widl_overload.specs.sets.Sets.{tuples_in}
use Rattle.widl_sets.proofs.Firsts.{index_is}
use Rattle.widl_sets.proofs.lines.index_of.Goals as goal

pub returns : goal.returns
returns c = index_is (defs_term c.args.defs.now).ifaces (tuples_in c.args.set.now) c.args.len c.distinguishing_index.result c.distinguishing_index.ensures
