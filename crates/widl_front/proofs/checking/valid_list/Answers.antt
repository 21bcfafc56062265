use Rattle.widl_front.proofs.Trees.{list_refused, list_valid}
use Rattle.widl_front.proofs.checking.valid_list.Goals as goal

pub returns-in-Some : goal.returns-in-Some
returns-in-Some c = λ trees same is. list_refused c.args.defs trees _ _ _ c.in-Some.is same is c.in_ok-refusal.ensures

pub returns-in-None : goal.returns-in-None
returns-in-None c = λ trees same is. list_valid c.args.defs trees _ _ c.in-None.is same is c.in_ok-refusal.ensures
