use Rattle.widl_front.proofs.OneVerdict.{one_verdict}
use Rattle.widl_front.proofs.laws.one_verdict.Goals as goal

pub returns : goal.returns
returns c = one_verdict c.each_text_has_one_cut.ensures c.one_fault.ensures c.accepted_has_no_fault.ensures c.one_tree_spelled.ensures
