use Rattle.widl_lex.proofs.OneCut.{one_cut}
use Rattle.widl_lex.proofs.law.each_text_has_one_cut.Goals as goal

pub returns : goal.returns
returns c = one_cut
