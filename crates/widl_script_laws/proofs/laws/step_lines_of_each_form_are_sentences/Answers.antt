use Rattle.widl_script_laws.proofs.Lines.{step_sentence}
use Rattle.widl_script_laws.proofs.laws.step_lines_of_each_form_are_sentences.Goals as goal

pub returns : goal.returns
returns c = λ x words form spelled. step_sentence x words form spelled
