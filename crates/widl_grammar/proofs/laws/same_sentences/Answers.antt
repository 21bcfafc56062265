use Rattle.widl_grammar.proofs.SameSentences.{printed_of, sentence_of}
use Rattle.widl_grammar.proofs.laws.same_sentences.Goals as goal

pub returns : goal.returns
returns c = λ w. (printed_of w, sentence_of w)
