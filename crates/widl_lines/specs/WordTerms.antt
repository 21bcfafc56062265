-- For proofs alone. The words of the program as those of the definitions.
use Rattle.widl_lines.specs.declared.words.Word.{Word}
use Rattle.widl_lines.specs.Words.{Lexeme}

abbrev pub lexeme_of : Word → Lexeme
lexeme_of word = record { terminal = word.terminal; form = word.form; column = word.column; text = word.text.now }
