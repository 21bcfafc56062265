use Rattle.std.proofs.Common.{◌≡◌, ◌++◌, ◌+◌, length, map}
use Rattle.widl_lines.specs.declared.shape.Context.TheVariants.{First}
use Rattle.widl_lines.specs.Words.{words_from}
use Rattle.widl_lines.specs.WordTerms.{lexeme_of}
use Rattle.widl_lines.proofs.words.cut_words.Given as goal

abbrev pub invariant-loop-rest : goal.invariant-loop-rest
invariant-loop-rest l = record {
  passed : l.column + length l.rest ≡ length l.line + 1;
  words : map lexeme_of l.words.items ++ words_from l.context l.column 0 l.rest ≡ words_from First 1 0 l.line;
}

abbrev pub decreases-loop-rest : goal.decreases-loop-rest
decreases-loop-rest l = length l.rest
