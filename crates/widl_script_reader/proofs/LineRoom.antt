-- How much room the lines that are still to come may need.
use Rattle.std.proofs.Common.{◌≡◌, ℕ, suc, ◌+◌, ◌-◌, ◌≤◌, List, [], ◌∷◌, length, take, drop, get_or, sym, ◌∙◌, ap, arith}
use Rattle.std.specs.Prelude.{map}
use Rattle.std.proofs.lemmas.List.{take_all}
use Rattle.widl_lines.specs.declared.reading.LineWords.{LineWords}
use Rattle.widl_lines.specs.LineTerms.{line_of}
use Rattle.widl_lines.specs.WordTerms.{lexeme_of}
use Rattle.widl_lines.specs.TextBreaks.{words_and_lines}
use Rattle.widl_script_tree.specs.Puts.{no_tables}
use Rattle.widl_script_reader.specs.declared.frames.Builder.{Builder}
use Rattle.widl_script_reader.specs.Room.{entries, waiting, weight}

-- no line was read yet
pub nothing_weighs : (b : Builder) → b.nodes ≡ no_tables → b.frames.items ≡ [] → b.places.items ≡ [] → weight b ≡ 0
unfolding entries waiting
nothing_weighs b nodes frames places =
    let tables : entries b.nodes ≡ 0 = ap entries nodes in
    let blocks : waiting b.frames.items ≡ 0 = ap waiting frames in
    let none : length b.places.items ≡ 0 = ap (λ (x : List ℕ). length x) places in
    omega (arith, tables, blocks, none)

-- the words of the first line, and those of the slice without it
pub line_further : (lines : List LineWords) (line : LineWords) → 1 ≤ length lines → line ≡ get_or lines 0 line → words_and_lines (map line_of lines) ≡ length (map lexeme_of line.words.items) + 1 + words_and_lines (map line_of (take (length lines - 1) (drop 1 lines)))
line_further [] line some is = absurd (omega (arith, some))
line_further (first ∷ lines) line some is =
    let whole : lines ≡ take (suc (length lines) - 1) lines = sym (take_all (suc (length lines) - 1) lines (omega arith)) in
    ap (λ (x : LineWords). length (map lexeme_of x.words.items) + 1 + words_and_lines (map line_of lines)) (sym is)
    ∙ ap (λ (x : List LineWords). length (map lexeme_of line.words.items) + 1 + words_and_lines (map line_of x)) whole
