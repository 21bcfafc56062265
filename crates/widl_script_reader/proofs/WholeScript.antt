-- For proofs alone. Line after line a whole script is read.
use Rattle.std.proofs.Common.{◌≡◌, ℕ, zero, suc, ◌+◌, ◌<◌, ◌≤◌, ◌-◌, List, [], ◌∷◌, ◌++◌, length, take, drop, get_or, Option, Some, None, refl, sym, ◌∙◌, ap, subst, arith}
use Rattle.std.specs.Prelude.{map, reverse, All}
use Rattle.std.proofs.lemmas.List.Elements.{All-nil}
use Rattle.widl_lines.specs.declared.reading.LineWords.{LineWords}
use Rattle.widl_lines.specs.declared.blocks.Block.{Block}
use Rattle.widl_lines.specs.Blocks.{innermost, blocks_after}
use Rattle.widl_lines.specs.Breaks.{LineBreaks}
use Rattle.widl_lines.specs.LineTerms.{line_of}
use Rattle.widl_lines.specs.WordTerms.{lexeme_of}
use Rattle.widl_lines.specs.TextBreaks.{Line, PlacedLine, placed, IsScript, TextBreak, script_lines}
use Rattle.widl_lines.specs.Words.{Lexeme}
use Rattle.widl_script_tree.specs.declared.row.Row.{Row}
use Rattle.widl_script_tree.specs.Growth.{Grown}
use Rattle.widl_script_tree.specs.Puts.{no_tables, finished}
use Rattle.widl_script_tree.specs.Parts.{IsName}
use Rattle.widl_idl.specs.declared.callee.Owner.{Owner}
use Rattle.widl_script_tree.specs.Tables.{CalleeOverload, Tables, script_tree, function_tree, statements_tree}
use Rattle.widl_script_tree.proofs.Growing.{extends_same}
use Rattle.widl_script_reader.specs.declared.frames.Frame.{Frame}
use Rattle.widl_script_reader.specs.declared.frames.Builder.{Builder}
use Rattle.widl_script_words.specs.Functions.{functions_in}
use Rattle.widl_script_reader.specs.ReadExpressions.{Distinct}
use Rattle.widl_script_words.specs.SpelledStatements.{Lines, Stated, over, IsTreeOf, words_of}
use Rattle.widl_script_reader.specs.StatementPuts.{AllStatements, statements_at}
use Rattle.widl_script_reader.specs.Building.{Sound, IsSoundFrame, LineRead, Stood, StandsAt, AllOutside, kinds_of, stack_of}
use Rattle.widl_script_reader.specs.ReadScript.{ReadTo, EndsAs}
use Rattle.widl_script_reader.proofs.Growing.{grown_then}
use Rattle.widl_script_words.proofs.PlainLines.{Unbroken, unbroken, none_open, lines_unbroken}

-- the placed lines have the words of the lines
pub words_placed : (blocks : List Block) (lines : List Line) → words_of (placed blocks lines) ≡ map (λ line. line.words) lines
words_placed blocks [] = refl
words_placed blocks (line ∷ lines) = ap (λ x. line.words ∷ x) (words_placed (blocks_after line.words blocks) lines)

-- before the first line nothing was read
stood_first : (all : Lines) (u t : Tables) (stack : List Frame) (places names : List ℕ) → t ≡ no_tables → stack ≡ [] → places ≡ [] → names ≡ [] → Stood all u t stack places names all
stood_first all u t stack places names a b c d =
    let base : Stood all u no_tables [] [] [] all = record { nested = over; functions_are = refl; names_are = refl; kept_are = tt } in
    subst (λ (x : Tables). Stood all u x stack places names all) (sym a)
    (subst (λ (x : List Frame). Stood all u no_tables x places names all) (sym b)
    (subst (λ (x : List ℕ). Stood all u no_tables [] x names all) (sym c)
    (subst (λ (x : List ℕ). Stood all u no_tables [] [] x all) (sym d) base)))

no_name_twice : Distinct []
no_name_twice i j lt less e = absurd (omega (arith, lt))

sound_first : (b : Builder) → b.nodes ≡ no_tables → b.frames.items ≡ [] → b.places.items ≡ [] → b.names ≡ [] → Sound b
sound_first b nodes frames places names = record {
  differ = subst (λ (x : Tables). Distinct x.names) (sym nodes) no_name_twice;
  places = subst (λ (x : List ℕ). AllStatements b.nodes x) (sym places) (All-nil _);
  names = subst (λ (x : List ℕ). All (IsName b.nodes) x) (sym names) (All-nil _);
  frames = subst (λ (x : List Frame). All (IsSoundFrame b.nodes) x) (sym frames) (All-nil _);
}

pub read_none : (lines : List PlacedLine) (b : Builder) → IsScript lines → b.nodes ≡ no_tables → b.frames.items ≡ [] → b.places.items ≡ [] → b.names ≡ [] → ReadTo lines b lines
read_none lines b script nodes frames places names =
    let empty : stack_of b ≡ [] = ap (λ (x : List Frame). reverse x) frames in
    record {
      sound = sound_first b nodes frames places names;
      last = 1;
      left = script_lines script.text;
      unbroken = subst (λ (x : List Frame). TextBreak 1 (kinds_of x) (script_lines script.text) None) (sym empty) (lines_unbroken script.unbroken);
      same = ap words_of script.lines_are ∙ words_placed [] (script_lines script.text);
      stands = λ u g. record { standing = stood_first (words_of lines) u b.nodes (stack_of b) b.places.items b.names nodes empty places names; outside = subst AllOutside (sym empty) tt };
    }

-- a line further
further : (lines : List PlacedLine) (b new : Builder) (p : PlacedLine) (rest : List PlacedLine) (left : List Line) (last : ℕ) → TextBreak last (kinds_of (stack_of b)) left None → words_of (p ∷ rest) ≡ map (λ line. line.words) left → ((u : Tables) → Grown b.nodes u → StandsAt (words_of lines) u b (words_of (p ∷ rest))) → Sound new → Grown b.nodes new.nodes → LineRead b new p.line.words → ReadTo lines new rest
further lines b new p rest [] last broken same stands sound grown read = absurd (let bad : p.line.words ∷ words_of rest ≡ [] = same in cc)
further lines b new p rest (line ∷ left) last broken same stands sound grown read =
    let whole : Unbroken last (kinds_of (stack_of b)) line left = unbroken broken in
    let words : p.line.words ≡ line.words = cc in
    let behind : words_of rest ≡ map (λ line. line.words) left = cc in
    let plain : LineBreaks (kinds_of (stack_of b)) p.line.words None = subst (λ (x : List Lexeme). LineBreaks (kinds_of (stack_of b)) x None) (sym words) whole.line_is in
    let kinds : blocks_after line.words (kinds_of (stack_of b)) ≡ kinds_of (stack_of new) = ap (λ (x : List Lexeme). blocks_after x (kinds_of (stack_of b))) (sym words) ∙ sym (read.kinds plain) in
    record {
      sound = sound;
      last = line.number;
      left = left;
      unbroken = subst (λ (x : List Block). TextBreak line.number x left None) kinds whole.lines_are;
      same = behind;
      stands = λ u g. read.stands plain (words_of lines) (words_of rest) u g (stands u (grown_then grown g));
    }

pub read_next : (lines : List PlacedLine) (b new : Builder) (p : PlacedLine) (all rest : List PlacedLine) → all ≡ p ∷ rest → ReadTo lines b all → Sound new → Grown b.nodes new.nodes → LineRead b new p.line.words → ReadTo lines new rest
read_next lines b new p all rest is h sound grown read =
    let here : ReadTo lines b (p ∷ rest) = subst (λ (x : List PlacedLine). ReadTo lines b x) is h in
    further lines b new p rest here.left here.last here.unbroken here.same here.stands sound grown read

no_lines : (left : List Line) → [] ≡ map (λ line. line.words) left → left ≡ []
no_lines [] e = refl
no_lines (line ∷ left) e = absurd (let bad : [] ≡ line.words ∷ map (λ line. line.words) left = e in cc)

no_frames : (stack : List Frame) → kinds_of stack ≡ [] → stack ≡ []
no_frames [] e = refl
no_frames (frame ∷ stack) e = absurd (let bad : kinds_of (frame ∷ stack) ≡ [] = e in cc)

grown_top : (t : Tables) (top : Row) (owners : List (ℕ × Owner)) (targets : List (CalleeOverload × ℕ)) → Grown t (finished t top owners targets)
grown_top t top owners targets = record { expressions = extends_same t.expressions; statements = extends_same t.statements; functions = extends_same t.functions; blocks = extends_same t.blocks; names = extends_same t.names }

pub all_read : (lines : List PlacedLine) (b : Builder) (rest : List PlacedLine) (t : Tables) (top : Row) → rest ≡ [] → ReadTo lines b rest → EndsAs b t top → (owners : List (ℕ × Owner)) (targets : List (CalleeOverload × ℕ)) → IsTreeOf (script_tree (finished t top owners targets)) (words_of lines)
unfolding script_tree
all_read lines b rest t top is h ends owners targets =
    let done : ReadTo lines b [] = subst (λ (x : List PlacedLine). ReadTo lines b x) is h in
    let over : TextBreak done.last (kinds_of (stack_of b)) [] None = subst (λ (x : List Line). TextBreak done.last (kinds_of (stack_of b)) x None) (no_lines done.left done.same) done.unbroken in
    let empty : stack_of b ≡ [] = no_frames (stack_of b) (none_open over) in
    let u : Tables = finished t top owners targets in
    let g : Grown t u = grown_top t top owners targets in
    let stood : Stood (words_of lines) u b.nodes [] b.places.items b.names [] = subst (λ (x : List Frame). Stood (words_of lines) u b.nodes x b.places.items b.names []) empty (done.stands u (grown_then ends.grown g)).standing in
    let row : statements_tree u top ≡ statements_at u b.places.items = ends.trees u g in
    record {
      functions = length b.nodes.functions;
      stated = subst (λ x. Stated x 0 (words_of lines) (length b.nodes.functions) []) (sym row) stood.nested;
      functions_are = ap (map (function_tree u)) ends.functions ∙ stood.functions_are ∙ ap functions_in (sym row);
    }

pub read_first : (placed_lines : List PlacedLine) (lines : List LineWords) (b : Builder) → map line_of lines ≡ placed_lines → IsScript placed_lines → b.nodes ≡ no_tables → b.frames.items ≡ [] → b.places.items ≡ [] → b.names ≡ [] → ReadTo placed_lines b (map line_of lines)
read_first placed_lines lines b same script nodes frames places names = subst (λ (x : List PlacedLine). ReadTo placed_lines b x) (sym same) (read_none placed_lines b script nodes frames places names)

take_all : {X : Type 0} (xs : List X) → take (length xs) xs ≡ xs
take_all [] = refl
take_all (x ∷ xs) = ap (λ ys. x ∷ ys) (take_all xs)

-- the slice without its first line
pub read_after : (placed_lines : List PlacedLine) (b new : Builder) (lines : List LineWords) (line : LineWords) → 1 ≤ length lines → line ≡ get_or lines 0 line → ReadTo placed_lines b (map line_of lines) → Sound new → Grown b.nodes new.nodes → LineRead b new (map lexeme_of line.words.items) → ReadTo placed_lines new (map line_of (take (length lines - 1) (drop 1 lines)))
read_after placed_lines b new [] line some is h sound grown read = absurd (omega (arith, some))
read_after placed_lines b new (first ∷ lines) line some is h sound grown read =
    let size : suc (length lines) - 1 ≡ length lines = omega arith in
    let whole : take (suc (length lines) - 1) lines ≡ lines = ap (λ n. take n lines) size ∙ take_all lines in
    let read_it : LineRead b new (map lexeme_of first.words.items) = subst (λ (x : LineWords). LineRead b new (map lexeme_of x.words.items)) is read in
    subst (λ (x : List LineWords). ReadTo placed_lines new (map line_of x)) (sym whole) (read_next placed_lines b new (line_of first) (map line_of (first ∷ lines)) (map line_of lines) refl h sound grown read_it)

pub no_more : (lines : List LineWords) → length lines < 1 → map line_of lines ≡ []
no_more [] lt = refl
no_more (line ∷ lines) lt = absurd (omega (arith, lt))
