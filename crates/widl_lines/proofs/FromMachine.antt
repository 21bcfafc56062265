-- What the machine answers of the terminals of words.
use Rattle.std.proofs.Common.{Some, ◌≡◌, ℕ, zero, suc, ◌<◌, ◌⊎◌, inl, inr, true, false, List, [], ◌∷◌, length, map, get_or, Option, None, refl, sym, ◌∙◌, ap, subst, arith, ltb-true, Bool, cond}
use Rattle.std.specs.Prelude.{nat_lt}
use Rattle.widl_first.specs.Keys.{IsFirst, first_of, precedes}
use Rattle.widl_predictive.specs.Grammar.{IsFault, IsAccepted}
use Rattle.widl_predictive.specs.declared.fault.Fault.{Fault}
use Rattle.widl_predictive.specs.declared.fault.Fault.TheVariants.{Syntax, TooDeep, Memory}
use Rattle.widl_lines.specs.declared.grammar.Terminal.{Terminal}
use Rattle.widl_lines.specs.declared.grammar.Rule.{Rule}
use Rattle.widl_lines.specs.declared.words.Word.{Word}
use Rattle.widl_lines.specs.declared.blocks.Block.{Block}
use Rattle.widl_lines.specs.declared.line_break.LineBreak.{LineBreak}
use Rattle.widl_lines.specs.Grammar.{grammar}
use Rattle.widl_lines.specs.Words.{Lexeme}
use Rattle.widl_lines.specs.WordTerms.{lexeme_of}
use Rattle.widl_lines.specs.Terminals.{is_large}
use Rattle.widl_lines.specs.Blocks.{innermost, start_of}
use Rattle.widl_lines.specs.Breaks.{terminals_of, large_of, NoneLarge, break_key, Breaks, ByWords, ByBlocks, WordBreaks, LineBreaks}
use Rattle.widl_lines.specs.TextBreaks.{column_of}
use Rattle.widl_lines.proofs.LineBreaks.{both, none_first}

same_terminals : (words : List Word) → map (λ word. word.terminal) words ≡ terminals_of (map lexeme_of words)
same_terminals [] = refl
same_terminals (word ∷ words) = ap (λ x. word.terminal ∷ x) (same_terminals words)

pub same_length : (words : List Word) → length (map lexeme_of words) ≡ length words
same_length [] = refl
same_length (word ∷ words) = ap suc (same_length words)

pub syntax_of : (start : Rule) (words : List Word) (tokens terminals : List Terminal) (fault : Fault) (k : ℕ) → fault ≡ Syntax k → tokens ≡ terminals → terminals ≡ map (λ word. word.terminal) words → (fault ≡ Memory) ⊎ IsFault grammar start tokens fault → IsFault grammar start (terminals_of (map lexeme_of words)) (Syntax k)
syntax_of start words tokens terminals fault k e t u (inl m) = cc
syntax_of start words tokens terminals fault k e t u (inr h) = subst (λ x. IsFault grammar start x (Syntax k)) (t ∙ u ∙ same_terminals words) (subst (λ f. IsFault grammar start tokens f) e h)

pub deep_of : (start : Rule) (words : List Word) (tokens terminals : List Terminal) (fault : Fault) (k : ℕ) → fault ≡ TooDeep k → tokens ≡ terminals → terminals ≡ map (λ word. word.terminal) words → (fault ≡ Memory) ⊎ IsFault grammar start tokens fault → IsFault grammar start (terminals_of (map lexeme_of words)) (TooDeep k)
deep_of start words tokens terminals fault k e t u (inl m) = cc
deep_of start words tokens terminals fault k e t u (inr h) = subst (λ x. IsFault grammar start x (TooDeep k)) (t ∙ u ∙ same_terminals words) (subst (λ f. IsFault grammar start tokens f) e h)

pub accepted_of : (start : Rule) (words : List Word) (tokens terminals : List Terminal) → tokens ≡ terminals → terminals ≡ map (λ word. word.terminal) words → IsAccepted grammar start tokens → IsAccepted grammar start (terminals_of (map lexeme_of words))
accepted_of start words tokens terminals t u h = subst (IsAccepted grammar start) (t ∙ u ∙ same_terminals words) h

pub no_break : (start : Rule) (words : List Word) → IsAccepted grammar start (terminals_of (map lexeme_of words)) → NoneLarge (map lexeme_of words) (length words) → IsFirst break_key (ByWords start (map lexeme_of words)) None
no_break start words accepted none = none_first start (map lexeme_of words) (length words) accepted (omega (arith, same_length words)) none

as_first : (start : Rule) (words : List Lexeme) (found : Option LineBreak) → WordBreaks start words found → IsFirst break_key (ByWords start words) found
as_first start words None h = h.0
as_first start words (Some b) h = h

as_line : (blocks : List Block) (words : List Lexeme) (found : Option LineBreak) → IsFirst break_key (Breaks blocks words) found → (found ≡ None → IsAccepted grammar (start_of (innermost blocks)) (terminals_of words)) → LineBreaks blocks words found
as_line blocks words None h accepted = (h, accepted refl)
as_line blocks words (Some b) h accepted = h

-- where neither breaks anything the words are a line
none_of_both : (a b : Option LineBreak) → first_of break_key a b ≡ None → a ≡ None
none_of_both None b e = refl
none_of_both (Some a) None e = cc
none_of_both (Some a) (Some b) e = go (precedes break_key b a) e
  where
    go : (v : Bool) → cond v (Some b) (Some a) ≡ None → Some a ≡ None
    go true e = cc
    go false e = cc

accepted_by : (start : Rule) (words : List Lexeme) (found : Option LineBreak) → WordBreaks start words found → found ≡ None → IsAccepted grammar start (terminals_of words)
accepted_by start words None h e = h.1
accepted_by start words (Some b) h e = cc

pub both_of : (blocks : List Block) (words : List Lexeme) (start : Rule) (inside : Option Block) (a b first : Option LineBreak) → start ≡ start_of inside → inside ≡ innermost blocks → first ≡ first_of break_key a b → WordBreaks start words a → IsFirst break_key (ByBlocks blocks words) b → LineBreaks blocks words first
both_of blocks words start inside a b first e f g h k =
    let here : WordBreaks (start_of (innermost blocks)) words a = subst (λ x. WordBreaks x words a) (e ∙ ap start_of f) h in
    subst (LineBreaks blocks words) (sym g) (as_line blocks words (first_of break_key a b) (both blocks words a b (as_first (start_of (innermost blocks)) words a here) k) (λ n. accepted_by (start_of (innermost blocks)) words a here (none_of_both a b n)))

pub large_at : (words : List Word) (k : ℕ) (d : Word) → k < length words → get_or (large_of (map lexeme_of words)) k false ≡ is_large (get_or words k d).form (get_or words k d).text.now
large_at [] k d lt = absurd (omega arith)
large_at (x ∷ words) zero d lt = refl
large_at (x ∷ words) (suc k) d lt = large_at words k d (omega arith)

column_within : (words : List Word) (k end : ℕ) (word : Word) → k < length words → word ≡ get_or words k word → word.column ≡ column_of (map lexeme_of words) k end
column_within [] k end word lt e = absurd (omega arith)
column_within (x ∷ words) zero end word lt e = ap (λ w. w.column) e
column_within (x ∷ words) (suc k) end word lt e = column_within words k end word (omega arith) e

pub column_at : (words : List Word) (k end : ℕ) (word : Word) → true ≡ nat_lt k (length words) → word ≡ get_or words k word → word.column ≡ column_of (map lexeme_of words) k end
column_at words k end word lt e = column_within words k end word (ltb-true k (length words) (sym lt)) e
