-- What is around lines after each sort of line.
use Rattle.std.proofs.Common.{◌≡◌, ℕ, zero, suc, ◌+◌, ◌<◌, Bool, true, false, List, [], ◌∷◌, ◌++◌, length, take, slice_get, get_or, Option, Some, None, option_map, refl, sym, ◌∙◌, ap, subst, arith, if◌then◌else◌, nat_lt, ltb-true, ltb-false, length-append, ◌⊎◌, inl, inr}
use Rattle.std.proofs.lemmas.List.{get_or_append_left, get_or_push}
use Rattle.std.proofs.lemmas.Option.{same_Some, slice_get-get_or, slice_get-map}
use Rattle.widl_lines.specs.declared.grammar.Terminal.{Terminal}
use Rattle.widl_lines.specs.declared.grammar.Terminal.TheVariants as terminal
use Rattle.widl_lines.specs.declared.reading.LineWords.{LineWords}
use Rattle.widl_lines.specs.Blocks.{first_word}
use Rattle.widl_lines.specs.TextBreaks.{Line}
use Rattle.widl_script_rules.specs.declared.standings.Around.{Around}
use Rattle.widl_script_rules.specs.Standings.{around_after, function_around, is_function_word, opens_function}
use Rattle.widl_script_rules.specs.Surroundings.{around_at, first_words, open_after, plain_line, plain_lines, AreAround, IsAround, IsFunction}

-- one line further
next_open : (around : List Line) (lines : List Line) (place : ℕ) (line : Line) → slice_get lines place ≡ Some line →
    open_after around (take (suc place) lines) ≡ around_after (first_word line.words) line (open_after around (take place lines))
next_open around [] place line h = cc
next_open around (first ∷ lines) zero line h =
    let e : first ≡ line = cc in ap (λ (l : Line). around_after (first_word l.words) l around) e
next_open around (first ∷ lines) (suc place) line h = next_open (around_after (first_word first.words) first around) lines place line h

pub next_around : (lines : List Line) (place : ℕ) (line : Line) → slice_get lines place ≡ Some line →
    around_at lines (suc place) ≡ around_after (first_word line.words) line (around_at lines place)
next_around lines place line h = next_open [] lines place line h

module _ (lines : List Line) where
  -- a function and nothing else is told by what is around
  same_function : (f : Option ℕ) (one other : List Line) → function_around one ≡ function_around other → IsFunction lines f one → IsFunction lines f other
  same_function None one other e h = sym e ∙ h
  same_function (Some place) one other e h = (h.0, h.1, sym e ∙ h.2)

  module _ (limit place : ℕ) (line : Line) (word : Terminal) (low : place < limit) (is : slice_get lines place ≡ Some line) (begins : first_word line.words ≡ word) where
    pub function_opened : word ≡ terminal.Function → IsAround lines limit (record { block = Some place; function = Some place }) (around_after word line (around_at lines place))
    function_opened e =
        let opens : opens_function line ≡ true = ap is_function_word (begins ∙ e) in
        let there : around_after word line (around_at lines place) ≡ (line ∷ around_at lines place) = ap (λ w. around_after w line (around_at lines place)) e in
        let found : function_around (line ∷ around_at lines place) ≡ Some line = ap (λ b. if b then Some line else function_around (around_at lines place)) opens in
        subst (λ around. IsAround lines limit (record { block = Some place; function = Some place }) around) (sym there) (record { block = (low, (line, is, refl)); function = (line, is, found) })

    pub other_opened : (f : Option ℕ) → is_function_word word ≡ false → around_after word line (around_at lines place) ≡ (line ∷ around_at lines place) → IsFunction lines f (around_at lines place) →
        IsAround lines limit (record { block = Some place; function = f }) (around_after word line (around_at lines place))
    other_opened f unlike there now =
        let opens : opens_function line ≡ false = ap is_function_word begins ∙ unlike in
        let found : function_around (line ∷ around_at lines place) ≡ function_around (around_at lines place) = ap (λ b. if b then Some line else function_around (around_at lines place)) opens in
        subst (λ around. IsAround lines limit (record { block = Some place; function = f }) around) (sym there) (record { block = (low, (line, is, refl)); function = same_function f (around_at lines place) (line ∷ around_at lines place) (sym found) now })

-- the words that open blocks and no functions
pub opens_another : (word : Terminal) → (word ≡ terminal.Steps) ⊎ ((word ≡ terminal.Try) ⊎ (word ≡ terminal.If)) →
    (is_function_word word ≡ false) × ((line : Line) (around : List Line) → around_after word line around ≡ (line ∷ around))
opens_another word (inl e) = (ap is_function_word e, λ line around. ap (λ w. around_after w line around) e)
opens_another word (inr (inl e)) = (ap is_function_word e, λ line around. ap (λ w. around_after w line around) e)
opens_another word (inr (inr e)) = (ap is_function_word e, λ line around. ap (λ w. around_after w line around) e)

-- what stands at a place
pub at_place : {X : Type 0} (xs : List X) (k : ℕ) (x : X) → k < length xs → x ≡ get_or xs k x → slice_get xs k ≡ Some x
at_place [] k x low e = absurd (omega (arith, low))
at_place (y ∷ xs) zero x low e = ap Some (sym e)
at_place (y ∷ xs) (suc k) x low e = at_place xs k x (omega (arith, low)) e

-- below the end there is a line
pub some_line : (lines : List Line) (k : ℕ) → k < length lines → (line : Line) × (slice_get lines k ≡ Some line)
some_line [] k low = absurd (omega (arith, low))
some_line (line ∷ lines) zero low = (line, refl)
some_line (line ∷ lines) (suc k) low = some_line lines k (omega (arith, low))

-- the word of a place is that with which its line begins
pub word_at : (lines : List Line) (words : List Terminal) (k : ℕ) (line : Line) (d : Terminal) → words ≡ first_words lines → k < length words → slice_get lines k ≡ Some line → get_or words k d ≡ first_word line.words
word_at lines words k line d all low is =
    same_Some (get_or words k d) (first_word line.words)
    (sym (slice_get-get_or words k d low) ∙ ap (λ ws. slice_get ws k) all ∙ slice_get-map (λ (l : Line). first_word l.words) lines k ∙ ap (option_map (λ (l : Line). first_word l.words)) is)

-- the same of the program's lines
pub word_of : (raw : List LineWords) (words : List Terminal) (k : ℕ) (line : LineWords) (d : Terminal) → words ≡ first_words (plain_lines raw) → length words ≡ length raw → k < length raw → line ≡ get_or raw k line →
    get_or words k d ≡ first_word (plain_line line).words
word_of raw words k line d all count low there =
    word_at (plain_lines raw) words k (plain_line line) d all (omega (arith, low, count)) (slice_get-map plain_line raw k ∙ ap (option_map plain_line) (at_place raw k line low there))

-- one more
pub pushed : (lines : List Line) (all : List Around) (a : Around) (count : ℕ) → length all ≡ count → AreAround lines all → IsAround lines count a (around_at lines count) → AreAround lines (all ++ a ∷ [])
pushed lines all a count e known now place d low = by (nat_lt place count) refl
  where
    last : place ≡ count → IsAround lines place (get_or (all ++ a ∷ []) place d) (around_at lines place)
    last same =
        subst (λ k. IsAround lines k (get_or (all ++ a ∷ []) k d) (around_at lines k)) (sym same)
        (subst (λ x. IsAround lines count x (around_at lines count)) (sym (get_or_push all a d count e)) now)

    by : (c : Bool) → nat_lt place count ≡ c → IsAround lines place (get_or (all ++ a ∷ []) place d) (around_at lines place)
    by true h =
        let lower : place < length all = omega (arith, ltb-true place count h, e) in
        subst (λ x. IsAround lines place x (around_at lines place)) (sym (get_or_append_left all (a ∷ []) d place lower)) (known place d lower)
    by false h = last (omega (arith, ltb-false place count h, low, length-append all (a ∷ []), e))

pub moved : (lines : List Line) (place limit : ℕ) (line : Line) (word : Terminal) (a : Around) → slice_get lines place ≡ Some line → first_word line.words ≡ word → limit ≡ place + 1 →
    IsAround lines limit a (around_after word line (around_at lines place)) → IsAround lines (place + 1) a (around_at lines (place + 1))
moved lines place limit line word a is begins next h =
    let one : suc place ≡ place + 1 = omega arith in
    let e : around_after word line (around_at lines place) ≡ around_at lines (place + 1) = ap (λ w. around_after w line (around_at lines place)) (sym begins) ∙ sym (next_around lines place line is) ∙ ap (around_at lines) one in
    subst (λ k. IsAround lines k a (around_at lines (place + 1))) next (subst (λ around. IsAround lines limit a around) e h)
