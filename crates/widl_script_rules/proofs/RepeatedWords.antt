-- Words that repeat earlier ones, word by word.
use Rattle.std.proofs.Common.{◌≡◌, ℕ, zero, suc, ◌+◌, Bool, true, false, ◌&&◌, ◌||◌, List, [], ◌∷◌, ◌++◌, take, slice_get, filter, Option, Some, None, refl, sym, ◌∙◌, ap, subst, arith, if◌then◌else◌, append_assoc}
use Rattle.std.specs.Prelude.{bytes_eq}
use Rattle.std.proofs.lemmas.List.{append-nil, map-append}
use Rattle.widl_first.specs.Keys.{first_of}
use Rattle.widl_lines.specs.declared.script_place.ScriptPlace.{ScriptPlace}
use Rattle.widl_lines.specs.Words.{Lexeme}
use Rattle.widl_lines.specs.TextBreaks.{Line}
use Rattle.widl_script_rules.specs.LeastBreak.{place_key}
use Rattle.widl_script_rules.specs.Names.{has_name}
use Rattle.widl_script_rules.specs.RepeatedParameters.{repeated_words}
use Rattle.widl_script_rules.specs.Standings.{place_of, places_of}
use Rattle.widl_script_words.specs.Words.{is_name}
use Rattle.widl_script_rules.proofs.BoundWords.{found_if}
use Rattle.widl_script_rules.proofs.FirstPlaces.{Firsts, head_first, joined_firsts, none_first}

abbrev pub named : List Lexeme → List Lexeme
named words = filter (λ (w : Lexeme). is_name w.terminal) words

abbrev pub name_of : Lexeme → List Lexeme
name_of w = if is_name w.terminal then w ∷ [] else []

-- one word more
named_next : (words : List Lexeme) (k : ℕ) (w : Lexeme) → slice_get words k ≡ Some w → named (take (suc k) words) ≡ (named (take k words) ++ name_of w)
named_next [] k w h = cc
named_next (v ∷ words) zero w h = let e : v ≡ w = cc in ap name_of e
named_next (v ∷ words) (suc k) w h = by (is_name v.terminal) (named_next words k w h)
  where
    by : (b : Bool) → named (take (suc k) words) ≡ (named (take k words) ++ name_of w) →
        (if b then v ∷ named (take (suc k) words) else named (take (suc k) words)) ≡ ((if b then v ∷ named (take k words) else named (take k words)) ++ name_of w)
    by true e = ap (λ ws. v ∷ ws) e
    by false e = e

has_both : (a : List Lexeme) (w : Lexeme) (text : List ℕ) → has_name (a ++ name_of w) text ≡ (has_name a text || (is_name w.terminal && bytes_eq text w.text))
has_both [] w text = sym (found_if (is_name w.terminal) w text)
has_both (v ∷ a) w text = by (bytes_eq text v.text) (has_both a w text)
  where
    by : (b : Bool) → has_name (a ++ name_of w) text ≡ (has_name a text || (is_name w.terminal && bytes_eq text w.text)) → (b || has_name (a ++ name_of w) text) ≡ ((b || has_name a text) || (is_name w.terminal && bytes_eq text w.text))
    by true e = refl
    by false e = e

pub has_next : (words : List Lexeme) (k : ℕ) (w : Lexeme) (text : List ℕ) → slice_get words k ≡ Some w →
    has_name (named (take (k + 1) words)) text ≡ (has_name (named (take k words)) text || (is_name w.terminal && bytes_eq text w.text))
has_next words k w text is =
    let one : k + 1 ≡ suc k = omega arith in
    ap (λ n. has_name (named (take n words)) text) one ∙ ap (λ ws. has_name ws text) (named_next words k w is) ∙ has_both (named (take k words)) w text

abbrev repeats : List Lexeme → Lexeme → List Lexeme
repeats before w = if has_name before w.text then w ∷ [] else []

repeated_more : (before words : List Lexeme) (w : Lexeme) → repeated_words before (words ++ w ∷ []) ≡ (repeated_words before words ++ repeats (before ++ words) w)
repeated_more before [] w = append-nil (repeats before w) ∙ ap (λ ws. repeats ws w) (sym (append-nil before))
repeated_more before (v ∷ words) w =
    ap (λ ws. repeats before v ++ ws) (repeated_more (before ++ v ∷ []) words w ∙ ap (λ ws. repeated_words (before ++ v ∷ []) words ++ repeats ws w) (append_assoc before (v ∷ []) words))
    ∙ sym (append_assoc (repeats before v) (repeated_words (before ++ v ∷ []) words) (repeats (before ++ v ∷ words) w))

abbrev pub place_if : Line → List Lexeme → Lexeme → Option ScriptPlace
place_if line before w = if is_name w.terminal && has_name before w.text then Some (place_of 8 line w) else None

-- the first of the words up to a place, and of the word there
pub next_repeated : (line : Line) (words : List Lexeme) (k : ℕ) (w : Lexeme) (p : Option ScriptPlace) → slice_get words k ≡ Some w → Firsts (places_of 8 line (repeated_words [] (named (take k words)))) p →
    Firsts (places_of 8 line (repeated_words [] (named (take (k + 1) words)))) (first_of place_key p (place_if line (named (take k words)) w))
next_repeated line words k w p is h =
    let one : suc k ≡ k + 1 = omega arith in
    subst (λ ws. Firsts (places_of 8 line (repeated_words [] ws)) (first_of place_key p (place_if line (named (take k words)) w))) (sym (named_next words k w is) ∙ ap (λ n. named (take n words)) one)
    (by (is_name w.terminal) (has_name (named (take k words)) w.text) refl)
  where
    none_more : (q : Option ScriptPlace) → Firsts (places_of 8 line (repeated_words [] (named (take k words)))) q → Firsts (places_of 8 line (repeated_words [] (named (take k words) ++ []))) (first_of place_key q None)
    none_more None g = subst (λ ws. Firsts (places_of 8 line (repeated_words [] ws)) None) (sym (append-nil (named (take k words)))) g
    none_more (Some q) g = subst (λ ws. Firsts (places_of 8 line (repeated_words [] ws)) (Some q)) (sym (append-nil (named (take k words)))) g

    one_more : (b : Bool) → has_name (named (take k words)) w.text ≡ b → Firsts (places_of 8 line (repeated_words [] (named (take k words) ++ w ∷ []))) (first_of place_key p (if b then Some (place_of 8 line w) else None))
    one_more b e =
        subst (λ ws. Firsts (places_of 8 line ws) (first_of place_key p (if b then Some (place_of 8 line w) else None))) (sym (repeated_more [] (named (take k words)) w))
        (subst (λ ps. Firsts ps (first_of place_key p (if b then Some (place_of 8 line w) else None))) (sym (map-append (place_of 8 line) (repeated_words [] (named (take k words))) (repeats (named (take k words)) w)))
        (joined_firsts (places_of 8 line (repeated_words [] (named (take k words)))) (places_of 8 line (repeats (named (take k words)) w)) p (if b then Some (place_of 8 line w) else None) h (alone b e)))
      where
        alone : (c : Bool) → has_name (named (take k words)) w.text ≡ c → Firsts (places_of 8 line (repeats (named (take k words)) w)) (if c then Some (place_of 8 line w) else None)
        alone true e = subst (λ d. Firsts (places_of 8 line (if d then w ∷ [] else [])) (Some (place_of 8 line w))) (sym e) (head_first (place_of 8 line) (w ∷ []))
        alone false e = subst (λ d. Firsts (places_of 8 line (if d then w ∷ [] else [])) None) (sym e) none_first

    by : (b c : Bool) → has_name (named (take k words)) w.text ≡ c → Firsts (places_of 8 line (repeated_words [] (named (take k words) ++ (if b then w ∷ [] else [])))) (first_of place_key p (if b && c then Some (place_of 8 line w) else None))
    by true c e = one_more c e
    by false c e = none_more p h

pub named_if : (b : Bool) (words : List Lexeme) → named (if b then words else []) ≡ (if b then named words else [])
named_if true words = refl
named_if false words = refl
