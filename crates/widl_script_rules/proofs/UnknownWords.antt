-- The names that a line uses, word by word, and those of them that are unknown.
use Rattle.std.proofs.Common.{◌≡◌, ℕ, zero, suc, ◌+◌, Bool, true, false, not, ◌&&◌, List, [], ◌∷◌, ◌++◌, take, slice_get, Option, Some, None, refl, sym, ◌∙◌, ap, subst, arith, if◌then◌else◌, append_assoc}
use Rattle.std.proofs.lemmas.List.{append-nil, map-append}
use Rattle.std.proofs.lemmas.List.Elements.{filter-append}
use Rattle.widl_first.specs.Keys.{first_of}
use Rattle.widl_idl.specs.DefinitionTerms.{DefsTerm}
use Rattle.widl_lines.specs.declared.script_place.ScriptPlace.{ScriptPlace}
use Rattle.widl_lines.specs.Words.{Lexeme}
use Rattle.widl_lines.specs.TextBreaks.{Line}
use Rattle.widl_script_rules.specs.KnownNames.{place_unless, unknown_words}
use Rattle.widl_script_rules.specs.LeastBreak.{place_key}
use Rattle.widl_script_rules.specs.Names.{is_dot, is_known, names_in}
use Rattle.widl_script_rules.specs.Standings.{function_around, place_of, places_of, standings}
use Rattle.widl_script_words.specs.Words.{is_name}
use Rattle.widl_script_rules.proofs.FirstPlaces.{Firsts, head_first, joined_firsts, none_first}

-- whether the word behind these is passed over
abbrev pub passed_after : Bool → List Lexeme → Bool
passed_after passed [] = passed
passed_after passed (w ∷ words) = passed_after (is_dot w.terminal) words

pub passed_next : (passed : Bool) (words : List Lexeme) (k : ℕ) (w : Lexeme) → slice_get words k ≡ Some w → passed_after passed (take (k + 1) words) ≡ is_dot w.terminal
passed_next passed words k w is = let one : k + 1 ≡ suc k = omega arith in ap (λ n. passed_after passed (take n words)) one ∙ go passed words k is
  where
    go : (passed : Bool) (words : List Lexeme) (k : ℕ) → slice_get words k ≡ Some w → passed_after passed (take (suc k) words) ≡ is_dot w.terminal
    go passed [] k h = cc
    go passed (v ∷ words) zero h = let e : v ≡ w = cc in ap (λ (u : Lexeme). is_dot u.terminal) e
    go passed (v ∷ words) (suc k) h = go (is_dot v.terminal) words k h

abbrev name_if : Bool → Lexeme → List Lexeme
name_if asked w = if asked then w ∷ [] else []

no_names : (passed : Bool) → names_in passed [] ≡ []
no_names true = refl
no_names false = refl

names_more : (passed : Bool) (words : List Lexeme) (k : ℕ) (w : Lexeme) → slice_get words k ≡ Some w →
    names_in passed (take (suc k) words) ≡ (names_in passed (take k words) ++ name_if (not (passed_after passed (take k words)) && is_name w.terminal) w)
names_more passed [] k w h = cc
names_more true (v ∷ words) zero w h = no_names (is_dot v.terminal) ∙ sym (ap (λ ws. ws ++ []) (no_names true))
names_more false (v ∷ words) zero w h =
    let e : v ≡ w = cc in
    ap (λ ws. name_if (is_name v.terminal) v ++ ws) (no_names (is_dot v.terminal)) ∙ append-nil (name_if (is_name v.terminal) v) ∙ ap (λ (u : Lexeme). name_if (is_name u.terminal) u) e
names_more true (v ∷ words) (suc k) w h = names_more (is_dot v.terminal) words k w h
names_more false (v ∷ words) (suc k) w h =
    ap (λ ws. name_if (is_name v.terminal) v ++ ws) (names_more (is_dot v.terminal) words k w h)
    ∙ sym (append_assoc (name_if (is_name v.terminal) v) (names_in (is_dot v.terminal) (take k words)) (name_if (not (passed_after (is_dot v.terminal) (take k words)) && is_name w.terminal) w))

module _ (list : DefsTerm) (lines around : List Line) (line : Line) where
  abbrev unknown : List Lexeme → List Lexeme
  unknown words = unknown_words list lines around words

  abbrev known : Lexeme → Bool
  known w = is_known list (standings lines) (function_around around) w.text

  one_place : (asked : Bool) (w : Lexeme) → Firsts (places_of 5 line (unknown (name_if asked w))) (place_unless line asked (known w) w)
  one_place false w = none_first
  one_place true w = by (known w) refl
    where
      by : (b : Bool) → known w ≡ b → Firsts (places_of 5 line (unknown (w ∷ []))) (place_unless line true b w)
      by true e = subst (λ c. Firsts (places_of 5 line (if not c then w ∷ [] else [])) None) (sym e) none_first
      by false e = subst (λ c. Firsts (places_of 5 line (if not c then w ∷ [] else [])) (Some (place_of 5 line w))) (sym e) (head_first (place_of 5 line) (w ∷ []))

  -- the first of the words up to a place, and of the word there
  pub next_unknown : (passed is_passed : Bool) (words : List Lexeme) (k : ℕ) (w : Lexeme) (p : Option ScriptPlace) → slice_get words k ≡ Some w → is_passed ≡ passed_after passed (take k words) →
      Firsts (places_of 5 line (unknown (names_in passed (take k words)))) p →
      Firsts (places_of 5 line (unknown (names_in passed (take (k + 1) words)))) (first_of place_key p (place_unless line (not is_passed && is_name w.terminal) (known w) w))
  next_unknown passed is_passed words k w p is e h =
      let asked : Bool = not is_passed && is_name w.terminal in
      let before : List Lexeme = names_in passed (take k words) in
      let one : k + 1 ≡ suc k = omega arith in
      let there : names_in passed (take (k + 1) words) ≡ (before ++ name_if asked w) =
      ap (λ n. names_in passed (take n words)) one ∙ names_more passed words k w is ∙ ap (λ b. before ++ name_if (not b && is_name w.terminal) w) (sym e) in
      let parts : places_of 5 line (unknown (before ++ name_if asked w)) ≡ (places_of 5 line (unknown before) ++ places_of 5 line (unknown (name_if asked w))) =
      ap (places_of 5 line) (filter-append (λ (v : Lexeme). not (known v)) before (name_if asked w)) ∙ map-append (place_of 5 line) (unknown before) (unknown (name_if asked w)) in
      subst (λ ps. Firsts ps (first_of place_key p (place_unless line asked (known w) w))) (sym (ap (λ ws. places_of 5 line (unknown ws)) there ∙ parts))
      (joined_firsts (places_of 5 line (unknown before)) (places_of 5 line (unknown (name_if asked w))) p (place_unless line asked (known w) w) h (one_place asked w))
