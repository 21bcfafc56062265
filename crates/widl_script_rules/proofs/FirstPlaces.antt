-- The first place of several, line by line.
use Rattle.std.proofs.Common.{◌≡◌, ℕ, zero, suc, ◌+◌, List, [], ◌∷◌, ◌++◌, length, map, take, slice_get, Contains, flat_map, Option, Some, None, option_map, refl, sym, ◌∙◌, ap, subst, arith, inl, inr, append_assoc}
use Rattle.std.proofs.lemmas.List.{append-nil, take_all}
use Rattle.std.proofs.lemmas.List.Elements.{Contains-append_left, Contains-append_right, Contains-append_cases, Contains-push, Contains-push_cases}
use Rattle.widl_first.specs.Keys.{first_of, Either, IsFirst}
use Rattle.widl_first.proofs.KeyFirsts.{first_alone, first_either, first_same}
use Rattle.widl_lines.specs.declared.script_place.ScriptPlace.{ScriptPlace}
use Rattle.widl_lines.specs.Words.{Lexeme}
use Rattle.widl_lines.specs.Blocks.{first_word}
use Rattle.widl_lines.specs.TextBreaks.{Line}
use Rattle.widl_script_rules.specs.LeastBreak.{place_key}
use Rattle.widl_script_rules.specs.Standings.{Standing, around_after, standing_in, standings}
use Rattle.widl_script_rules.specs.Surroundings.{around_at, open_after}

-- the places of a list
abbrev pub Firsts : List ScriptPlace → Option ScriptPlace → Type 0
Firsts places p = IsFirst place_key (Contains places) p

standing_open : (around lines : List Line) (place : ℕ) (line : Line) → slice_get lines place ≡ Some line →
    slice_get (standing_in around lines) place ≡ Some (record { around = open_after around (take place lines); line = line })
standing_open around [] place line h = cc
standing_open around (first ∷ lines) zero line h =
    let e : first ≡ line = cc in ap (λ (l : Line). Some (let s : Standing = record { around = around; line = l } in s)) e
standing_open around (first ∷ lines) (suc place) line h = standing_open (around_after (first_word first.words) first around) lines place line h

pub standing_at : (lines : List Line) (place : ℕ) (line : Line) → slice_get lines place ≡ Some line → slice_get (standings lines) place ≡ Some (record { around = around_at lines place; line = line })
standing_at lines place line h = standing_open [] lines place line h

standing_count : (around lines : List Line) → length (standing_in around lines) ≡ length lines
standing_count around [] = refl
standing_count around (first ∷ lines) = ap suc (standing_count (around_after (first_word first.words) first around) lines)

pub joined_firsts : (a b : List ScriptPlace) (p q : Option ScriptPlace) → Firsts a p → Firsts b q → Firsts (a ++ b) (first_of place_key p q)
joined_firsts a b p q h k =
    first_same place_key (Either (Contains a) (Contains b)) (Contains (a ++ b)) (first_of place_key p q)
    (λ r e. elim e [ inl x ↦ Contains-append_left a b r x | inr x ↦ Contains-append_right a b r x ])
    (λ r e. Contains-append_cases a b r e)
    (first_either place_key (Contains a) (Contains b) p q h k)

-- one line more
pub taken_next : {X : Type 0} (f : Standing → List X) (script : List Standing) (place : ℕ) (s : Standing) → slice_get script place ≡ Some s → flat_map f (take (suc place) script) ≡ (flat_map f (take place script) ++ f s)
taken_next f [] place s h = cc
taken_next f (t ∷ script) zero s h = let e : t ≡ s = cc in append-nil (f t) ∙ ap f e
taken_next f (t ∷ script) (suc place) s h = ap (λ xs. f t ++ xs) (taken_next f script place s h) ∙ sym (append_assoc (f t) (flat_map f (take place script)) (f s))

-- all lines
pub lines_taken : (lines : List Line) (place : ℕ) → place ≡ length lines → take place (standings lines) ≡ standings lines
lines_taken lines place e =
    take_all place (standings lines) (omega (arith, e, standing_count [] lines))

pub taken_whole : {X : Type 0} (f : Standing → List X) (lines : List Line) (place : ℕ) → place ≡ length lines → flat_map f (take place (standings lines)) ≡ flat_map f (standings lines)
taken_whole f lines place e = ap (flat_map f) (lines_taken lines place e)

module _ (f : Standing → List ScriptPlace) where
  -- the first of the lines up to a place, and of the line there
  pub next_first : (lines : List Line) (place : ℕ) (line : Line) (p q : Option ScriptPlace) → slice_get lines place ≡ Some line → Firsts (flat_map f (take place (standings lines))) p →
      Firsts (f (record { around = around_at lines place; line = line })) q → Firsts (flat_map f (take (place + 1) (standings lines))) (first_of place_key p q)
  next_first lines place line p q is h k =
      let s : Standing = record { around = around_at lines place; line = line } in
      let one : suc place ≡ place + 1 = omega arith in
      let e : (flat_map f (take place (standings lines)) ++ f s) ≡ flat_map f (take (place + 1) (standings lines)) =
      sym (taken_next f (standings lines) place s (standing_at lines place line is)) ∙ ap (λ n. flat_map f (take n (standings lines))) one in
      subst (λ places. Firsts places (first_of place_key p q)) e (joined_firsts (flat_map f (take place (standings lines))) (f s) p q h k)

  -- of all lines
  pub whole_first : (lines : List Line) (place : ℕ) (p : Option ScriptPlace) → place ≡ length lines → Firsts (flat_map f (take place (standings lines))) p → Firsts (flat_map f (standings lines)) p
  whole_first lines place p e h = subst (λ places. Firsts places p) (taken_whole f lines place e) h

pub none_first : Firsts [] None
none_first p h = omega (arith, h.1)

-- the place of the first of some words
pub head_first : (g : Lexeme → ScriptPlace) (words : List Lexeme) → Firsts (map g (take 1 words)) (option_map g (slice_get words 0))
head_first g [] = none_first
head_first g (w ∷ words) = first_alone place_key (Contains (g w ∷ [])) (g w) (Contains-push [] (g w)) (λ q h. elim (Contains-push_cases [] (g w) q h) [ inl x ↦ absurd (none_first q x) | inr e ↦ e ])
