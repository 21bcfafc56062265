-- Functions whose name is another one's, line by line.
use Rattle.std.proofs.Common.{◌≡◌, ℕ, zero, suc, ◌+◌, Bool, ◌||◌, List, [], ◌∷◌, ◌++◌, take, slice_get, filter, flat_map, Option, Some, sym, ◌∙◌, ap, subst, arith, append_assoc}
use Rattle.std.proofs.lemmas.List.{append-nil}
use Rattle.std.proofs.lemmas.List.Elements.{filter_agree}
use Rattle.widl_first.specs.Keys.{first_of}
use Rattle.widl_idl.specs.DefinitionTerms.{DefsTerm}
use Rattle.widl_lines.specs.declared.script_place.ScriptPlace.{ScriptPlace}
use Rattle.widl_lines.specs.Words.{Lexeme}
use Rattle.widl_lines.specs.TextBreaks.{Line}
use Rattle.widl_script_rules.specs.LeastBreak.{place_key}
use Rattle.widl_script_rules.specs.Names.{function_name, has_name, is_owner_name}
use Rattle.widl_script_rules.specs.RepeatedFunctions.{repeated_after}
use Rattle.widl_script_rules.specs.Standings.{Standing, places_of, standings}
use Rattle.widl_script_rules.specs.Surroundings.{around_at}
use Rattle.widl_script_rules.proofs.FirstPlaces.{Firsts, joined_firsts, standing_at}

abbrev pub name_in : Standing → List Lexeme
name_in s = function_name s.line

abbrev pub names_before : List Line → ℕ → List Lexeme
names_before lines k = flat_map name_in (take k (standings lines))

module _ (list : DefsTerm) where
  -- the name of a line that is taken, where functions have these names
  abbrev pub taken_in : List Lexeme → Line → List ScriptPlace
  taken_in names line = places_of 8 line (filter (λ (w : Lexeme). has_name names w.text || is_owner_name list w.text) (function_name line))

  after_none : (names : List Lexeme) (s : Standing) → repeated_after list names (s ∷ []) ≡ taken_in (names ++ []) s.line
  after_none names s = append-nil (taken_in names s.line) ∙ ap (λ ns. taken_in ns s.line) (sym (append-nil names))

  repeated_more : (names : List Lexeme) (script : List Standing) (k : ℕ) (s : Standing) → slice_get script k ≡ Some s →
      repeated_after list names (take (suc k) script) ≡ (repeated_after list names (take k script) ++ taken_in (names ++ flat_map name_in (take k script)) s.line)
  repeated_more names [] k s h = cc
  repeated_more names (t ∷ script) zero s h = let e : t ≡ s = cc in after_none names t ∙ ap (λ (u : Standing). taken_in (names ++ []) u.line) e
  repeated_more names (t ∷ script) (suc k) s h =
      ap (λ ps. taken_in names t.line ++ ps) (repeated_more (names ++ name_in t) script k s h ∙ ap (λ ns. repeated_after list (names ++ name_in t) (take k script) ++ taken_in ns s.line) (append_assoc names (name_in t) (flat_map name_in (take k script))))
      ∙ sym (append_assoc (taken_in names t.line) (repeated_after list (names ++ name_in t) (take k script)) (taken_in (names ++ (name_in t ++ flat_map name_in (take k script))) s.line))

  -- the first of the lines up to a place, and of the line there
  pub next_taken : (lines : List Line) (k : ℕ) (line : Line) (functions owners : List ℕ → Bool) (p q : Option ScriptPlace) → slice_get lines k ≡ Some line →
      ((text : List ℕ) → functions text ≡ has_name (names_before lines k) text) → ((text : List ℕ) → owners text ≡ is_owner_name list text) → Firsts (repeated_after list [] (take k (standings lines))) p →
      Firsts (places_of 8 line (filter (λ (w : Lexeme). functions w.text || owners w.text) (function_name line))) q → Firsts (repeated_after list [] (take (k + 1) (standings lines))) (first_of place_key p q)
  next_taken lines k line functions owners p q is same own h g =
      let s : Standing = record { around = around_at lines k; line = line } in
      let one : suc k ≡ k + 1 = omega arith in
      let names : List Lexeme = names_before lines k in
      let agree : places_of 8 line (filter (λ (w : Lexeme). functions w.text || owners w.text) (function_name line)) ≡ taken_in names line =
      ap (places_of 8 line) (filter_agree (λ (w : Lexeme). functions w.text || owners w.text) (λ (w : Lexeme). has_name names w.text || is_owner_name list w.text)
      (λ (w : Lexeme). ap (λ b. b || owners w.text) (same w.text) ∙ ap (λ b. has_name names w.text || b) (own w.text)) (function_name line)) in
      let e : (repeated_after list [] (take k (standings lines)) ++ taken_in names line) ≡ repeated_after list [] (take (k + 1) (standings lines)) =
      sym (repeated_more [] (standings lines) k s (standing_at lines k line is)) ∙ ap (λ n. repeated_after list [] (take n (standings lines))) one in
      subst (λ ps. Firsts ps (first_of place_key p q)) e (joined_firsts (repeated_after list [] (take k (standings lines))) (taken_in names line) p q h (subst (λ ps. Firsts ps q) agree g))
