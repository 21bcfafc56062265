-- Tokens by their bytes, and rules of which each row is one token.
use Rattle.std.proofs.Common.{eq-eqb, zero, suc, ◌≡◌, ℕ, ◌≤◌, Bool, true, false, Option, Some, None, List, [], ◌∷◌, ◌++◌, length, length-drop, refl, ◌∙◌, ap, subst, arith, inl, inr}
use Rattle.std.specs.List.{list_any}
use Rattle.std.specs.Prelude.{◌||◌, ◌&&◌, map}
use Rattle.widl_text.specs.declared.place.Place.{Place}
use Rattle.widl_idl.specs.declared.tree.names.Name.{Name}
use Rattle.widl_lex.specs.Tokens.{Lexeme}
use Rattle.widl_predictive.specs.declared.grammar.Symbol.{Symbol as RowSymbol}
use Rattle.widl_predictive.specs.declared.grammar.Symbol.TheVariants.{Token, Part, Inner}
use Rattle.widl_predictive.specs.Lookahead.{nth}
use Rattle.widl_predictive.specs.Predictive.{ahead}
use Rattle.widl_predictive.specs.Runs.{plain}
use Rattle.widl_predictive.proofs.Booleans.{or_cases, and_cases}
use Rattle.widl_grammar.specs.declared.rule.Rule.{Rule}
use Rattle.widl_grammar.specs.declared.terminal.Terminal.{Terminal}
use Rattle.widl_grammar.specs.Rows.{rows_of}
use Rattle.widl_grammar.specs.Tables.{picked}
use Rattle.widl_grammar.specs.Terminals.{all_terminals, terminal_code}
use Rattle.widl_grammar.specs.Source.{terminal_of}
use Rattle.widl_syntax.specs.Signs.{OfBytes, at, ◌⧺◌}
use Rattle.widl_syntax.specs.UnparsedNames.{any_name, is_row_of}
use Rattle.widl_syntax.specs.Reading.{Runs, Reads, token, part, terminal_ahead, IfAhead, IsTaken, IsPassedBy, IsName}
use Rattle.widl_syntax.proofs.Reading.{always, took_bytes, took_name, part_first, and_other_than, is_among, pass_all, passes}

-- a token of the terminal, with its bytes
pub took_whole : (a : Terminal) (bytes : List ℕ) {w m : List Lexeme} {place : Place} → IsTaken place w m → IfAhead w (λ l. bytes ≡ l.text) → Reads (token a) (at place ⧺ OfBytes a bytes ∷ []) w m
took_whole a bytes {w} {m} {place} t b = took_bytes a bytes t (always w (λ l. bytes ≡ l.text) (λ l. terminal_of l ≡ a) b)

-- the terminal is none of these
abbrev pub NoneOf : List Terminal → Terminal → Type 0
NoneOf [] t = Unit {0}
NoneOf (a ∷ more) t = (t ≡ a → ⊥) × NoneOf more t

pub none_of : (others : List Terminal) (t u : Terminal) → t ≡ u → NoneOf others t → is_among others u ≡ false
none_of [] t u e h = refl
none_of (a ∷ more) t u e h = and_other_than a more u (λ same. h.0 (e ∙ same)) (none_of more t u e h.1)

-- the row is one token, or there is none
abbrev pub is_word : Option (List (RowSymbol Terminal Rule)) → Bool
is_word None = true
is_word (Some []) = false
is_word (Some (Token a ∷ [])) = true
is_word (Some (Token a ∷ x ∷ more)) = false
is_word (Some (Part rule ∷ more)) = false
is_word (Some (Inner rule ∷ more)) = false

-- each other terminal, and the end, picks a row of one token or none
abbrev pub is_words : Rule → List Terminal → Bool
is_words rule others = pass_all (λ t. is_among others t || is_word (nth (rows_of rule) (picked rule (Some t)))) all_terminals && is_word (nth (rows_of rule) (picked rule None))

picks_word : (rule : Rule) (others : List Terminal) (w : List Lexeme) → is_words rule others ≡ true → is_among others (terminal_ahead w) ≡ false → is_word (nth (rows_of rule) (picked rule (ahead (map terminal_of w)))) ≡ true
picks_word rule others [] h differ = (and_cases _ _ h).1
picks_word rule others (l ∷ w) h differ =
    let both = passes (λ t. is_among others t || is_word (nth (rows_of rule) (picked rule (Some t)))) (and_cases _ _ h).0 (terminal_of l) in
    elim (or_cases (is_among others (terminal_of l)) _ both) [ inl yes_among ↦ cc | inr row ↦ row ]

word_row : (row : List (RowSymbol Terminal Rule)) → is_word (Some row) ≡ true → (a : Terminal) × (row ≡ Token a ∷ [])
word_row [] h = cc
word_row (Token a ∷ []) h = (a, refl)
word_row (Token a ∷ x ∷ more) h = cc
word_row (Part rule ∷ more) h = cc
word_row (Inner rule ∷ more) h = cc

-- the row is among the rule's
row_among : (rows : List (List (RowSymbol Terminal Rule))) (k : ℕ) (a : Terminal) → nth rows k ≡ Some (Token a ∷ []) → list_any (is_row_of a) rows ≡ true
row_among [] k a e = cc
row_among (row ∷ rows) zero a e =
    let is : row ≡ Token a ∷ [] = cc in
    ap (λ b. b || list_any (is_row_of a) rows) (ap (is_row_of a) is ∙ eq-eqb (terminal_code a) (terminal_code a) refl)
row_among (row ∷ rows) (suc k) a e = ap (λ b. is_row_of a row || b) (row_among rows k a e) ∙ or_true (is_row_of a row)
  where
    or_true : (b : Bool) → (b || true) ≡ true
    or_true true = refl
    or_true false = refl

-- a name, as a rule of words
pub by_word : (rule : Rule) (others : List Terminal) {w m : List Lexeme} {name : Name} → is_words rule others ≡ true → is_among others (terminal_ahead w) ≡ false → IsName name w m → Reads (part rule) (any_name rule name) w m
by_word rule others {w} {m} {name} test differ n = record {
  reads = λ z r.
      let p = part_first r in
      let row = word_row p.0 (subst (λ o. is_word o ≡ true) p.1 (picks_word rule others w test differ)) in
      let known = row_among (rows_of rule) (picked rule (ahead (map terminal_of w))) row.0 (p.1 ∙ ap (λ s. Some s) row.1) in
      (took_name row.0 rule known n).reads z (subst (λ s. Runs (plain s ++ z) w) row.1 p.2);
}

-- no more tokens are left after a token that is taken or passed by
pub taken_shorter : {now next : List Lexeme} {place : Place} (n : ℕ) → IsTaken place now next → length now ≤ n → length next ≤ n
taken_shorter {now} {next} n t le = omega (arith, ap length t.rest, length-drop 1 now)

pub passed_shorter : {now next : List Lexeme} {t : Terminal} (n : ℕ) → IsPassedBy t now next → length now ≤ n → length next ≤ n
passed_shorter {now} {next} n p le = omega (arith, ap length p.same)
