-- What a rule derives that is one word: names, constants and integers, by tests that the checker computes.
use Rattle.std.proofs.Common.{◌≡◌, ℕ, zero, suc, Bool, true, false, Some, List, [], ◌∷◌, get_or, refl, sym, ◌∙◌, ap, subst, eqb, eqb-true, inl, inr}
use Rattle.std.specs.Prelude.{◌||◌, ℤ}
use Rattle.widl_predictive.specs.declared.grammar.Symbol.{Symbol as RowSymbol}
use Rattle.widl_predictive.specs.declared.grammar.Symbol.TheVariants.{Token, Part}
use Rattle.widl_predictive.specs.Derivation.{Terminal as Term}
use Rattle.widl_predictive.specs.Grammar as gr
use Rattle.widl_predictive.specs.Lookahead.{nth}
use Rattle.widl_predictive.proofs.Booleans.{or_cases}
use Rattle.widl_predictive.proofs.Check.{each, each_coded, imp, imp_holds}
use Rattle.widl_value.specs.declared.number.Number.TheVariants.{Whole}
use Rattle.widl_lines.specs.declared.grammar.Rule.{Rule}
use Rattle.widl_lines.specs.declared.grammar.Rule.TheVariants as rule
use Rattle.widl_lines.specs.declared.grammar.Terminal.{Terminal}
use Rattle.widl_lines.specs.Grammar.{grammar, rows_of}
use Rattle.widl_lines.specs.TerminalNumbers.{terminals, all_terminals, terminal_code}
use Rattle.widl_lines.specs.Words.{Lexeme}
use Rattle.widl_script_tree.specs.Trees.{Text}
use Rattle.widl_script_words.specs.Words.{is_name, is_any_name, is_target_name, is_whole, is_integer}
use Rattle.widl_script_words.specs.Signs.{Sign, OfAnyName, OfTargetName, OfNumber, OfUnits, OfInteger, Stands, word, name}
use Rattle.widl_script_laws.proofs.Giving.{Gives, part_at, in_row, took, took_as, nothing}

abbrev Row : Type 0
Row = List (RowSymbol Terminal Rule)

-- the row is the word alone, or a rule alone of which this is known
abbrev is_alone : (Rule → Terminal → Bool) → Terminal → Row → Bool
is_alone known t (Token a ∷ []) = eqb (terminal_code a) (terminal_code t)
is_alone known t (Part r ∷ []) = known r t
is_alone known t row = false

abbrev one_alone : (Rule → Terminal → Bool) → Terminal → List Row → Bool
one_alone known t [] = false
one_alone known t (row ∷ rows) = is_alone known t row || one_alone known t rows

-- the rule derives the word alone, through at most so many rules
abbrev pub leads : ℕ → Rule → Terminal → Bool
leads zero r t = false
leads (suc k) r t = one_alone (leads k) t (rows_of r)

same_terminal : (a b : Terminal) → eqb (terminal_code a) (terminal_code b) ≡ true → a ≡ b
same_terminal a b h = sym (terminals.at a a) ∙ ap (λ k. get_or terminals.all k a) (eqb-true _ _ h) ∙ terminals.at b a

alone_row : (known : Rule → Terminal → Bool) (v : ℕ) (t : Terminal) → ((r : Rule) → known r t ≡ true → Gives (part_at r v) (word t)) → (row : Row) → is_alone known t row ≡ true → Gives (gr.row_at grammar v row) (word t)
alone_row known v t f (Token a ∷ []) h = subst (λ b. Gives (Term b ∷ []) (word t)) (sym (same_terminal a t h)) (took nothing)
alone_row known v t f (Part r ∷ []) h = f r h
alone_row known v t f row h = cc

some_row : (known : Rule → Terminal → Bool) (t : Terminal) (rows : List Row) → one_alone known t rows ≡ true → (k : ℕ) × (row : Row) × (nth rows k ≡ Some row) × (is_alone known t row ≡ true)
some_row known t [] h = cc
some_row known t (row ∷ rows) h = elim (or_cases (is_alone known t row) _ h) [
  | inl a ↦ (zero, row, refl, a)
  | inr b ↦ let s = some_row known t rows b in (suc s.0, s.1, s.2, s.3)
]

led : (k : ℕ) (r : Rule) (v : ℕ) (t : Terminal) → leads k r t ≡ true → Gives (part_at r v) (word t)
led zero r v t h = cc
led (suc k) r v t h =
    let s = some_row (leads k) t (rows_of r) h in
    in_row r v s.0 s.2 (alone_row (leads k) v t (λ n. led k n v t) s.1 s.3)

-- a word of the language
pub word_at : (r : Rule) (v : ℕ) (t : Terminal) → leads 2 r t ≡ true → Gives (part_at r v) (word t)
word_at r v t h = led 2 r v t h

-- a sign of words that the rule derives alone
pub sign_at : (r : Rule) (v : ℕ) (sign : Sign) → ((w : Lexeme) → Stands sign w → leads 2 r w.terminal ≡ true) → Gives (part_at r v) (sign ∷ [])
sign_at r v sign f = record {
  gives = λ others from to h d. (led 2 r v h.0.terminal (f h.0 h.3)).gives others from to (h.0, h.1, h.2, refl, h.4) d;
}

pub by_test : (p : Terminal → Bool) (r : Rule) → each (λ t. imp (p t) (leads 2 r t)) all_terminals ≡ true → (t : Terminal) → p t ≡ true → leads 2 r t ≡ true
by_test p r h t = imp_holds (p t) (leads 2 r t) (each_coded terminals (λ x. imp (p x) (leads 2 r x)) h t)

names : each (λ t. imp (is_name t) (leads 2 rule.Name t)) all_terminals ≡ true
unfolding each
names = refl

any_names : each (λ t. imp (is_any_name t) (leads 2 rule.AnyName t)) all_terminals ≡ true
unfolding each
any_names = refl

target_names : each (λ t. imp (is_target_name t) (leads 2 rule.TargetName t)) all_terminals ≡ true
unfolding each
target_names = refl

wholes : each (λ t. imp (is_whole t) (leads 2 rule.Constant t)) all_terminals ≡ true
unfolding each
wholes = refl

integers : each (λ t. imp (is_integer t) (leads 2 rule.Literal t)) all_terminals ≡ true
unfolding each
integers = refl

pub name_at : (v : ℕ) (text : Text) → Gives (part_at rule.Name v) (name text)
name_at v text = sign_at rule.Name v _ (λ w h. by_test is_name rule.Name names w.terminal h.0)

pub any_name_at : (v : ℕ) (text : Text) → Gives (part_at rule.AnyName v) (OfAnyName text ∷ [])
any_name_at v text = sign_at rule.AnyName v (OfAnyName text) (λ w h. by_test is_any_name rule.AnyName any_names w.terminal h.0)

pub target_name_at : (v : ℕ) (text : Text) → Gives (part_at rule.TargetName v) (OfTargetName text ∷ [])
target_name_at v text = sign_at rule.TargetName v (OfTargetName text) (λ w h. by_test is_target_name rule.TargetName target_names w.terminal h.0)

pub whole_at : (v : ℕ) (n : ℤ) → Gives (part_at rule.Constant v) (OfNumber (Whole n) ∷ [])
whole_at v n = sign_at rule.Constant v (OfNumber (Whole n)) (λ w h. by_test is_whole rule.Constant wholes w.terminal h.0)

pub text_at : (v : ℕ) (units : Text) → Gives (part_at rule.Constant v) (OfUnits units ∷ [])
text_at v units = in_row rule.Constant v 6 refl (took_as (OfUnits units) (λ w h. h.0) nothing)

pub integer_at : (v : ℕ) (n : ℤ) → Gives (part_at rule.Literal v) (OfInteger n ∷ [])
integer_at v n = sign_at rule.Literal v (OfInteger n) (λ w h. by_test is_integer rule.Literal integers w.terminal h.0)
