-- The tokens ahead tell which of several alternatives stands there. The alternatives have numbers, in these proofs alone.
use Rattle.std.proofs.Common.{◌≡◌, ℕ, true, false, List, ◌∷◌, sym, ◌∙◌, ap, drop, eq-eqb}
use Rattle.std.specs.Prelude.{nat_eq}
use Rattle.widl_lex.specs.Tokens.{Lexeme}
use Rattle.widl_grammar.specs.declared.terminal.Terminal.{Terminal}
use Rattle.widl_syntax.specs.Signs.{Sign, UnparsesTo, OfTerminal}
use Rattle.widl_syntax.specs.Reading.{terminal_ahead}
use Rattle.widl_syntax.proofs.Reading.{is_other}
use Rattle.widl_syntax.proofs.Unique.Ahead.{head, head_ahead, word_ahead, after_word}
use Rattle.widl_syntax.proofs.Unique.Tells.{Tells}

-- the number by the first two tokens
abbrev pub number_at : (Terminal → Terminal → ℕ) → List Lexeme → ℕ
number_at by w = by (terminal_ahead w) (terminal_ahead (drop 1 w))

-- the first token is known, or the first two
pub by_first : (by : Terminal → Terminal → ℕ) (x : List Sign) (w m : List Lexeme) → is_other (head x) ≡ false → UnparsesTo x w m → number_at by w ≡ by (head x) (terminal_ahead (drop 1 w))
by_first by x w m known s = ap (λ first. by first (terminal_ahead (drop 1 w))) (head_ahead x w m known s)

pub by_two : (by : Terminal → Terminal → ℕ) (first : Terminal) (x : List Sign) (w m : List Lexeme) → is_other (head x) ≡ false → UnparsesTo (OfTerminal first ∷ x) w m → number_at by w ≡ by first (head x)
by_two by first x w m known s =
    ap (λ word. by word (terminal_ahead (drop 1 w))) (word_ahead x m s) ∙ ap (by first) (head_ahead x (drop 1 w) m known (after_word x m s))

-- alternatives that stand at the same tokens have one number
pub of_one_number : {X P : Type 0} {E : List Lexeme → Type 0} (by : Terminal → Terminal → ℕ) (signs : X → List Sign) (number : X → ℕ) → ((x : X) (w m : List Lexeme) → UnparsesTo (signs x) w m → number_at by w ≡ number x) → (a b : X) → (number a ≡ number b → Tells P E (signs a) (signs b)) → Tells P E (signs a) (signs b)
of_one_number by signs number known a b f = record { tells = λ w m n s r em en. (f (sym (known a w m s) ∙ known b w n r)).tells w m n s r em en }

pub other_number : {A : Type 0} (m n : ℕ) → m ≡ n → nat_eq m n ≡ false → A
other_number m n e h = let bad : true ≡ false = sym (eq-eqb m n e) ∙ h in cc
