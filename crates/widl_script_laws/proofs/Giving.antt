-- Symbols of the grammar that derive whatever words the signs are those of.
use Rattle.std.proofs.Common.{◌≡◌, ℕ, zero, suc, Some, List, [], ◌∷◌, ◌++◌, refl, sym, ◌∙◌, ap, subst, arith, append_assoc, append-nil}
use Rattle.std.specs.Prelude.{Contains}
use Rattle.widl_predictive.specs.declared.grammar.Symbol.{Symbol as RowSymbol}
use Rattle.widl_predictive.specs.Derivation.{Symbol, Terminal as Term, Nonterminal, Derives, done, token, row}
use Rattle.widl_predictive.specs.Grammar as gr
use Rattle.widl_predictive.specs.Grammar.{Leveled, Sentence}
use Rattle.widl_predictive.specs.Lookahead.{nth}
use Rattle.widl_lines.specs.declared.grammar.Rule.{Rule}
use Rattle.widl_lines.specs.declared.grammar.Terminal.{Terminal}
use Rattle.widl_lines.specs.Breaks.{terminals_of}
use Rattle.widl_lines.specs.Grammar.{grammar, rows_of}
use Rattle.widl_lines.specs.Words.{Lexeme}
use Rattle.widl_script_words.specs.Signs.{Sign, Is, Nowhere, Stands, Spells, SpellsLine, ◌⧺◌, word}

abbrev pub Symbols : Type 0
Symbols = List (Symbol Terminal (Leveled Rule))

abbrev pub part_at : Rule → ℕ → Symbols
part_at r v = Nonterminal (r, v) ∷ []

-- one level further in
abbrev pub inside : ℕ → ℕ
inside v = gr.next_level grammar.deep_level v

abbrev pub Derived : Symbols → List Terminal → Type 0
Derived s w = Derives (gr.rows grammar) s w

pub record Gives (before : Symbols) (x : List Sign) : Type 0 where
  pub gives : (others : Symbols) (from to : List Lexeme) → Spells x from to → Derived others (terminals_of to) → Derived (before ++ others) (terminals_of from)

pub nothing : Gives [] []
nothing = record { gives = λ others from to h d. subst (λ w. Derived others (terminals_of w)) (sym h) d }

pub nowhere : {s : Symbols} {x : List Sign} → Gives s (Nowhere ∷ x)
nowhere = record { gives = λ others from to h d. absurd h.3 }

-- a word, by a sign that stands for words of the terminal alone
pub took_as : {a : Terminal} {s : Symbols} {x : List Sign} (sign : Sign) → ((w : Lexeme) → Stands sign w → w.terminal ≡ a) → Gives s x → Gives (Term a ∷ s) (sign ∷ x)
took_as {a} {s} {x} sign is g = record {
  gives = λ others from to h d.
      let whole : terminals_of from ≡ a ∷ terminals_of h.1 = ap terminals_of h.2 ∙ ap (λ t. t ∷ terminals_of h.1) (is h.0 h.3) in
      subst (Derived (Term a ∷ (s ++ others))) (sym whole) (token (g.gives others h.1 to h.4 d));
}

pub took : {a : Terminal} {s : Symbols} {x : List Sign} → Gives s x → Gives (Term a ∷ s) (word a ⧺ x)
took {a} g = took_as (Is a) (λ w h. h) g

spells_split : (x y : List Sign) (from to : List Lexeme) → Spells (x ++ y) from to → (mid : List Lexeme) × Spells x from mid × Spells y mid to
spells_split [] y from to h = (from, refl, h)
spells_split (sign ∷ x) y from to h = let s = spells_split x y h.1 to h.4 in (s.0, (h.0, h.1, h.2, h.3, s.1), s.2)

pub part : {n : Leveled Rule} {s : Symbols} {x y : List Sign} → Gives (Nonterminal n ∷ []) x → Gives s y → Gives (Nonterminal n ∷ s) (x ⧺ y)
part {n} {s} {x} {y} f g = record {
  gives = λ others from to h d.
      let p = spells_split x y from to h in
      f.gives (s ++ others) from p.0 p.1 (g.gives others p.0 to p.2 d);
}

of_signs : {s : Symbols} {x y : List Sign} → y ≡ x → Gives s x → Gives s y
of_signs {s} e g = subst (Gives s) (sym e) g

pub regroup : {s : Symbols} (x y z : List Sign) → Gives s (x ⧺ y ⧺ z) → Gives s ((x ⧺ y) ⧺ z)
regroup x y z g = of_signs (append_assoc x y z) g

-- with nothing behind it
pub last : {s : Symbols} (x : List Sign) → Gives s (x ⧺ []) → Gives s x
last x g = of_signs (sym (append-nil x)) g

nth_row : (v : ℕ) (xs : List (List (RowSymbol Terminal Rule))) (k : ℕ) (a : List (RowSymbol Terminal Rule)) → nth xs k ≡ Some a → Contains (gr.rows_at grammar v xs) (gr.row_at grammar v a)
nth_row v [] k a e = cc
nth_row v (b ∷ xs) zero a e = (0, omega arith, ap (gr.row_at grammar v) (let same : b ≡ a = cc in same))
nth_row v (b ∷ xs) (suc k) a e = let m = nth_row v xs k a e in (suc m.0, omega (arith, m.1), m.2)

-- by the row of that number
pub in_row : (r : Rule) (v k : ℕ) {a : List (RowSymbol Terminal Rule)} {x : List Sign} → nth (rows_of r) k ≡ Some a → Gives (gr.row_at grammar v a) x → Gives (part_at r v) x
in_row r v k {a} e g = record {
  gives = λ others from to h d. row (gr.row_at grammar v a) (nth_row v (rows_of r) k a e) (g.gives others from to h d);
}

pub sentence : {r : Rule} {x : List Sign} → Gives (part_at r 1) x → (words : List Lexeme) → SpellsLine x words → Sentence grammar r (terminals_of words)
sentence g words h = g.gives [] words [] h done
