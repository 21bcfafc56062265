-- Two lists of signs at the same tokens: what they have in common, and where they end.
use Rattle.std.proofs.Common.{◌≡◌, ℕ, Bool, true, false, List, [], ◌∷◌, ◌++◌, refl, sym, ◌∙◌, ap, subst}
use Rattle.std.specs.Prelude.{not, ◌&&◌}
use Rattle.widl_text.specs.declared.place.Place.{Place}
use Rattle.widl_lex.specs.Tokens.{Lexeme}
use Rattle.widl_predictive.proofs.Booleans.{and_cases}
use Rattle.widl_grammar.specs.declared.terminal.Terminal.{Terminal}
use Rattle.widl_grammar.specs.Source.{terminal_of}
use Rattle.widl_syntax.specs.Signs.{Sign, Stands, UnparsesTo, AtPlace, OfTerminal, OfBytes, OfText, word}
use Rattle.widl_syntax.proofs.Reading.{is_among, is_other}
use Rattle.widl_syntax.proofs.Unique.Ahead.{NoneAhead, IsAhead, Anywhere, Keeps, split, keeps_anywhere, head, head_ahead, avoids, not_true, begins_else, begins_with, ahead_among}

-- where the signs stand at the same tokens and what follows them is E, the fact holds, and they end at the same place
pub record Tells (P : Type 0) (E : List Lexeme → Type 0) (x y : List Sign) : Type 0 where
  pub tells : (w m n : List Lexeme) → UnparsesTo x w m → UnparsesTo y w n → E m → E n → P × (m ≡ n)

pub told : {P Q : Type 0} {E : List Lexeme → Type 0} {x y : List Sign} → Tells P E x y → (P → Q) → Tells Q E x y
told t f = record { tells = λ w m n s r em en. let a = t.tells w m n s r em en in (f a.0, a.1) }

-- more may be known of what follows
pub where_ends : {P : Type 0} {E F : List Lexeme → Type 0} {x y : List Sign} → ((w : List Lexeme) → F w → E w) → Tells P E x y → Tells P F x y
where_ends f t = record { tells = λ w m n s r em en. t.tells w m n s r (f m em) (f n en) }

pub under : {P : Type 0} {E : List Lexeme → Type 0} {x y : List Sign} → Tells P Anywhere x y → Tells P E x y
under t = where_ends (λ w e. tt) t

pub nothing_told : {E : List Lexeme → Type 0} → Tells (Unit {0}) E [] []
nothing_told = record { tells = λ w m n s r em en. (tt, sym s ∙ r) }

-- signs one after the other, where nothing follows the first that they may go on with: the second may depend on what the first tell
pub given : {P Q : Type 0} {E F : List Lexeme → Type 0} {x y x2 y2 : List Sign} → Tells P E x y → (P → Tells Q F x2 y2) → Keeps E F x2 → Keeps E F y2 → Tells Q F (x ++ x2) (y ++ y2)
given {P} {Q} {E} {F} {x} {y} {x2} {y2} f g k l = record {
  tells = λ w m n s r em en.
      let a = split x x2 w m s in
      let b = split y y2 w n r in
      let one = f.tells w a.0 b.0 a.1 b.1 (k.keeps a.0 m a.2 em) (l.keeps b.0 n b.2 en) in
      (g one.0).tells a.0 m n a.2 (subst (λ v. UnparsesTo y2 v n) (sym one.1) b.2) em en;
}

pub and_tells : {P Q : Type 0} {E F : List Lexeme → Type 0} {x y x2 y2 : List Sign} → Tells P E x y → Tells Q F x2 y2 → Keeps E F x2 → Keeps E F y2 → Tells (P × Q) F (x ++ x2) (y ++ y2)
and_tells f g k l = given f (λ p. told g (λ q. (p, q))) k l

-- signs that tell their end themselves, and others
pub then_tells : {P Q : Type 0} {F : List Lexeme → Type 0} {x y x2 y2 : List Sign} → Tells P Anywhere x y → Tells Q F x2 y2 → Tells (P × Q) F (x ++ x2) (y ++ y2)
then_tells f g = and_tells f g keeps_anywhere keeps_anywhere

-- signs, and others of which it is computed that the first do not go on with them
pub and_else : {P Q : Type 0} {ts : List Terminal} {F : List Lexeme → Type 0} {x y x2 y2 : List Sign} → avoids x2 ts ≡ true → avoids y2 ts ≡ true → Tells P (NoneAhead ts) x y → Tells Q F x2 y2 → Tells (P × Q) F (x ++ x2) (y ++ y2)
and_else {ts = ts} {x2 = x2} {y2 = y2} h k f g = and_tells f g (begins_else x2 ts h) (begins_else y2 ts k)

-- a sign before others
sign_then : {F P : Type 0} {E : List Lexeme → Type 0} {x y : List Sign} (a b : Sign) → ((w m n : List Lexeme) → Stands a w m → Stands b w n → F × (m ≡ n)) → Tells P E x y → Tells (F × P) E (a ∷ x) (b ∷ y)
sign_then {y = y} a b one f = record {
  tells = λ w m n s r em en.
      let first = one w s.0 r.0 s.1 r.1 in
      let rest = f.tells s.0 m n s.2 (subst (λ v. UnparsesTo y v n) (sym first.1) r.2) em en in
      ((first.0, rest.0), rest.1);
}

pub same_tokens : (l k : Lexeme) (v u w : List Lexeme) → w ≡ l ∷ v → w ≡ k ∷ u → (l ≡ k) × (v ≡ u)
same_tokens l k v u w e f = (cc, cc)

pub place_then : {P : Type 0} {E : List Lexeme → Type 0} {x y : List Sign} (p q : Place) → Tells P E x y → Tells ((p ≡ q) × P) E (AtPlace p ∷ x) (AtPlace q ∷ y)
place_then p q f = sign_then (AtPlace p) (AtPlace q) (λ w m n s r.
    let same = same_tokens s.0 r.0 s.1 r.1 w s.2 r.2 in
    (sym s.3 ∙ ap (λ l. l.at) same.0 ∙ r.3, s.4 ∙ sym r.4)) f

pub terminal_then : {P : Type 0} {E : List Lexeme → Type 0} {x y : List Sign} (t u : Terminal) → Tells P E x y → Tells ((t ≡ u) × P) E (OfTerminal t ∷ x) (OfTerminal u ∷ y)
terminal_then t u f = sign_then (OfTerminal t) (OfTerminal u) (λ w m n s r.
    let same = same_tokens s.0 r.0 m n w s.1 r.1 in
    (sym s.2 ∙ ap terminal_of same.0 ∙ r.2, same.1)) f

pub bytes_then : {P : Type 0} {E : List Lexeme → Type 0} {x y : List Sign} (t : Terminal) (bytes others : List ℕ) → Tells P E x y → Tells ((bytes ≡ others) × P) E (OfBytes t bytes ∷ x) (OfBytes t others ∷ y)
bytes_then t bytes others f = sign_then (OfBytes t bytes) (OfBytes t others) (λ w m n s r.
    let same = same_tokens s.0 r.0 m n w s.1 r.1 in
    (sym s.3 ∙ ap (λ l. l.text) same.0 ∙ r.3, same.1)) f

pub text_then : {P : Type 0} {E : List Lexeme → Type 0} {x y : List Sign} (test : Terminal → Bool) (bytes others : List ℕ) → Tells P E x y → Tells ((bytes ≡ others) × P) E (OfText test bytes ∷ x) (OfText test others ∷ y)
text_then test bytes others f = sign_then (OfText test bytes) (OfText test others) (λ w m n s r.
    let same = same_tokens s.0 r.0 m n w s.1 r.1 in
    (sym s.3 ∙ ap (λ l. l.text) same.0 ∙ r.3, same.1)) f

pub word_then : {P : Type 0} {E : List Lexeme → Type 0} {x y : List Sign} (t : Terminal) → Tells P E x y → Tells P E (OfTerminal t ∷ x) (OfTerminal t ∷ y)
word_then t f = told (terminal_then t t f) (λ p. p.1)

pub word_told : {E : List Lexeme → Type 0} (t : Terminal) → Tells (Unit {0}) E (word t) (word t)
word_told t = word_then t nothing_told

-- signs before a word that they do not go on with
pub and_word : {P Q : Type 0} {ts : List Terminal} {F : List Lexeme → Type 0} {x y x2 y2 : List Sign} (t : Terminal) → not (is_among ts t) ≡ true → Tells P (NoneAhead ts) x y → Tells Q F x2 y2 → Tells (P × Q) F (x ++ (OfTerminal t ∷ x2)) (y ++ (OfTerminal t ∷ y2))
and_word t h f g = and_else h h f (word_then t g)

pub word_after : {P : Type 0} {ts : List Terminal} {x y : List Sign} (t : Terminal) → not (is_among ts t) ≡ true → Tells P (NoneAhead ts) x y → Tells P Anywhere (x ++ word t) (y ++ word t)
word_after t h f = told (and_word t h f nothing_told) (λ p. p.0)

-- signs before the word that they go up to
pub up_to : {P Q : Type 0} {F : List Lexeme → Type 0} {x y x2 y2 : List Sign} (t : Terminal) → is_other t ≡ false → Tells P (IsAhead t) x y → Tells Q F x2 y2 → Tells (P × Q) F (x ++ (OfTerminal t ∷ x2)) (y ++ (OfTerminal t ∷ y2))
up_to {x2 = x2} {y2 = y2} t known f g = and_tells f (word_then t g) (begins_with (OfTerminal t ∷ x2) t known refl) (begins_with (OfTerminal t ∷ y2) t known refl)

-- the signs do not stand at the same tokens
pub record Apart (x y : List Sign) : Type 0 where
  pub never : (w m n : List Lexeme) → UnparsesTo x w m → UnparsesTo y w n → ⊥

pub apart : {P : Type 0} {E : List Lexeme → Type 0} {x y : List Sign} → Apart x y → Tells P E x y
apart a = record { tells = λ w m n s r em en. absurd (a.never w m n s r) }

pub apart_back : {P : Type 0} {E : List Lexeme → Type 0} {x y : List Sign} → Apart x y → Tells P E y x
apart_back a = record { tells = λ w m n s r em en. absurd (a.never w n m r s) }

-- the first begin with a terminal that the second do not begin with
pub word_apart : (x y : List Sign) → is_other (head x) ≡ false → Keeps (NoneAhead (head x ∷ [])) Anywhere y → Apart x y
word_apart x y known k = record { never = λ w m n s r. ahead_among (head x) w (head_ahead x w m known s) (k.keeps w n r tt).none }

-- the same, computed
abbrev pub clash : List Sign → List Sign → Bool
clash x y = not (is_other (head x)) && avoids y (head x ∷ [])

pub clash_apart : (x y : List Sign) → clash x y ≡ true → Apart x y
clash_apart x y h =
    let both = and_cases (not (is_other (head x))) (avoids y (head x ∷ [])) h in
    word_apart x y (not_true (is_other (head x)) both.0) (begins_else y (head x ∷ []) both.1)

pub clashes : {P : Type 0} {E : List Lexeme → Type 0} (x y : List Sign) → clash x y ≡ true → Tells P E x y
clashes x y h = apart (clash_apart x y h)
