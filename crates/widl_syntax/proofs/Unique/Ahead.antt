-- What is ahead of the tokens that signs stand for.
use Rattle.std.proofs.Common.{◌≡◌, Bool, true, false, List, [], ◌∷◌, ◌++◌, refl, sym, ◌∙◌, ap, subst, drop, get_or, eq-eqb, eqb-true}
use Rattle.std.specs.List.{list_any}
use Rattle.std.specs.Prelude.{not, ◌||◌, ◌&&◌, nat_eq}
use Rattle.widl_text.specs.declared.place.Place.{Place}
use Rattle.widl_lex.specs.Tokens.{Lexeme}
use Rattle.widl_predictive.proofs.Booleans.{and_cases}
use Rattle.widl_grammar.specs.declared.terminal.Terminal.{Terminal}
use Rattle.widl_grammar.specs.declared.terminal.Terminal.TheVariants.{Other}
use Rattle.widl_grammar.specs.Source.{terminal_of}
use Rattle.widl_grammar.specs.Terminals.{terminal_code, all_terminals, terminal_at}
use Rattle.widl_syntax.specs.Signs.{Sign, UnparsesTo, AtPlace, OfTerminal, OfBytes, OfText, OfPart, Nowhere}
use Rattle.widl_syntax.specs.Reading.{terminal_ahead}
use Rattle.widl_syntax.proofs.Reading.{is_among, is_other}

-- none of the terminals is ahead
pub record NoneAhead (ts : List Terminal) (w : List Lexeme) : Type 0 where
  pub none : is_among ts (terminal_ahead w) ≡ false

-- the terminal is ahead
pub record IsAhead (t : Terminal) (w : List Lexeme) : Type 0 where
  pub ahead : terminal_ahead w ≡ t

-- whatever is ahead
abbrev pub Anywhere : List Lexeme → Type 0
Anywhere w = Unit {0}

-- tokens that begin with those of the signs are E where what follows these is F
pub record Keeps (E F : List Lexeme → Type 0) (x : List Sign) : Type 0 where
  pub keeps : (w m : List Lexeme) → UnparsesTo x w m → F m → E w

-- signs one after the other
pub split : (x y : List Sign) (w v : List Lexeme) → UnparsesTo (x ++ y) w v → (m : List Lexeme) × UnparsesTo x w m × UnparsesTo y m v
split [] y w v s = (w, refl, s)
split (sign ∷ x) y w v s = let r = split x y s.0 v s.2 in (r.0, (s.0, s.1, r.1), r.2)

pub keeps_anywhere : {F : List Lexeme → Type 0} {x : List Sign} → Keeps Anywhere F x
keeps_anywhere = record { keeps = λ w m s fm. tt }

-- signs without the first
pub without_place : (x : List Sign) {p : Place} {w : List Lexeme} (m : List Lexeme) → UnparsesTo (AtPlace p ∷ x) w m → UnparsesTo x w m
without_place x {p} {w} m s = subst (λ v. UnparsesTo x v m) s.1.4 s.2

pub word_ahead : (x : List Sign) {t : Terminal} {w : List Lexeme} (m : List Lexeme) → UnparsesTo (OfTerminal t ∷ x) w m → terminal_ahead w ≡ t
word_ahead x m s = ap terminal_ahead s.1.1 ∙ s.1.2

pub after_word : (x : List Sign) {t : Terminal} {w : List Lexeme} (m : List Lexeme) → UnparsesTo (OfTerminal t ∷ x) w m → UnparsesTo x (drop 1 w) m
after_word x {t} {w} m s = subst (λ v. UnparsesTo x v m) (sym (ap (drop 1) s.1.1)) s.2

-- the terminal that signs begin with, where it is known
abbrev pub head : List Sign → Terminal
head [] = Other
head (AtPlace place ∷ x) = head x
head (OfTerminal t ∷ x) = t
head (OfBytes t bytes ∷ x) = t
head (OfText test bytes ∷ x) = Other
head (OfPart rule texts ∷ x) = Other
head (Nowhere ∷ x) = Other

pub head_ahead : (x : List Sign) (w m : List Lexeme) → is_other (head x) ≡ false → UnparsesTo x w m → terminal_ahead w ≡ head x
head_ahead [] w m known s = cc
head_ahead (AtPlace place ∷ x) w m known s = head_ahead x w m known (without_place x m s)
head_ahead (OfTerminal t ∷ x) w m known s = word_ahead x m s
head_ahead (OfBytes t bytes ∷ x) w m known s = ap terminal_ahead s.1.1 ∙ s.1.2
head_ahead (OfText test bytes ∷ x) w m known s = cc
head_ahead (OfPart rule texts ∷ x) w m known s = cc
head_ahead (Nowhere ∷ x) w m known s = cc

-- the signs begin with a token of none of the terminals
abbrev pub avoids : List Sign → List Terminal → Bool
avoids [] ts = false
avoids (AtPlace place ∷ x) ts = avoids x ts
avoids (OfTerminal t ∷ x) ts = not (is_among ts t)
avoids (OfBytes t bytes ∷ x) ts = not (is_among ts t)
avoids (OfText test bytes ∷ x) ts = not (list_any test ts)
avoids (OfPart rule texts ∷ x) ts = false
avoids (Nowhere ∷ x) ts = true

pub not_true : (b : Bool) → not b ≡ true → b ≡ false
not_true true e = cc
not_true false e = refl

pub same_code : (a t : Terminal) → nat_eq (terminal_code a) (terminal_code t) ≡ true → a ≡ t
same_code a t e = sym (terminal_at a a) ∙ ap (λ k. get_or all_terminals k a) (eqb-true (terminal_code a) (terminal_code t) e) ∙ terminal_at t a

none_pass : (test : Terminal → Bool) (t : Terminal) (ts : List Terminal) → test t ≡ true → list_any test ts ≡ false → is_among ts t ≡ false
none_pass test t [] known none = refl
none_pass test t (a ∷ ts) known none = go (λ h. none_pass test t ts known h) (test a) (nat_eq (terminal_code a) (terminal_code t)) refl refl none
  where
    go : (list_any test ts ≡ false → is_among ts t ≡ false) → (passed same : Bool) → test a ≡ passed → nat_eq (terminal_code a) (terminal_code t) ≡ same → (passed || list_any test ts) ≡ false → (same || is_among ts t) ≡ false
    go rest true same e f h = cc
    go rest false true e f h = let bad : true ≡ false = sym known ∙ ap test (sym (same_code a t f)) ∙ e in cc
    go rest false false e f h = rest h

avoided : (x : List Sign) (ts : List Terminal) (w m : List Lexeme) → avoids x ts ≡ true → UnparsesTo x w m → is_among ts (terminal_ahead w) ≡ false
avoided [] ts w m h s = cc
avoided (AtPlace place ∷ x) ts w m h s = avoided x ts w m h (without_place x m s)
avoided (OfTerminal t ∷ x) ts w m h s = ap (is_among ts) (word_ahead x m s) ∙ not_true (is_among ts t) h
avoided (OfBytes t bytes ∷ x) ts w m h s = ap (is_among ts) (ap terminal_ahead s.1.1 ∙ s.1.2) ∙ not_true (is_among ts t) h
avoided (OfText test bytes ∷ x) ts w m h s = ap (is_among ts) (ap terminal_ahead s.1.1) ∙ none_pass test (terminal_of s.1.0) ts s.1.2 (not_true (list_any test ts) h)
avoided (OfPart rule texts ∷ x) ts w m h s = cc
avoided (Nowhere ∷ x) ts w m h s = absurd s.1

-- signs of which it is computed that they begin with none of the terminals
pub begins_else : {F : List Lexeme → Type 0} (x : List Sign) (ts : List Terminal) → avoids x ts ≡ true → Keeps (NoneAhead ts) F x
begins_else x ts h = record { keeps = λ w m s fm. record { none = avoided x ts w m h s } }

-- signs that begin with a word
pub begins_with : {F : List Lexeme → Type 0} (x : List Sign) (t : Terminal) → is_other (head x) ≡ false → head x ≡ t → Keeps (IsAhead t) F x
begins_with x t known e = record { keeps = λ w m s fm. record { ahead = head_ahead x w m known s ∙ e } }

-- what is known of the first signs is known of all
pub first_keeps : {E F : List Lexeme → Type 0} {x : List Sign} (y : List Sign) → Keeps E Anywhere x → Keeps E F (x ++ y)
first_keeps {E} {F} {x} y k = record { keeps = λ w m s fm. let a = split x y w m s in k.keeps w a.0 a.1 tt }

pub then_keeps : {E F G : List Lexeme → Type 0} {x y : List Sign} → Keeps E F x → Keeps F G y → Keeps E G (x ++ y)
then_keeps {E} {F} {G} {x} {y} k l = record { keeps = λ w m s fm. let a = split x y w m s in k.keeps w a.0 a.1 (l.keeps a.0 m a.2 fm) }

pub place_keeps : {E F : List Lexeme → Type 0} {x : List Sign} {p : Place} → Keeps E F x → Keeps E F (AtPlace p ∷ x)
place_keeps {x = x} k = record { keeps = λ w m s fm. k.keeps w m (without_place x m s) fm }

-- the terminal ahead is known, or fewer terminals are asked for
pub ahead_none : (t : Terminal) (ts : List Terminal) → is_among ts t ≡ false → (w : List Lexeme) → IsAhead t w → NoneAhead ts w
ahead_none t ts h w is = record { none = ap (is_among ts) is.ahead ∙ h }

abbrev pub are_among : List Terminal → List Terminal → Bool
are_among [] ts = true
are_among (a ∷ more) ts = is_among ts a && are_among more ts

none_fewer : (us ts : List Terminal) (t : Terminal) → are_among us ts ≡ true → is_among ts t ≡ false → is_among us t ≡ false
none_fewer [] ts t h none = refl
none_fewer (a ∷ us) ts t h none = go (none_fewer us ts t (and_cases (is_among ts a) (are_among us ts) h).1 none) (nat_eq (terminal_code a) (terminal_code t)) refl
  where
    go : is_among us t ≡ false → (same : Bool) → nat_eq (terminal_code a) (terminal_code t) ≡ same → (same || is_among us t) ≡ false
    go rest true e = let bad : false ≡ true = sym none ∙ ap (is_among ts) (sym (same_code a t e)) ∙ (and_cases (is_among ts a) (are_among us ts) h).0 in cc
    go rest false e = rest

pub fewer : (us ts : List Terminal) → are_among us ts ≡ true → (w : List Lexeme) → NoneAhead ts w → NoneAhead us w
fewer us ts h w n = record { none = none_fewer us ts (terminal_ahead w) h n.none }

pub ahead_among : (t : Terminal) (w : List Lexeme) → terminal_ahead w ≡ t → is_among (t ∷ []) (terminal_ahead w) ≡ false → ⊥
ahead_among t w e h =
    let same : nat_eq (terminal_code t) (terminal_code t) ≡ true = eq-eqb (terminal_code t) (terminal_code t) refl in
    let bad : (true || false) ≡ false = ap (λ b. b || false) (sym same) ∙ ap (is_among (t ∷ [])) (sym e) ∙ h in
    cc

pub keeps_fewer : {F : List Lexeme → Type 0} {x : List Sign} (us ts : List Terminal) → are_among us ts ≡ true → Keeps (NoneAhead ts) F x → Keeps (NoneAhead us) F x
keeps_fewer us ts h k = record { keeps = λ w m s fm. fewer us ts h w (k.keeps w m s fm) }
