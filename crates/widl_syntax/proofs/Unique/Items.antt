-- Parts that may be left out or repeated: what stands after them tells where they end.
use Rattle.std.proofs.Common.{◌≡◌, Bool, true, false, Option, Some, None, List, [], ◌∷◌, ◌++◌, refl, sym, ◌∙◌, ap, subst}
use Rattle.std.specs.Prelude.{not}
use Rattle.widl_lex.specs.Tokens.{Lexeme}
use Rattle.widl_grammar.specs.declared.terminal.Terminal.{Terminal}
use Rattle.widl_syntax.specs.Signs.{Sign, UnparsesTo, OfTerminal, word, all_signs, after, separated}
use Rattle.widl_syntax.specs.UnparsedNames.{word_if}
use Rattle.widl_syntax.proofs.Unique.Same.{SameOption, SameItems}
use Rattle.widl_syntax.proofs.Reading.{is_among, is_other}
use Rattle.widl_syntax.proofs.Unique.Ahead.{Keeps, NoneAhead, IsAhead, Anywhere, split, head, head_ahead, avoids, begins_else, first_keeps, ahead_among}
use Rattle.widl_syntax.proofs.Unique.Tells.{Tells, told, nothing_told, and_tells, word_told, word_then}

-- the signs do not stand at tokens that are E
pub record Excludes (E : List Lexeme → Type 0) (x : List Sign) : Type 0 where
  pub never : (w m : List Lexeme) → UnparsesTo x w m → E w → ⊥

-- signs that begin with the terminal, which is not ahead
pub not_without : (t : Terminal) (x : List Sign) → is_other (head x) ≡ false → head x ≡ t → Excludes (NoneAhead (t ∷ [])) x
not_without t x known e = record { never = λ w m s none. ahead_among t w (head_ahead x w m known s ∙ e) none.none }

pub not_without_any : (ts : List Terminal) (x : List Sign) → is_other (head x) ≡ false → is_among ts (head x) ≡ true → Excludes (NoneAhead ts) x
not_without_any ts x known among = record { never = λ w m s none. let bad : true ≡ false = sym among ∙ ap (is_among ts) (sym (head_ahead x w m known s)) ∙ none.none in cc }

-- signs that begin with another terminal than the one ahead
pub not_before : {t : Terminal} {x : List Sign} → Keeps (NoneAhead (t ∷ [])) Anywhere x → Excludes (IsAhead t) x
not_before {t} k = record { never = λ w m s is. ahead_among t w is.ahead (k.keeps w m s tt).none }

pub begins_another : (t : Terminal) (x : List Sign) → avoids x (t ∷ []) ≡ true → Excludes (IsAhead t) x
begins_another t x h = not_before (begins_else x (t ∷ []) h)

pub first_excludes : {E : List Lexeme → Type 0} {x : List Sign} (y : List Sign) → Excludes E x → Excludes E (x ++ y)
first_excludes {E} {x} y k = record { never = λ w m s e. let a = split x y w m s in k.never w a.0 a.1 e }

-- signs against none
pub some_none : {P : Type 0} {E : List Lexeme → Type 0} {x : List Sign} → Excludes E x → Tells P E x []
some_none {P} {E} k = record { tells = λ w m n s r em en. absurd (k.never w m s (subst E (sym r) en)) }

pub none_some : {P : Type 0} {E : List Lexeme → Type 0} {x : List Sign} → Excludes E x → Tells P E [] x
none_some {P} {E} k = record { tells = λ w m n s r em en. absurd (k.never w n r (subst E (sym s) em)) }

-- a word that may be left out
pub word_if_tells : (t : Terminal) (a b : Bool) → is_other t ≡ false → Tells (a ≡ b) (NoneAhead (t ∷ [])) (word_if a t) (word_if b t)
word_if_tells t true true known = told (word_told t) (λ u. refl)
word_if_tells t true false known = some_none (not_without t (word t) known refl)
word_if_tells t false true known = none_some (not_without t (word t) known refl)
word_if_tells t false false known = told nothing_told (λ u. refl)

pub word_if_keeps : {F : List Lexeme → Type 0} (t : Terminal) (b : Bool) (x : List Sign) (ts : List Terminal) → not (is_among ts t) ≡ true → Keeps (NoneAhead ts) F x → Keeps (NoneAhead ts) F (word_if b t ++ x)
word_if_keeps t true x ts h k = begins_else (OfTerminal t ∷ x) ts h
word_if_keeps t false x ts h k = k

-- a part that may be left out
pub option_tells : {X : Type 0} {E : List Lexeme → Type 0} {same : X → X → Type 0} (signs : Option X → List Sign) → signs None ≡ [] → ((x : X) → Excludes E (signs (Some x))) → ((x y : X) → Tells (same x y) E (signs (Some x)) (signs (Some y))) → (a b : Option X) → Tells (SameOption same a b) E (signs a) (signs b)
option_tells {X} {E} signs none begins tells None None = subst (λ s. Tells (Unit {0}) E s s) (sym none) nothing_told
option_tells {X} {E} signs none begins tells None (Some y) = subst (λ s. Tells ⊥ E s (signs (Some y))) (sym none) (none_some (begins y))
option_tells {X} {E} signs none begins tells (Some x) None = subst (λ s. Tells ⊥ E (signs (Some x)) s) (sym none) (some_none (begins x))
option_tells signs none begins tells (Some x) (Some y) = tells x y

-- items up to what is no item, where E may follow an item
pub record ItemsTell {X : Type 0} (E F : List Lexeme → Type 0) (one : X → List Sign) (same : X → X → Type 0) : Type 0 where
  pub last : (w : List Lexeme) → F w → E w
  pub next : (x : X) → Keeps E Anywhere (one x)
  pub begins : (x : X) → Excludes F (one x)
  pub tells : (x y : X) → Tells (same x y) E (one x) (one y)

after_item : {X : Type 0} {E F : List Lexeme → Type 0} {one : X → List Sign} {same : X → X → Type 0} → ItemsTell E F one same → (xs : List X) → Keeps E F (all_signs one xs)
after_item {X} {E} {F} known [] = record { keeps = λ w m s fm. subst E (sym s) (known.last m fm) }
after_item known (x ∷ xs) = first_keeps _ (known.next x)

pub items_tell : {X : Type 0} {E F : List Lexeme → Type 0} {one : X → List Sign} {same : X → X → Type 0} → ItemsTell E F one same → (xs ys : List X) → Tells (SameItems same xs ys) F (all_signs one xs) (all_signs one ys)
items_tell known [] [] = nothing_told
items_tell known [] (y ∷ ys) = none_some (first_excludes _ (known.begins y))
items_tell known (x ∷ xs) [] = some_none (first_excludes _ (known.begins x))
items_tell known (x ∷ xs) (y ∷ ys) = and_tells (known.tells x y) (items_tell known xs ys) (after_item known xs) (after_item known ys)

-- items with a separator between each two
pub record SeparatedTell {X : Type 0} (separator : Terminal) (E F : List Lexeme → Type 0) (one : X → List Sign) (same : X → X → Type 0) : Type 0 where
  pub last : (w : List Lexeme) → F w → E w
  pub next : (x : X) → Keeps E Anywhere (after separator one x)
  pub more : (x : X) → Excludes F (after separator one x)
  pub begins : (x : X) → Excludes F (one x)
  pub tells : (x y : X) → Tells (same x y) E (one x) (one y)

more_items : {X : Type 0} {separator : Terminal} {E F : List Lexeme → Type 0} {one : X → List Sign} {same : X → X → Type 0} → SeparatedTell separator E F one same → ItemsTell E F (after separator one) same
more_items {separator = separator} known = record { last = known.last; next = known.next; begins = known.more; tells = λ x y. word_then separator (known.tells x y) }

pub separated_tell : {X : Type 0} {separator : Terminal} {E F : List Lexeme → Type 0} {one : X → List Sign} {same : X → X → Type 0} → SeparatedTell separator E F one same → (xs ys : List X) → Tells (SameItems same xs ys) F (separated separator one xs) (separated separator one ys)
separated_tell known [] [] = nothing_told
separated_tell known [] (y ∷ ys) = none_some (first_excludes _ (known.begins y))
separated_tell known (x ∷ xs) [] = some_none (first_excludes _ (known.begins x))
separated_tell known (x ∷ xs) (y ∷ ys) =
    let items = more_items known in
    and_tells (known.tells x y) (items_tell items xs ys) (after_item items xs) (after_item items ys)
