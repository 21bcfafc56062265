-- The spellings of the terminals are the texts that tokens can be quoted as, by a test that the checker computes.
use Rattle.std.proofs.Common.{◌≡◌, ℕ, Bool, true, false, Option, Some, None, List, [], ◌∷◌, refl, sym, ap, subst}
use Rattle.std.proofs.lemmas.Map.Views.{Contains-from_any}
use Rattle.std.proofs.lemmas.Slice.Eq.{bytes_eq-Decides}
use Rattle.std.specs.List.{find, list_any}
use Rattle.std.specs.Prelude.{cond}
use Rattle.std.specs.Str.{bytes_eq}
use Rattle.widl_lex.specs.Quoted.{quoted_terminals, IsQuoted}
use Rattle.widl_predictive.proofs.Check.{each, each_coded}
use Rattle.widl_grammar.specs.declared.terminal.Terminal.{Terminal}
use Rattle.widl_grammar.specs.Terminals.{terminals, all_terminals}
use Rattle.widl_grammar.specs.Words.{spelling, is_spelled, quoted, quoted_among, beginning}

same_bytes : (x y : List ℕ) → bytes_eq x y ≡ true → x ≡ y
same_bytes x y h = (bytes_eq-Decides x y).0 h

is_known : Option (List ℕ) → Bool
is_known None = true
is_known (Some text) = list_any (bytes_eq text) quoted_terminals

all_known : each (λ t. is_known (spelling t)) all_terminals ≡ true
unfolding each is_known
all_known = refl

pub spelled_quoted : (t : Terminal) (text : List ℕ) → spelling t ≡ Some text → IsQuoted text
unfolding is_known
spelled_quoted t text e =
    let known : is_known (Some text) ≡ true = subst (λ o. is_known o ≡ true) e (each_coded terminals (λ u. is_known (spelling u)) all_known t) in
    Contains-from_any same_bytes text quoted_terminals known

found_passes : {X : Type 0} (p : X → Bool) (xs : List X) (x : X) → find p xs ≡ Some x → p x ≡ true
found_passes p [] x e = cc
found_passes p (y ∷ xs) x e = by (λ h. found_passes p xs x h) (p y) refl e
  where
    by : (find p xs ≡ Some x → p x ≡ true) → (b : Bool) → p y ≡ b → cond b (Some y) (find p xs) ≡ Some x → p x ≡ true
    by later true q h = let same : y ≡ x = cc in subst (λ z. p z ≡ true) same q
    by later false q h = later h

spelled_as : (o : Option (List ℕ)) (text : List ℕ) → is_spelled o text ≡ true → o ≡ Some text
spelled_as None text h = cc
spelled_as (Some x) text h = ap Some (same_bytes x text h)

pub quoted_spelled : (t : Terminal) (text : List ℕ) → quoted text ≡ Some t → spelling t ≡ Some text
quoted_spelled t [] e = cc
quoted_spelled t (b ∷ more) e = spelled_as (spelling t) (b ∷ more) (found_passes (λ u. is_spelled (spelling u) (b ∷ more)) (beginning b) t e)
