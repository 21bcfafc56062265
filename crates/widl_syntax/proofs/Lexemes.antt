-- The tokens from one of them on.
use Rattle.std.proofs.Common.{◌≡◌, ℕ, zero, suc, ◌+◌, ◌<◌, ◌≤◌, List, [], ◌∷◌, Some, None, length, length-drop, get_or, drop, refl, sym, ◌∙◌, ap, subst, arith, ltb, ltb-true, ltb-false, Bool, true, false}
use Rattle.std.proofs.lemmas.List.{length-map}
use Rattle.std.specs.Prelude.{slice_get, map}
use Rattle.widl_predictive.specs.Predictive.{ahead}
use Rattle.widl_lex.specs.Tokens.{Lexeme}
use Rattle.widl_grammar.specs.declared.terminal.Terminal.{Terminal}
use Rattle.widl_grammar.specs.declared.terminal.Terminal.TheVariants.{Other}
use Rattle.widl_grammar.specs.Source.{terminal_of}
use Rattle.widl_syntax.specs.Reading.{terminal_ahead, IfAhead}

drop_at : (ls : List Lexeme) (k : ℕ) (l : Lexeme) → slice_get ls k ≡ Some l → (rest : List Lexeme) × (drop k ls ≡ l ∷ rest)
drop_at [] k l e = cc
drop_at (m ∷ ls) zero l e = let h : m ≡ l = cc in (ls, ap (λ u. u ∷ ls) h)
drop_at (m ∷ ls) (suc k) l e = drop_at ls k l e

pub if_ahead : (ls whole : List Lexeme) (k : ℕ) (l : Lexeme) (P : Lexeme → Type 0) → slice_get ls k ≡ Some l → drop k ls ≡ whole → P l → IfAhead whole P
if_ahead ls whole k l P e is h = let d = drop_at ls k l e in subst (λ w. IfAhead w P) (sym d.1 ∙ is) h

past : (ls : List Lexeme) (k : ℕ) → length ls ≤ k → drop k ls ≡ []
past [] zero le = refl
past [] (suc k) le = refl
past (l ∷ ls) zero le = absurd (omega arith)
past (l ∷ ls) (suc k) le = past ls k (omega arith)

pub if_ahead_none : (ls whole : List Lexeme) (k : ℕ) (P : Lexeme → Type 0) → length ls ≤ k → drop k ls ≡ whole → IfAhead whole P
if_ahead_none ls whole k P le is = subst (λ w. IfAhead w P) (sym (past ls k le) ∙ is) tt

ahead_none : (ls : List Lexeme) (k : ℕ) → length ls ≤ k → Other ≡ terminal_ahead (drop k ls)
ahead_none ls k le = ap terminal_ahead (sym (past ls k le))

-- the terminal of that number, in the list of the terminals of the tokens
within_tokens : (ls : List Lexeme) (k : ℕ) (d : Terminal) → k < length ls → get_or (map terminal_of ls) k d ≡ terminal_ahead (drop k ls)
within_tokens [] k d lt = absurd (omega arith)
within_tokens (l ∷ ls) zero d lt = refl
within_tokens (l ∷ ls) (suc k) d lt = within_tokens ls k d (omega arith)

as_many : (ts : List Terminal) (ls : List Lexeme) → ts ≡ map terminal_of ls → length ts ≡ length ls
as_many ts ls e = ap length e ∙ length-map ls terminal_of

pub terminal_within : (ts : List Terminal) (ls : List Lexeme) (k : ℕ) (d : Terminal) → ts ≡ map terminal_of ls → k < length ts → get_or ts k d ≡ terminal_ahead (drop k ls)
terminal_within ts ls k d e lt = ap (λ x. get_or x k d) e ∙ within_tokens ls k d (omega (arith, lt, as_many ts ls e))

pub terminal_past : (ts : List Terminal) (ls : List Lexeme) (k : ℕ) → ts ≡ map terminal_of ls → length ts ≤ k → Other ≡ terminal_ahead (drop k ls)
terminal_past ts ls k e le = ahead_none ls k (omega (arith, le, as_many ts ls e))

drop_one : (ls : List Lexeme) (k : ℕ) → drop (suc k) ls ≡ drop 1 (drop k ls)
drop_one [] zero = refl
drop_one [] (suc k) = refl
drop_one (l ∷ ls) zero = refl
drop_one (l ∷ ls) (suc k) = drop_one ls k

-- one token further
pub further : (ls whole : List Lexeme) (k next : ℕ) → (k < length ls → next ≡ k + 1) → (length ls ≤ k → next ≡ length ls) → drop k ls ≡ whole → drop next ls ≡ drop 1 whole
further ls whole k next within outside is = go (ltb k (length ls)) refl ∙ ap (drop 1) is
  where
    go : (b : Bool) → ltb k (length ls) ≡ b → drop next ls ≡ drop 1 (drop k ls)
    go true e = let n : next ≡ suc k = omega (arith, within (ltb-true k (length ls) e)) in ap (λ i. drop i ls) n ∙ drop_one ls k
    go false e = let le : length ls ≤ k = ltb-false k (length ls) e in let n : next ≡ length ls = outside le in past ls next (omega arith) ∙ ap (drop 1) (sym (past ls k le))

-- the terminal ahead, or none at the end
some_ahead : (whole : List Lexeme) (t : Terminal) → 1 ≤ length whole → t ≡ terminal_ahead whole → Some t ≡ ahead (map terminal_of whole)
some_ahead [] t le e = absurd (omega arith)
some_ahead (l ∷ whole) t le e = ap Some e

left_length : (ls : List Lexeme) (k : ℕ) → k < length ls → 1 ≤ length (drop k ls)
left_length ls k lt = omega (arith, length-drop k ls)

pub ahead_some : (ls whole : List Lexeme) (k : ℕ) (t : Terminal) → k < length ls → drop k ls ≡ whole → t ≡ terminal_ahead (drop k ls) → Some t ≡ ahead (map terminal_of whole)
ahead_some ls whole k t lt is e = some_ahead whole t (subst (λ w. 1 ≤ length w) is (left_length ls k lt)) (e ∙ ap terminal_ahead is)

pub ahead_end : (ls whole : List Lexeme) (k : ℕ) → length ls ≤ k → drop k ls ≡ whole → None ≡ ahead (map terminal_of whole)
ahead_end ls whole k le is = ap (λ w. ahead (map terminal_of w)) (sym (past ls k le) ∙ is)
