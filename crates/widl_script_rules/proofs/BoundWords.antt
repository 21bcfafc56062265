-- What lines bind, line by line.
use Rattle.std.proofs.Common.{◌≡◌, ℕ, suc, ◌+◌, ◌<◌, ◌≤◌, Bool, true, false, ◌&&◌, ◌||◌, List, [], ◌∷◌, ◌++◌, take, slice_get, flat_map, Option, Some, None, option_map, refl, sym, ◌∙◌, ap, arith, cond, if◌then◌else◌, nat_lt, nat_eq, ltb-true, ltb-false, lt-ltb, eqb-true, eq-eqb, true≢false}
use Rattle.std.specs.Prelude.{bytes_eq}
use Rattle.std.specs.Option.{option_eq}
use Rattle.std.proofs.lemmas.List.Folds.{list_any-append}
use Rattle.widl_lines.specs.Words.{Lexeme}
use Rattle.widl_lines.specs.TextBreaks.{Line}
use Rattle.widl_script_rules.specs.Names.{bound_in, bound_where, function_name, functions_outside, globals_of, has_name, same_line, stands_in}
use Rattle.widl_script_rules.specs.Standings.{Standing, standings}
use Rattle.widl_script_rules.specs.Surroundings.{around_at, bound_by_global}
use Rattle.widl_script_rules.proofs.FirstPlaces.{standing_at, taken_next}
use Rattle.widl_script_rules.proofs.OwnerTexts.{or_none, same_turned}

-- 1. Tests

or_crossed : (a f x y : Bool) → ((a || f) || (x || y)) ≡ ((a || x) || (f || y))
or_crossed true f x y = refl
or_crossed false true true y = refl
or_crossed false true false y = refl
or_crossed false false x y = refl

-- what is added under a test is found under it
pub or_under : (a n b x : Bool) → ((a || (n && b)) || (n && x)) ≡ (a || (n && (b || x)))
or_under true n b x = refl
or_under false true b x = refl
or_under false false b x = refl

-- nothing is found under a test yet
pub none_under : (a n : Bool) → a ≡ (a || (n && false))
none_under true n = refl
none_under false true = refl
none_under false false = refl

-- a word is found where it is asked for
pub found_if : (b : Bool) (w : Lexeme) (text : List ℕ) → (b && bytes_eq text w.text) ≡ has_name (if b then w ∷ [] else []) text
found_if true w text = sym (or_none (bytes_eq text w.text))
found_if false w text = refl

pub number_turned : (a b : ℕ) → nat_eq a b ≡ nat_eq b a
number_turned a b = by (nat_eq a b) refl (nat_eq b a) refl
  where
    by : (c : Bool) → nat_eq a b ≡ c → (d : Bool) → nat_eq b a ≡ d → c ≡ d
    by true e true f = refl
    by false e false f = refl
    by true e false f = absurd (true≢false (sym (eq-eqb b a (sym (eqb-true a b e))) ∙ f))
    by false e true f = absurd (true≢false (sym (eq-eqb a b (sym (eqb-true b a f))) ∙ e))

-- a pair that was put is found by its number and its text
pub pair_turned : (number place : ℕ) (text name : List ℕ) (b : Bool) → cond (nat_eq place number && bytes_eq name text) true b ≡ (b || (nat_eq number place && bytes_eq text name))
pair_turned number place text name b =
    ap (λ n. cond (n && bytes_eq name text) true b) (number_turned place number) ∙ ap (λ t. cond (nat_eq number place && t) true b) (same_turned name text) ∙ turned (nat_eq number place && bytes_eq text name) b
  where
    turned : (t c : Bool) → cond t true c ≡ (c || t)
    turned true true = refl
    turned true false = refl
    turned false true = refl
    turned false false = refl

-- parameters of the lines up to a place, and of the line there
pub next_opening : (p k : ℕ) (a b : Bool) → (p ≡ k → a ≡ b) → ((nat_lt p k && a) || (nat_eq p k && b)) ≡ (nat_lt p (k + 1) && a)
next_opening p k a b same = by (nat_lt p k) refl (nat_eq p k) refl
  where
    by : (c : Bool) → nat_lt p k ≡ c → (d : Bool) → nat_eq p k ≡ d → ((c && a) || (d && b)) ≡ (nat_lt p (k + 1) && a)
    by true e true f = absurd (omega (arith, ltb-true p k e, eqb-true p k f))
    by true e false f =
        let low : nat_lt p (k + 1) ≡ true = lt-ltb p (k + 1) (omega (arith, ltb-true p k e)) in
        or_none a ∙ ap (λ c. c && a) (sym low)
    by false e true f =
        let low : nat_lt p (k + 1) ≡ true = lt-ltb p (k + 1) (omega (arith, eqb-true p k f)) in
        sym (same (eqb-true p k f)) ∙ ap (λ c. c && a) (sym low)
    by false e false f = high (nat_lt p (k + 1)) refl
      where
        high : (c : Bool) → nat_lt p (k + 1) ≡ c → false ≡ (c && a)
        high false g = refl
        high true g =
            let low : p < k + 1 = ltb-true p (k + 1) g in
            let far : k ≤ p = ltb-false p k e in
            let here : p ≡ k = omega (arith, low, far) in
            absurd (true≢false (sym (eq-eqb p k here) ∙ f))

-- 2. Lines

-- the names of the lines up to a place, and of the line there
pub names_next : (f : Standing → List Lexeme) (lines : List Line) (k : ℕ) (line : Line) (text : List ℕ) → slice_get lines k ≡ Some line →
    has_name (flat_map f (take (k + 1) (standings lines))) text ≡ (has_name (flat_map f (take k (standings lines))) text || has_name (f (record { around = around_at lines k; line = line })) text)
names_next f lines k line text is =
    let s : Standing = record { around = around_at lines k; line = line } in
    let one : k + 1 ≡ suc k = omega arith in
    ap (λ n. has_name (flat_map f (take n (standings lines))) text) one
    ∙ ap (λ ws. has_name ws text) (taken_next f (standings lines) k s (standing_at lines k line is))
    ∙ list_any-append (λ (w : Lexeme). bytes_eq text w.text) (flat_map f (take k (standings lines))) (f s)

pub both_names : (a b : List Lexeme) (text : List ℕ) → has_name (a ++ b) text ≡ (has_name a text || has_name b text)
both_names a b text = list_any-append (λ (w : Lexeme). bytes_eq text w.text) a b

-- a line stands in a function by the number of the line that opens it
pub same_function : (function : Line) (o : Option Line) → option_eq nat_eq (Some function.number) (option_map (λ (l : Line). l.number) o) ≡ option_eq same_line (Some function) o
same_function function None = refl
same_function function (Some opening) = refl

abbrev bound : Standing → Bool → List Lexeme
bound s b = if b then bound_in s.line else []

abbrev named : Standing → Bool → List Lexeme
named s b = if b then function_name s.line else []

-- line by line, or `let` and `catch` first
pub all_globals : (script : List Standing) (text : List ℕ) → has_name (flat_map bound_by_global script) text ≡ has_name (globals_of script) text
all_globals [] text = refl
all_globals (s ∷ script) text =
    both_names (bound_by_global s) (flat_map bound_by_global script) text
    ∙ ap (λ b. b || has_name (flat_map bound_by_global script) text) (line_names (stands_in None s))
    ∙ ap (λ b. (has_name (bound s (stands_in None s)) text || has_name (named s (stands_in None s)) text) || b) (all_globals script text ∙ both_names (bound_where script None) (functions_outside script) text)
    ∙ or_crossed (has_name (bound s (stands_in None s)) text) (has_name (named s (stands_in None s)) text) (has_name (bound_where script None) text) (has_name (functions_outside script) text)
    ∙ sym (both_names (bound_where (s ∷ script) None) (functions_outside (s ∷ script)) text
    ∙ ap (λ b. b || has_name (functions_outside (s ∷ script)) text) (both_names (bound s (stands_in None s)) (bound_where script None) text)
    ∙ ap (λ b. (has_name (bound s (stands_in None s)) text || has_name (bound_where script None) text) || b) (both_names (named s (stands_in None s)) (functions_outside script) text))
  where
    line_names : (b : Bool) → has_name (if b then bound_in s.line ++ function_name s.line else []) text ≡ (has_name (bound s b) text || has_name (named s b) text)
    line_names true = both_names (bound_in s.line) (function_name s.line) text
    line_names false = refl
