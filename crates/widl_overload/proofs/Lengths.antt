-- Effective overload sets, a length at a time.
use Rattle.std.proofs.Common.{◌≡◌, ℕ, ◌+◌, ◌-◌, ◌<◌, ◌++◌, ◌||◌, Bool, true, false, zero, suc, max, cond, List, [], ◌∷◌, length, take, get_or, nat_lt, arith, refl, sym, ap, subst, ◌∙◌, append-nil}
use Rattle.std.specs.Prelude.{Option, None, Some, is_some}
use Rattle.std.specs.List.{list_any}
use Rattle.std.proofs.lemmas.List.{append_assoc, take_more}
use Rattle.widl_idl.specs.DefinitionTerms.{ArgTerm, SigTerm}
use Rattle.widl_overload.specs.sets.Sets.{AreNumbered, TupleTerm, effective_tuples, has_variadic, longer, longest, of_length, of_lengths, shorter, tuple_of, variadic_last, with_tuple}

-- the argument list of an overload at a place is short enough to be numbered
pub args_few : (sigs : List SigTerm) (i : ℕ) (s : SigTerm) → AreNumbered sigs → i < length sigs → s ≡ get_or sigs i s → length s.args < 4294967296
args_few sigs i s numbered below is = let P : SigTerm → Type 0 = λ u. length u.args < 4294967296 in subst P (sym is) (numbered.each i s below)

longest-append : (sigs : List SigTerm) (s : SigTerm) → longest (sigs ++ s ∷ []) ≡ max (longest sigs) (length s.args)
longest-append [] s = omega arith
longest-append (u ∷ sigs) s = omega (arith, longest-append sigs s)

pub longest_more : (sigs : List SigTerm) (i : ℕ) (s : SigTerm) → i < length sigs → s ≡ get_or sigs i s → longest (take (i + 1) sigs) ≡ max (longest (take i sigs)) (length s.args)
longest_more sigs i s below is = ap longest (take_more sigs i s below ∙ ap (λ u. take i sigs ++ u ∷ []) (sym is)) ∙ longest-append (take i sigs) s

pub length_step : (sigs : List SigTerm) (m most : ℕ) (old new whole : List TupleTerm) → m < most + 1 → new ≡ old ++ of_length m 0 sigs → old ++ of_lengths m (most + 1 - m) sigs ≡ whole → new ++ of_lengths (m + 1) (most + 1 - (m + 1)) sigs ≡ whole
length_step sigs m most old new whole below added so =
    let left : most + 1 - m ≡ suc (most + 1 - (m + 1)) = omega (arith, below) in
    ap (λ set. set ++ of_lengths (m + 1) (most + 1 - (m + 1)) sigs) added ∙ append_assoc old (of_length m 0 sigs) (of_lengths (m + 1) (most + 1 - (m + 1)) sigs)
    ∙ ap (λ k. old ++ of_lengths m k sigs) (sym left) ∙ so

of_lengths-+ : (a b m : ℕ) (sigs : List SigTerm) → of_lengths m (a + b) sigs ≡ of_lengths m a sigs ++ of_lengths (m + a) b sigs
of_lengths-+ zero b m sigs = let e : 0 + b ≡ b = omega arith in let f : m ≡ m + 0 = omega arith in ap (λ k. of_lengths m k sigs) e ∙ ap (λ k. of_lengths k b sigs) f
of_lengths-+ (suc a) b m sigs =
    let e : suc a + b ≡ suc (a + b) = omega arith in
    let f : m + 1 + a ≡ m + suc a = omega arith in
    ap (λ k. of_lengths m k sigs) e ∙ ap (λ tuples. of_length m 0 sigs ++ tuples) (of_lengths-+ a b (m + 1) sigs ∙ ap (λ k. of_lengths (m + 1) a sigs ++ of_lengths k b sigs) f)
    ∙ sym (append_assoc (of_length m 0 sigs) (of_lengths (m + 1) a sigs) (of_lengths (m + suc a) b sigs))

-- an overload that isn't variadic has no tuple beyond its arguments
no_longer : (number : ℕ) (args : List ArgTerm) (count : ℕ) (last : Option ArgTerm) → is_some last ≡ false → longer number args count last ≡ None
no_longer number args count None h = refl
no_longer number args count (Some last) h = cc

no_tuple : (number : ℕ) (args : List ArgTerm) (m : ℕ) → length args < m → is_some (variadic_last args) ≡ false → tuple_of number args m ≡ None
no_tuple number args m below h =
    let beyond : nat_lt (length args) m ≡ true = grind arith in
    ap (λ b. cond b (longer number args (m - length args) (variadic_last args)) (shorter number args m)) beyond ∙ no_longer number args (m - length args) (variadic_last args) h

or_left : (a b : Bool) → (a || b) ≡ false → a ≡ false
or_left true b h = cc
or_left false b h = refl

or_right : (a b : Bool) → (a || b) ≡ false → b ≡ false
or_right true b h = cc
or_right false b h = h

none_of_length : (sigs : List SigTerm) (m number : ℕ) → longest sigs < m → list_any has_variadic sigs ≡ false → of_length m number sigs ≡ []
none_of_length [] m number below h = refl
none_of_length (s ∷ sigs) m number below h =
    let here : length s.args < m = omega arith in
    let rest : longest sigs < m = omega arith in
    ap (λ t. with_tuple t (of_length m (number + 1) sigs)) (no_tuple number s.args m here (or_left (has_variadic s) (list_any has_variadic sigs) h))
    ∙ none_of_length sigs m (number + 1) rest (or_right (has_variadic s) (list_any has_variadic sigs) h)

none_of_lengths : (count m : ℕ) (sigs : List SigTerm) → longest sigs < m → list_any has_variadic sigs ≡ false → of_lengths m count sigs ≡ []
none_of_lengths zero m sigs below h = refl
none_of_lengths (suc count) m sigs below h = let next : longest sigs < m + 1 = omega arith in (λ i. none_of_length sigs m 0 below h i ++ none_of_lengths count (m + 1) sigs next h i)

-- where no overload is variadic the longest list of arguments has the last tuples
pub all_lengths : (sigs : List SigTerm) (n most : ℕ) → most ≡ longest sigs → list_any has_variadic sigs ≡ false → of_lengths 0 (most + 1) sigs ≡ effective_tuples sigs n
all_lengths sigs n most is h =
    let e : max (longest sigs) n + 1 ≡ (most + 1) + (max (longest sigs) n - most) = omega arith in
    let below : longest sigs < 0 + (most + 1) = omega arith in
    sym (append-nil (of_lengths 0 (most + 1) sigs)) ∙ ap (λ tuples. of_lengths 0 (most + 1) sigs ++ tuples) (sym (none_of_lengths (max (longest sigs) n - most) (0 + (most + 1)) sigs below h))
    ∙ sym (of_lengths-+ (most + 1) (max (longest sigs) n - most) 0 sigs) ∙ ap (λ k. of_lengths 0 k sigs) (sym e)
