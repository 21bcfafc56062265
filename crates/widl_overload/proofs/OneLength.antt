-- The tuples of one length in an effective overload set.
use Rattle.std.proofs.Common.{◌≡◌, ◌⊎◌, inl, inr, ℕ, zero, suc, ◌+◌, ◌-◌, ◌<◌, ◌≤◌, ◌++◌, Bool, true, false, cond, max, List, [], ◌∷◌, length, replicate, nat_eq, nat_lt, arith, refl, sym, ap, ◌∙◌, append-nil}
use Rattle.std.specs.Prelude.{Option, None, Some, ◌≢◌}
use Rattle.std.proofs.lemmas.Option.{same_Some}
use Rattle.std.proofs.lemmas.List.{length-append, length-map, length-replicate, length-take-le}
use Rattle.std.proofs.lemmas.List.Elements.{filter-append}
use Rattle.widl_idl.specs.DefinitionTerms.{ArgTerm, SigTerm}
use Rattle.widl_overload.specs.sets.Index.{has_length, of_one_length}
use Rattle.widl_overload.specs.sets.Sets.{TupleTerm, declared_types, effective_tuples, longer, longest, of_length, of_lengths, shorter, tuple_of, variadic_last, with_tuple}

none_some : {X : Type 0} (x : X) → None ≡ Some x → ⊥
none_some x e = cc

longer_length : (number : ℕ) (args : List ArgTerm) (count : ℕ) (last : Option ArgTerm) (t : TupleTerm) → longer number args count last ≡ Some t → length t.types ≡ length args + count
longer_length number args count None t e = absurd (none_some t e)
longer_length number args count (Some last) t e =
    ap (λ (u : TupleTerm). length u.types) (sym (same_Some _ t e))
    ∙ length-append (declared_types args) (replicate count last.ty)
    ∙ ap (λ n. n + length (replicate count last.ty)) (length-map args (λ (a : ArgTerm). a.ty))
    ∙ ap (λ n. length args + n) (length-replicate count last.ty)

shorter_length : (number : ℕ) (args : List ArgTerm) (m : ℕ) (t : TupleTerm) (free : Bool) (u : TupleTerm) → length u.types ≡ m → cond free (Some u) None ≡ Some t → length t.types ≡ m
shorter_length number args m t true u h e = ap (λ (v : TupleTerm). length v.types) (sym (same_Some u t e)) ∙ h
shorter_length number args m t false u h e = absurd (none_some t e)

by_length : (number : ℕ) (args : List ArgTerm) (m : ℕ) (t : TupleTerm) (b : Bool) → nat_lt (length args) m ≡ b → cond b (longer number args (m - length args) (variadic_last args)) (shorter number args m) ≡ Some t → length t.types ≡ m
by_length number args m t true below e =
    let h : length args < m = grind arith in
    let l : length t.types ≡ length args + (m - length args) = longer_length number args (m - length args) (variadic_last args) t e in
    omega arith
by_length number args m t false above e =
    let h : m ≤ length args = grind arith in
    let size : length (declared_types args) ≡ length args = length-map args (λ (a : ArgTerm). a.ty) in
    shorter_length number args m t _ _ (length-take-le m (declared_types args) (omega arith)) e

-- the tuple of a length has that length
pub tuple_length : (number : ℕ) (args : List ArgTerm) (m : ℕ) (t : TupleTerm) → tuple_of number args m ≡ Some t → length t.types ≡ m
tuple_length number args m t e = by_length number args m t (nat_lt (length args) m) refl e

has_own : (t : TupleTerm) (m : ℕ) → length t.types ≡ m → has_length m t ≡ true
has_own t m e = grind arith

has_other : (t : TupleTerm) (k m : ℕ) → length t.types ≡ k → k ≢ m → has_length m t ≡ false
has_other t k m e ne = grind arith

kept_one : (o : Option TupleTerm) (m : ℕ) (rest : List TupleTerm) → ((t : TupleTerm) → o ≡ Some t → length t.types ≡ m) → of_one_length m (with_tuple o rest) ≡ with_tuple o (of_one_length m rest)
kept_one None m rest h = refl
kept_one (Some t) m rest h = ap (λ b. cond b (t ∷ of_one_length m rest) (of_one_length m rest)) (has_own t m (h t refl))

left_one : (o : Option TupleTerm) (k m : ℕ) (rest : List TupleTerm) → k ≢ m → ((t : TupleTerm) → o ≡ Some t → length t.types ≡ k) → of_one_length m (with_tuple o rest) ≡ of_one_length m rest
left_one None k m rest ne h = refl
left_one (Some t) k m rest ne h = ap (λ b. cond b (t ∷ of_one_length m rest) (of_one_length m rest)) (has_other t k m (h t refl) ne)

-- the tuples of a length all have it
pub all_kept : (sigs : List SigTerm) (m number : ℕ) → of_one_length m (of_length m number sigs) ≡ of_length m number sigs
all_kept [] m number = refl
all_kept (s ∷ sigs) m number = kept_one (tuple_of number s.args m) m (of_length m (number + 1) sigs) (λ t e. tuple_length number s.args m t e) ∙ ap (with_tuple (tuple_of number s.args m)) (all_kept sigs m (number + 1))

all_left : (sigs : List SigTerm) (k m number : ℕ) → k ≢ m → of_one_length m (of_length k number sigs) ≡ []
all_left [] k m number ne = refl
all_left (s ∷ sigs) k m number ne = left_one (tuple_of number s.args k) k m (of_length k (number + 1) sigs) ne (λ t e. tuple_length number s.args k t e) ∙ all_left sigs k m (number + 1) ne

none_of_length : (count low m : ℕ) (sigs : List SigTerm) → (m < low) ⊎ (low + count ≤ m) → of_one_length m (of_lengths low count sigs) ≡ []
none_of_length zero low m sigs h = refl
none_of_length (suc count) low m sigs h =
    let ne : low ≢ m = omega (arith, h) in
    filter-append (has_length m) (of_length low 0 sigs) (of_lengths (low + 1) count sigs)
    ∙ (λ i. all_left sigs low m 0 ne i ++ none_of_length count (low + 1) m sigs (next low count m h) i)
  where
    next : (low count m : ℕ) → (m < low) ⊎ (low + suc count ≤ m) → (m < low + 1) ⊎ (low + 1 + count ≤ m)
    next low count m (inl h) = inl (omega arith)
    next low count m (inr h) = inr (omega arith)

those_of_length : (count low m : ℕ) (sigs : List SigTerm) → low ≤ m → m < low + count → of_one_length m (of_lengths low count sigs) ≡ of_length m 0 sigs
those_of_length zero low m sigs above below = absurd (omega arith)
those_of_length (suc count) low m sigs above below =
    let split : of_one_length m (of_lengths low (suc count) sigs) ≡ of_one_length m (of_length low 0 sigs) ++ of_one_length m (of_lengths (low + 1) count sigs) = filter-append (has_length m) (of_length low 0 sigs) (of_lengths (low + 1) count sigs) in
    split ∙ by_place (nat_eq low m) refl (λ ne. those_of_length count (low + 1) m sigs (omega (arith, ne)) (omega arith))
  where
    by_place : (b : Bool) → nat_eq low m ≡ b → (low ≢ m → of_one_length m (of_lengths (low + 1) count sigs) ≡ of_length m 0 sigs) → of_one_length m (of_length low 0 sigs) ++ of_one_length m (of_lengths (low + 1) count sigs) ≡ of_length m 0 sigs
    by_place true t later =
        let e : low ≡ m = grind arith in
        ap (λ tuples. of_one_length m (of_length low 0 sigs) ++ tuples) (none_of_length count (low + 1) m sigs (inl (omega arith)))
        ∙ append-nil (of_one_length m (of_length low 0 sigs))
        ∙ ap (λ k. of_one_length m (of_length k 0 sigs)) e
        ∙ all_kept sigs m 0
    by_place false f later =
        let ne : low ≢ m = grind arith in
        ap (λ tuples. tuples ++ of_one_length m (of_lengths (low + 1) count sigs)) (all_left sigs low m 0 ne) ∙ later ne

-- of a length up to that of the longest list of arguments
pub of_this_length : (sigs : List SigTerm) (m : ℕ) → m ≤ longest sigs → of_one_length m (effective_tuples sigs 0) ≡ of_length m 0 sigs
of_this_length sigs m within = those_of_length (max (longest sigs) 0 + 1) 0 m sigs (omega arith) (omega arith)

-- beyond there are none
pub none_beyond : (sigs : List SigTerm) (m : ℕ) → longest sigs < m → of_one_length m (effective_tuples sigs 0) ≡ []
none_beyond sigs m beyond = none_of_length (max (longest sigs) 0 + 1) 0 m sigs (inr (omega arith))

with_tuple_few : (o : Option TupleTerm) (rest : List TupleTerm) (n : ℕ) → length rest ≤ n → length (with_tuple o rest) ≤ suc n
with_tuple_few None rest n h = omega arith
with_tuple_few (Some t) rest n h = omega arith

of_length_few : (sigs : List SigTerm) (m number : ℕ) → length (of_length m number sigs) ≤ length sigs
of_length_few [] m number = omega arith
of_length_few (s ∷ sigs) m number = with_tuple_few (tuple_of number s.args m) (of_length m (number + 1) sigs) (length sigs) (of_length_few sigs m (number + 1))

-- no more tuples of a length than overloads
pub no_more : (sigs : List SigTerm) (m : ℕ) → length (of_one_length m (effective_tuples sigs 0)) ≤ length sigs
no_more sigs m = by_test (nat_lt (longest sigs) m) refl
  where
    by_test : (b : Bool) → nat_lt (longest sigs) m ≡ b → length (of_one_length m (effective_tuples sigs 0)) ≤ length sigs
    by_test true e = let beyond : longest sigs < m = grind arith in let none = ap length (none_beyond sigs m beyond) in omega arith
    by_test false e = let within : m ≤ longest sigs = grind arith in let these = ap length (of_this_length sigs m within) in omega (arith, of_length_few sigs m 0)
