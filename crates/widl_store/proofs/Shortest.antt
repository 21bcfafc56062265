-- The least number of arguments is the length of the shortest tuple of the effective overload set.
use Rattle.std.proofs.Common.{◌≡◌, ℕ, zero, suc, ◌+◌, ◌-◌, ◌<◌, ◌≤◌, Bool, true, false, nat_eq, List, [], ◌∷◌, ◌++◌, length, drop, Option, None, Some, refl, sym, ap, subst, ◌∙◌, ◌⊎◌, inl, inr, true≢false, arith, map, if◌then◌else◌, length-append, length-take, take, replicate, max, eqb-true}
use borrow.Author.Tests.{ltb-true, ltb-false}
use Rattle.std.proofs.lemmas.Bool.{cases_lt}
use Rattle.std.proofs.lemmas.List.Elements.{Contains-append_cases, Contains-append_left, Contains-append_right}
use Rattle.widl_idl.specs.declared.argument.Optionality.TheVariants.{Variadic}
use Rattle.std.specs.Prelude.{◌&&◌, Contains, fold, min, nat_lt}
use Rattle.std.proofs.lemmas.List.{length-map, length-replicate}
use Rattle.widl_idl.specs.DefinitionTerms.{ArgTerm, SigTerm}
use Rattle.widl_overload.specs.sets.Sets.{TupleTerm, are_free, is_end, is_free, tuple_of, longer, shorter, variadic_last, with_tuple, of_length, of_lengths, effective_tuples, longest, declared_types, declared_opts}
use Rattle.widl_store.specs.Realm.{needed, needed_with, shortest}

needed_with_le : (free : Bool) (n : ℕ) → needed_with free n ≤ n + 1
needed_with_le false n = omega arith
needed_with_le true n = go (nat_eq n 0)
  where
    go : (b : Bool) → (if true && b then 0 else n + 1) ≤ n + 1
    go true = omega arith
    go false = omega arith

-- whether an argument before these may be left out
abbrev free_before : ArgTerm → List ArgTerm → Bool
free_before a args = is_free a.opt (is_end args)

same_end : (args : List ArgTerm) → is_end (declared_opts args) ≡ is_end args
same_end [] = refl
same_end (a ∷ args) = refl

all_free : (args : List ArgTerm) → are_free (declared_opts args) ≡ true → needed args ≡ 0
all_free [] h = refl
all_free (a ∷ args) h = go (free_before a args) refl (all_free args) (ap (λ end. is_free a.opt end && are_free (declared_opts args)) (sym (same_end args)) ∙ h)
  where
    go : (b : Bool) → free_before a args ≡ b → (are_free (declared_opts args) ≡ true → needed args ≡ 0) → (free_before a args && are_free (declared_opts args)) ≡ true → needed_with (free_before a args) (needed args) ≡ 0
    go true t rest all = ap (λ b. needed_with b (needed args)) t ∙ ap (needed_with true) (rest (ap (λ b. b && are_free (declared_opts args)) (sym t) ∙ all))
    go false t rest all = absurd (true≢false (sym all ∙ ap (λ b. b && are_free (declared_opts args)) t))

-- from a length on that all may be left out, no more are needed
needs_le : (args : List ArgTerm) (m : ℕ) → are_free (declared_opts (drop m args)) ≡ true → needed args ≤ m
needs_le [] m h = omega arith
needs_le (a ∷ args) zero h = omega (arith, all_free (a ∷ args) h)
needs_le (a ∷ args) (suc m) h = omega (arith, needed_with_le (free_before a args) (needed args), needs_le args m h)

from_min : (first x : ℕ) → (min first x ≡ first) ⊎ (min first x ≡ x)
from_min first x = elim (cases_lt first x) as (λ _. (min first x ≡ first) ⊎ (min first x ≡ x)) [ inl lt ↦ inl (omega arith) | inr ge ↦ inr (omega arith) ]

least_le_first : (first : ℕ) (xs : List ℕ) → fold min first xs ≤ first
least_le_first first [] = omega arith
least_le_first first (x ∷ xs) = omega (arith, least_le_first (min first x) xs)

least_le : (first : ℕ) (sigs : List SigTerm) (s : SigTerm) → Contains sigs s → fold min first (map (λ s. needed s.args) sigs) ≤ needed s.args
least_le first [] s (k, lt, is) = absurd (omega arith)
least_le first (x ∷ sigs) s (zero, lt, is) =
    let less = least_le_first (min first (needed x.args)) (map (λ s. needed s.args) sigs) in
    omega (arith, less, ap (λ y. needed y.args) is)
least_le first (x ∷ sigs) s (suc k, lt, is) = least_le (min first (needed x.args)) sigs s (k, omega arith, is)

-- no overload needed fewer
pub shortest_le : (sigs : List SigTerm) (s : SigTerm) → Contains sigs s → shortest sigs ≤ needed s.args
shortest_le [] s (k, lt, is) = absurd (omega arith)
shortest_le (x ∷ sigs) s (zero, lt, is) =
    let less = least_le_first (needed x.args) (map (λ s. needed s.args) sigs) in
    omega (arith, less, ap (λ y. needed y.args) is)
shortest_le (x ∷ sigs) s (suc k, lt, is) = least_le (needed x.args) sigs s (k, omega arith, is)

-- a tuple of a length has that length, and its overload needed no more
longer_length : (number : ℕ) (args : List ArgTerm) (m : ℕ) (last : Option ArgTerm) (t : TupleTerm) → length args < m → longer number args (m - length args) last ≡ Some t → length t.types ≡ m
longer_length number args m None t more e = absurd (let bad : None ≡ Some t = e in cc)
longer_length number args m (Some last) t more e =
    let types : declared_types args ++ replicate (m - length args) last.ty ≡ t.types = let f : Some (record { overload = number; types = declared_types args ++ replicate (m - length args) last.ty; opts = declared_opts args ++ replicate (m - length args) Variadic }) ≡ Some t = e in let g : record { overload = number; types = declared_types args ++ replicate (m - length args) last.ty; opts = declared_opts args ++ replicate (m - length args) Variadic } ≡ t = cc in ap (λ u. u.types) g in
    ap length (sym types) ∙ length-append (declared_types args) (replicate (m - length args) last.ty) ∙ (let a : length (declared_types args) ≡ length args = length-map args (λ a. a.ty) in let b : length (replicate (m - length args) last.ty) ≡ m - length args = length-replicate (m - length args) last.ty in omega arith)

shorter_length : (number : ℕ) (args : List ArgTerm) (m : ℕ) (t : TupleTerm) → m ≤ length args → shorter number args m ≡ Some t → (length t.types ≡ m) × (needed args ≤ m)
shorter_length number args m t few e = go (are_free (declared_opts (drop m args))) refl
  where
    go : (b : Bool) → are_free (declared_opts (drop m args)) ≡ b → (length t.types ≡ m) × (needed args ≤ m)
    go true h =
        let f : Some (record { overload = number; types = take m (declared_types args); opts = take m (declared_opts args) }) ≡ Some t = ap (λ b. if b then Some (record { overload = number; types = take m (declared_types args); opts = take m (declared_opts args) }) else None) (sym h) ∙ e in
        let g : record { overload = number; types = take m (declared_types args); opts = take m (declared_opts args) } ≡ t = cc in
        (ap (λ u. length u.types) (sym g) ∙ (let a : length (declared_types args) ≡ length args = length-map args (λ a. a.ty) in omega (arith, length-take m (declared_types args))), needs_le args m h)
    go false h = absurd (let bad : None ≡ Some t = ap (λ b. if b then Some (record { overload = number; types = take m (declared_types args); opts = take m (declared_opts args) }) else None) (sym h) ∙ e in cc)

needs_few : (args : List ArgTerm) → needed args ≤ length args
needs_few [] = omega arith
needs_few (a ∷ args) = omega (arith, needed_with_le (free_before a args) (needed args), needs_few args)

tuple_length : (number : ℕ) (args : List ArgTerm) (m : ℕ) (t : TupleTerm) → tuple_of number args m ≡ Some t → (length t.types ≡ m) × (needed args ≤ m)
tuple_length number args m t e = go (nat_lt (length args) m) refl
  where
    go : (b : Bool) → nat_lt (length args) m ≡ b → (length t.types ≡ m) × (needed args ≤ m)
    go true h =
        let more : length args < m = ltb-true (length args) m h in
        (longer_length number args m (variadic_last args) t more (ap (λ b. if b then longer number args (m - length args) (variadic_last args) else shorter number args m) (sym h) ∙ e), omega (arith, needs_few args))
    go false h = shorter_length number args m t (ltb-false (length args) m h) (ap (λ b. if b then longer number args (m - length args) (variadic_last args) else shorter number args m) (sym h) ∙ e)

in_with : (o : Option TupleTerm) (ts : List TupleTerm) (t : TupleTerm) → Contains (with_tuple o ts) t → (o ≡ Some t) ⊎ Contains ts t
in_with None ts t h = inr h
in_with (Some u) ts t (zero, lt, is) = inl (ap Some is)
in_with (Some u) ts t (suc k, lt, is) = inr (k, omega arith, is)

abbrev Needing : List SigTerm → TupleTerm → Type 0
Needing sigs t = (s : SigTerm) × Contains sigs s × (needed s.args ≤ length t.types)

of_length_in : (m number : ℕ) (sigs : List SigTerm) (t : TupleTerm) → Contains (of_length m number sigs) t → Needing sigs t
of_length_in m number [] t (k, lt, is) = absurd (omega arith)
of_length_in m number (x ∷ sigs) t h = go (in_with (tuple_of number x.args m) (of_length m (number + 1) sigs) t h) (of_length_in m (number + 1) sigs t)
  where
    go : (tuple_of number x.args m ≡ Some t) ⊎ Contains (of_length m (number + 1) sigs) t → (Contains (of_length m (number + 1) sigs) t → Needing sigs t) → Needing (x ∷ sigs) t
    go (inl here) rest = let r = tuple_length number x.args m t here in (x, (0, omega arith, refl), omega (arith, r.0, r.1))
    go (inr further) rest = let r = rest further in (r.0, (suc r.1.0, omega (arith, r.1.1), r.1.2), r.2)

of_lengths_in : (m count : ℕ) (sigs : List SigTerm) (t : TupleTerm) → Contains (of_lengths m count sigs) t → Needing sigs t
of_lengths_in m zero sigs t (k, lt, is) = absurd (omega arith)
of_lengths_in m (suc count) sigs t h = go (Contains-append_cases (of_length m 0 sigs) (of_lengths (m + 1) count sigs) t h) (of_lengths_in (m + 1) count sigs t)
  where
    go : Contains (of_length m 0 sigs) t ⊎ Contains (of_lengths (m + 1) count sigs) t → (Contains (of_lengths (m + 1) count sigs) t → Needing sigs t) → Needing sigs t
    go (inl here) rest = of_length_in m 0 sigs t here
    go (inr further) rest = rest further

-- no tuple is shorter
pub shortest_tuple : (sigs : List SigTerm) (n : ℕ) (t : TupleTerm) → Contains (effective_tuples sigs n) t → shortest sigs ≤ length t.types
shortest_tuple sigs n t h =
    let r = of_lengths_in 0 (max (longest sigs) n + 1) sigs t h in
    omega (arith, shortest_le sigs r.0 r.1, r.2)

-- one overload needed no more than the least
least_found : (first : ℕ) (sigs : List SigTerm) → (fold min first (map (λ s. needed s.args) sigs) ≡ first) ⊎ ((s : SigTerm) × Contains sigs s × (fold min first (map (λ s. needed s.args) sigs) ≡ needed s.args))
least_found first [] = inl refl
least_found first (x ∷ sigs) = go (least_found (min first (needed x.args)) sigs) (from_min first (needed x.args))
  where
    go : (fold min (min first (needed x.args)) (map (λ s. needed s.args) sigs) ≡ min first (needed x.args)) ⊎ ((s : SigTerm) × Contains sigs s × (fold min (min first (needed x.args)) (map (λ s. needed s.args) sigs) ≡ needed s.args)) → (min first (needed x.args) ≡ first) ⊎ (min first (needed x.args) ≡ needed x.args) → (fold min (min first (needed x.args)) (map (λ s. needed s.args) sigs) ≡ first) ⊎ ((s : SigTerm) × Contains (x ∷ sigs) s × (fold min (min first (needed x.args)) (map (λ s. needed s.args) sigs) ≡ needed s.args))
    go (inl e) (inl f) = inl (e ∙ f)
    go (inl e) (inr f) = inr (x, (0, omega arith, refl), e ∙ f)
    go (inr r) either = inr (r.0, (suc r.1.0, omega (arith, r.1.1), r.1.2), r.2)

shortest_found : (x : SigTerm) (sigs : List SigTerm) → (s : SigTerm) × Contains (x ∷ sigs) s × (shortest (x ∷ sigs) ≡ needed s.args)
shortest_found x sigs = go (least_found (needed x.args) sigs)
  where
    go : (fold min (needed x.args) (map (λ s. needed s.args) sigs) ≡ needed x.args) ⊎ ((s : SigTerm) × Contains sigs s × (fold min (needed x.args) (map (λ s. needed s.args) sigs) ≡ needed s.args)) → (s : SigTerm) × Contains (x ∷ sigs) s × (shortest (x ∷ sigs) ≡ needed s.args)
    go (inl e) = (x, (0, omega arith, refl), e)
    go (inr r) = (r.0, (suc r.1.0, omega (arith, r.1.1), r.1.2), r.2)

-- whether of an argument and those after it a call may leave out all from a place on
abbrev all_from : ArgTerm → List ArgTerm → ℕ → Bool
all_from a args k = are_free (declared_opts (drop k (a ∷ args)))

-- and it has a tuple of that length
free_from : (args : List ArgTerm) → are_free (declared_opts (drop (needed args) args)) ≡ true
free_from [] = refl
free_from (a ∷ args) = go (free_before a args) refl (nat_eq (needed args) 0) refl (free_from args)
  where
    go : (b : Bool) → free_before a args ≡ b → (z : Bool) → nat_eq (needed args) 0 ≡ z → are_free (declared_opts (drop (needed args) args)) ≡ true → all_from a args (needed_with (free_before a args) (needed args)) ≡ true
    go true t true z rest =
        ap (all_from a args) (ap (λ b. needed_with b (needed args)) t ∙ ap (λ c. if true && c then 0 else needed args + 1) z)
        ∙ ap (λ end. is_free a.opt end && are_free (declared_opts args)) (same_end args)
        ∙ ap (λ b. b && are_free (declared_opts args)) t
        ∙ ap (λ k. are_free (declared_opts (drop k args))) (sym (eqb-true (needed args) 0 z)) ∙ rest
    go true t false z rest =
        ap (all_from a args) (ap (λ b. needed_with b (needed args)) t ∙ ap (λ c. if true && c then 0 else needed args + 1) z ∙ (let e : needed args + 1 ≡ suc (needed args) = omega arith in e)) ∙ rest
    go false t c z rest =
        ap (all_from a args) (ap (λ b. needed_with b (needed args)) t ∙ (let e : needed args + 1 ≡ suc (needed args) = omega arith in e)) ∙ rest

in_more : (o : Option TupleTerm) (ts : List TupleTerm) (t : TupleTerm) → Contains ts t → Contains (with_tuple o ts) t
in_more None ts t h = h
in_more (Some u) ts t (k, lt, is) = (suc k, omega arith, is)

tuple_made : (number : ℕ) (args : List ArgTerm) (m : ℕ) → m ≤ length args → are_free (declared_opts (drop m args)) ≡ true → (t : TupleTerm) × (tuple_of number args m ≡ Some t) × (length t.types ≡ m)
tuple_made number args m few free =
    let it : TupleTerm = record { overload = number; types = take m (declared_types args); opts = take m (declared_opts args) } in (
      it,
      ap (λ b. if b then longer number args (m - length args) (variadic_last args) else shorter number args m) (not_lt (nat_lt (length args) m) refl) ∙ ap (λ b. if b then Some (record { overload = number; types = take m (declared_types args); opts = take m (declared_opts args) }) else None) free,
      (let a : length (declared_types args) ≡ length args = length-map args (λ a. a.ty) in omega (arith, length-take m (declared_types args))),
    )
  where
    not_lt : (b : Bool) → nat_lt (length args) m ≡ b → b ≡ false
    not_lt true h = absurd (let more : length args < m = ltb-true (length args) m h in omega arith)
    not_lt false h = refl

in_length : (m number : ℕ) (sigs : List SigTerm) (s : SigTerm) → Contains sigs s → m ≤ length s.args → are_free (declared_opts (drop m s.args)) ≡ true → (t : TupleTerm) × Contains (of_length m number sigs) t × (length t.types ≡ m)
in_length m number [] s (k, lt, is) few free = absurd (omega arith)
in_length m number (x ∷ sigs) s (zero, lt, is) few free =
    let r = tuple_made number s.args m few free in
    (r.0, subst (λ o. Contains (with_tuple o (of_length m (number + 1) sigs)) r.0) (sym (ap (λ y. tuple_of number y.args m) is ∙ r.1)) (0, omega arith, refl), r.2)
in_length m number (x ∷ sigs) s (suc k, lt, is) few free =
    let r = in_length m (number + 1) sigs s (k, omega arith, is) few free in
    (r.0, in_more (tuple_of number x.args m) (of_length m (number + 1) sigs) r.0 r.1, r.2)

in_lengths : (m k count : ℕ) (sigs : List SigTerm) (t : TupleTerm) → k < count → Contains (of_length (m + k) 0 sigs) t → Contains (of_lengths m count sigs) t
in_lengths m k zero sigs t less h = absurd (omega arith)
in_lengths m zero (suc count) sigs t less h = Contains-append_left (of_length m 0 sigs) (of_lengths (m + 1) count sigs) t (subst (λ n. Contains (of_length n 0 sigs) t) (let e : m + 0 ≡ m = omega arith in e) h)
in_lengths m (suc k) (suc count) sigs t less h = Contains-append_right (of_length m 0 sigs) (of_lengths (m + 1) count sigs) t (in_lengths (m + 1) k count sigs t (omega arith) (subst (λ n. Contains (of_length n 0 sigs) t) (let e : m + suc k ≡ m + 1 + k = omega arith in e) h))

longest_le : (sigs : List SigTerm) (s : SigTerm) → Contains sigs s → length s.args ≤ longest sigs
longest_le [] s (k, lt, is) = absurd (omega arith)
longest_le (x ∷ sigs) s (zero, lt, is) = omega (arith, ap (λ y. length y.args) is)
longest_le (x ∷ sigs) s (suc k, lt, is) = omega (arith, longest_le sigs s (k, omega arith, is))

pub shortest_reached : (x : SigTerm) (sigs : List SigTerm) (n : ℕ) → (t : TupleTerm) × Contains (effective_tuples (x ∷ sigs) n) t × (length t.types ≡ shortest (x ∷ sigs))
shortest_reached x sigs n =
    let r = shortest_found x sigs in
    let q = in_length (needed r.0.args) 0 (x ∷ sigs) r.0 r.1 (needs_few r.0.args) (free_from r.0.args) in
    (q.0, in_lengths 0 (needed r.0.args) (max (longest (x ∷ sigs)) n + 1) (x ∷ sigs) q.0 (omega (arith, needs_few r.0.args, longest_le (x ∷ sigs) r.0 r.1)) (subst (λ k. Contains (of_length k 0 (x ∷ sigs)) q.0) (let e : needed r.0.args ≡ 0 + needed r.0.args = omega arith in e) q.1), q.2 ∙ sym r.2)
