-- Entries that were sorted by their numbers are in order.
use Rattle.std.proofs.Common.{◌≡◌, ℕ, zero, suc, ◌<◌, ◌≤◌, Bool, true, false, nat_eq, if◌then◌else◌, Option, Some, None, List, [], ◌∷◌, ◌++◌, length, get_or, refl, sym, ◌∙◌, ap, subst, inl, inr, ◌⊎◌, arith, map, filter, eqb-true, eq-eqb}
use Rattle.std.specs.Prelude.{Contains, is_some, IfSome, Result, Ok, Err, IfOk}
use Rattle.std.specs.Map.{keys_of}
use Rattle.std.specs.List.{IsDistinct}
use Rattle.std.specs.List.Sorted.{IsPermutation, IsNonDecreasingBy}
use Rattle.std.proofs.lemmas.Map.Keys.{IsDistinct-IsPermutation}
use Rattle.std.proofs.lemmas.List.Sorted.{IsPermutation-sym, IsPermutation-map, Contains-permutation}
use Rattle.std.proofs.lemmas.Bool.{cases_lt}
use Rattle.widl_text.specs.declared.key.Key.{Key}
use Rattle.widl_store.specs.declared.property.Prop.{Prop}
use Rattle.widl_store.specs.Created.{Created}
use Rattle.widl_store.specs.Leaving.{Leaves}
use Rattle.widl_store.specs.Objects.{same_key}
use Rattle.widl_store.specs.Order.{Entry, at, listed, gathered, shown, in_order, Numbered}
use Rattle.std.proofs.Common.{Bor}
use Rattle.std.proofs.lemmas.List.{length-map, get_or-map}
use Rattle.std.specs.Map.Iter.{deref_pair}
use Rattle.widl_store.proofs.KeyEquality.{key_same, same_key_equiv}
use Rattle.widl_store.proofs.Creation.{AllBelow, EachOnce, in_cons, in_head, in_tail, nobody, at_in, once_left, left_in_order}
use Rattle.widl_store.proofs.KeyFinds.{lookup_in}
use Rattle.widl_store.proofs.Changing.{distinct_head, distinct_tail}

-- 5. entries that were sorted by their numbers are in order
pub at_nothing : (n : ℕ) (es : List Entry) → ((e : Entry) → Contains es e → n < e.1.number) → at n es ≡ None
at_nothing n es above = go (at n es) refl
  where
    go : (o : Option Entry) → at n es ≡ o → o ≡ None
    go None h = refl
    go (Some e) h = let r = at_in n es e h in absurd (omega (arith, above e r.0, r.1))

pub gathered_nothing : (n : ℕ) (es : List Entry) → ((e : Entry) → Contains es e → n ≤ e.1.number) → gathered n es ≡ []
unfolding gathered
gathered_nothing zero es above = refl
gathered_nothing (suc n) es above =
    ap (λ o. gathered n es ++ listed o) (at_nothing n es (λ e h. omega (arith, above e h)))
    ∙ ap (λ x. x ++ []) (gathered_nothing n es (λ e h. omega (arith, above e h)))

pub at_other : (n : ℕ) (e : Entry) (es : List Entry) → (e.1.number ≡ n → ⊥) → at n (e ∷ es) ≡ at n es
at_other n e es other = go (nat_eq e.1.number n) refl
  where
    go : (b : Bool) → nat_eq e.1.number n ≡ b → at n (e ∷ es) ≡ at n es
    go true t = absurd (other (eqb-true e.1.number n t))
    go false t = ap (λ b. if b then Some e else at n es) t

pub least_first : (n : ℕ) (e : Entry) (es : List Entry) → e.1.number < n → ((f : Entry) → Contains es f → e.1.number < f.1.number) → gathered n (e ∷ es) ≡ e ∷ gathered n es
unfolding gathered
least_first zero e es lt above = absurd (omega arith)
least_first (suc n) e es lt above = go (cases_lt e.1.number n) (λ less. least_first n e es less above)
  where
    go : (e.1.number < n) ⊎ (n ≤ e.1.number) → (e.1.number < n → gathered n (e ∷ es) ≡ e ∷ gathered n es) → gathered n (e ∷ es) ++ listed (at n (e ∷ es)) ≡ e ∷ (gathered n es ++ listed (at n es))
    go (inl less) rest =
        ap (λ o. gathered n (e ∷ es) ++ listed o) (at_other n e es (λ same. absurd (omega arith)))
        ∙ ap (λ x. x ++ listed (at n es)) (rest less)
    go (inr le) rest =
        let same : e.1.number ≡ n = omega arith in
        let bottom : (f : Entry) → Contains (e ∷ es) f → n ≤ f.1.number = λ f h. elim (in_cons e f es h) [ inl it ↦ (let k : e.1.number ≡ f.1.number = ap (λ y. y.1.number) it in omega arith) | inr further ↦ omega (arith, above f further) ] in
        let none : gathered n (e ∷ es) ≡ [] = gathered_nothing n (e ∷ es) bottom in
        let empty : gathered n es ≡ [] = gathered_nothing n es (λ f h. omega (arith, above f h)) in
        let nobody_ : at n es ≡ None = at_nothing n es (λ f h. omega (arith, above f h)) in
        ap (λ x. x ++ listed (at n (e ∷ es))) none
        ∙ ap (λ b. listed (if b then Some e else at n es)) (eq-eqb e.1.number n same)
        ∙ ap (λ x. e ∷ (x ++ [])) (sym empty) ∙ ap (λ o. e ∷ (gathered n es ++ listed o)) (sym nobody_)

abbrev pub Ascending : List Entry → Type 0
Ascending [] = Unit {0}
Ascending (e ∷ es) = ((f : Entry) → Contains es f → e.1.number < f.1.number) × Ascending es

pub ascending_in_order : (n : ℕ) (es : List Entry) → AllBelow n es → Ascending es → gathered n es ≡ es
ascending_in_order n [] below h = gathered_nothing n [] (λ e k. absurd (nobody e k))
ascending_in_order n (e ∷ es) below h = least_first n e es (below e (in_head e es)) h.0 ∙ ap (λ x. e ∷ x) (ascending_in_order n es (λ f k. below f (in_tail e f es k)) h.1)

pub ascends : (es : List Entry) → EachOnce es → IsDistinct same_key (keys_of es) → IsNonDecreasingBy (λ e. e.1.number) es → Ascending es
ascends [] once d h = tt
ascends (e ∷ es) once d h = (
  (λ f k.
      let le : e.1.number ≤ f.1.number = subst (λ y. e.1.number ≤ y.1.number) k.2 (h 0 (suc k.0) f (omega arith) (omega (arith, k.1))) in
      go f k (cases_lt e.1.number f.1.number) le),
  ascends es (λ a b i j. once a b (in_tail e a es i) (in_tail e b es j)) (distinct_tail e es d) (λ i j x le lt. h (suc i) (suc j) x (omega arith) (omega arith)),
)
  where
    go : (f : Entry) → Contains es f → (e.1.number < f.1.number) ⊎ (f.1.number ≤ e.1.number) → e.1.number ≤ f.1.number → e.1.number < f.1.number
    go f k (inl lt) le = lt
    go f k (inr ge) le =
        let number : e.1.number ≡ f.1.number = omega arith in
        let same : e ≡ f = once e f (in_head e es) (in_tail e f es k) number in
        let other : same_key e.0 f.0 ≡ false = lookup_in e.0 es f k (distinct_head e es d) in
        let one : same_key e.0 f.0 ≡ true = key_same e.0 f.0 (ap (λ y. y.0) same) in
        absurd (let bad : true ≡ false = sym one ∙ other in cc)

pub keys_of_map : (es : List Entry) → keys_of es ≡ map (λ e. e.0) es
keys_of_map [] = refl
keys_of_map (e ∷ es) = ap (λ x. e.0 ∷ x) (keys_of_map es)

pub sorted_in_order : (n : ℕ) (es fs : List Entry) → AllBelow n es → EachOnce es → IsDistinct same_key (keys_of es) → IsPermutation es fs → IsNonDecreasingBy (λ e. e.1.number) fs → gathered n es ≡ fs
sorted_in_order n es fs below once d moved sorted =
    let back : (e : Entry) → Contains fs e → Contains es e = λ e h. Contains-permutation fs es e (IsPermutation-sym es fs moved) h in
    let leaves : Leaves (λ e. true) es fs = record { sub = back; pass = λ e h. refl; kept = λ e h p. Contains-permutation es fs e moved h } in
    let once_ = once_left (λ e. true) es fs leaves once in
    let distinct : IsDistinct same_key (keys_of fs) = subst (IsDistinct same_key) (sym (keys_of_map fs)) (IsDistinct-IsPermutation same_key same_key_equiv.symm (map (λ e. e.0) es) (map (λ e. e.0) fs) (IsPermutation-map (λ e. e.0) es fs moved) (subst (IsDistinct same_key) (keys_of_map es) d)) in
    sym (all_left (gathered n es)) ∙ sym (left_in_order (λ e. true) es fs leaves once n) ∙ ascending_in_order n fs (λ e h. below e (back e h)) (ascends fs once_ distinct sorted)
  where
    all_left : (xs : List Entry) → filter (λ e. true) xs ≡ xs
    all_left [] = refl
    all_left (x ∷ xs) = ap (λ r. x ∷ r) (all_left xs)

pub keys_shown : (es : List Entry) → keys_of (map shown es) ≡ keys_of es
keys_shown [] = refl
keys_shown (e ∷ es) = ap (λ x. e.0 ∷ x) (keys_shown es)

pub keys_sorted : (n : ℕ) (es fs : List Entry) (v : List (Key × Prop)) → AllBelow n es → EachOnce es → IsDistinct same_key (keys_of es) → in_order n es ≡ v → IsPermutation es fs → IsNonDecreasingBy (λ e. e.1.number) fs → keys_of fs ≡ keys_of v
keys_sorted n es fs v below once d same moved sorted = ap keys_of (sym (sorted_in_order n es fs below once d moved sorted)) ∙ sym (keys_shown (gathered n es)) ∙ ap keys_of same

pub in_ok : {A E : Type 0} (r : Result A E) (P Q : A → Type 0) → ((a : A) → P a → Q a) → IfOk r P → IfOk r Q
in_ok (Ok a) P Q f h = f a h
in_ok (Err e) P Q f h = tt

-- entries by reference, in the order of their numbers
pub keys_of_pairs : (pairs : List (Bor Key × Bor Created)) → keys_of (map deref_pair pairs) ≡ map (λ e. e.0.now) pairs
keys_of_pairs [] = refl
keys_of_pairs (p ∷ ps) = ap (λ x. p.0.now ∷ x) (keys_of_pairs ps)

abbrev pub number_in : Entry → ℕ
number_in e = e.1.number

pub ascending_pairs : (pairs : List (Bor Key × Bor Created)) → IsNonDecreasingBy (λ e. e.1.now.number) pairs → IsNonDecreasingBy number_in (map deref_pair pairs)
ascending_pairs [] h i j d le lt = absurd (omega arith)
ascending_pairs (p ∷ ps) h i j d le lt =
    let long : j < length (p ∷ ps) = subst (λ n. j < n) (length-map (p ∷ ps) deref_pair) lt in
    let first : get_or (map deref_pair (p ∷ ps)) i d ≡ deref_pair (get_or (p ∷ ps) i p) = get_or-map deref_pair (p ∷ ps) i p d (omega arith) in
    let second : get_or (map deref_pair (p ∷ ps)) j d ≡ deref_pair (get_or (p ∷ ps) j p) = get_or-map deref_pair (p ∷ ps) j p d long in
    omega (arith, ap number_in first, ap number_in second, h i j p le long)

pub pairs_moved : (es : List Entry) (pairs sorted : List (Bor Key × Bor Created)) → map deref_pair pairs ≡ es → IsPermutation pairs sorted → IsPermutation es (map deref_pair sorted)
pairs_moved es pairs sorted is moved = subst (λ (l : List Entry). IsPermutation l (map deref_pair sorted)) is (IsPermutation-map deref_pair pairs sorted moved)

pub pairs_in_order : (n : ℕ) (es : List Entry) (pairs sorted : List (Bor Key × Bor Created)) → Numbered n es → map deref_pair pairs ≡ es → IsPermutation pairs sorted → IsNonDecreasingBy (λ e. e.1.now.number) sorted → map (λ e. e.0.now) sorted ≡ keys_of (in_order n es)
pairs_in_order n es pairs sorted numbered is moved ascending =
    sym (keys_of_pairs sorted) ∙ keys_sorted n es (map deref_pair sorted) (in_order n es) numbered.below numbered.once numbered.keys refl (pairs_moved es pairs sorted is moved) (ascending_pairs sorted ascending)

pub pairs_distinct : (n : ℕ) (es : List Entry) (pairs sorted : List (Bor Key × Bor Created)) → Numbered n es → map deref_pair pairs ≡ es → IsPermutation pairs sorted → IsDistinct same_key (map (λ e. e.0.now) sorted)
pairs_distinct n es pairs sorted numbered is moved =
    subst (IsDistinct same_key) (keys_of_pairs sorted)
    (subst (IsDistinct same_key) (sym (keys_of_map (map deref_pair sorted)))
    (IsDistinct-IsPermutation same_key same_key_equiv.symm (map (λ e. e.0) es) (map (λ e. e.0) (map deref_pair sorted)) (IsPermutation-map (λ e. e.0) es (map deref_pair sorted) (pairs_moved es pairs sorted is moved)) (subst (IsDistinct same_key) (keys_of_map es) numbered.keys)))

-- what follows from the prop of an option
pub in_some : {A : Type 0} (r : Option A) (P Q : A → Type 0) → ((a : A) → P a → Q a) → IfSome r P → IfSome r Q
in_some None P Q f h = h
in_some (Some a) P Q f h = f a h

pub none_of : {A : Type 0} (o : Option A) → false ≡ is_some o → o ≡ None
none_of None e = refl
none_of (Some a) e = cc
