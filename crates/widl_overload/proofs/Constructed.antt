-- The closed form of the effective overload set and the standard's construction give the same tuples.
use Rattle.std.proofs.Common.{◌≡◌, ℕ, zero, suc, ◌+◌, ◌-◌, ◌<◌, ◌≤◌, ◌++◌, ◌&&◌, Bool, true, false, cond, max, List, [], ◌∷◌, length, take, replicate, get_or, nat_lt, arith, refl, sym, ap, subst, ◌∙◌, inl, inr, append-nil}
use Rattle.std.specs.Prelude.{Option, None, Some, ◌⊎◌, ◌↔◌, Contains, slice_get, option_map}
use Rattle.std.proofs.lemmas.Bool.{lt-ltb}
use Rattle.std.proofs.lemmas.List.{append_assoc, take-take, length-map, replicate-append-replicate}
use Rattle.std.proofs.lemmas.Option.{slice_get-map}
use Rattle.std.proofs.Math.Seq.{take-length, drop-nil}
use Rattle.widl_idl.specs.declared.argument.Optionality.TheVariants.{Variadic}
use Rattle.widl_idl.specs.DefinitionTerms.{ArgTerm, SigTerm}
use Rattle.widl_idl.specs.Terms.{TypeTerm}
use Rattle.widl_overload.specs.sets.Sets.{TupleTerm, declared_opts, declared_types, effective_tuples, are_free, is_end, is_free, longer, longest, of_length, of_lengths, shorter, tuple_of, variadic_last, with_tuple}
use Rattle.widl_overload.proofs.Shorter.{free_from, free_step, is_last}
use Rattle.widl_overload.specs.sets.Construction.{constructed, cut_to, cuts, declared_tuple, grown, grown_if_variadic, is_free_one, of_overload, of_overloads, with_one_more}

-- membership, an item at a time
abbrev In : List TupleTerm → TupleTerm → Type 0
In [] y = ⊥
In (x ∷ xs) y = (x ≡ y) ⊎ In xs y

in_left : (xs ys : List TupleTerm) (z : TupleTerm) → In xs z → In (xs ++ ys) z
in_left [] ys z h = absurd h
in_left (x ∷ xs) ys z (inl e) = inl e
in_left (x ∷ xs) ys z (inr h) = inr (in_left xs ys z h)

in_right : (xs ys : List TupleTerm) (z : TupleTerm) → In ys z → In (xs ++ ys) z
in_right [] ys z h = h
in_right (x ∷ xs) ys z h = inr (in_right xs ys z h)

in_either : (xs ys : List TupleTerm) (z : TupleTerm) → In (xs ++ ys) z → In xs z ⊎ In ys z
in_either [] ys z h = inr h
in_either (x ∷ xs) ys z (inl e) = inl (inl e)
in_either (x ∷ xs) ys z (inr h) = elim (in_either xs ys z h) [ inl a ↦ inl (inr a) | inr b ↦ inr b ]

contained : (xs : List TupleTerm) (y : TupleTerm) → In xs y → Contains xs y
contained [] y h = absurd h
contained (x ∷ xs) y (inl e) = (0, omega arith, e)
contained (x ∷ xs) y (inr h) = let c : Contains xs y = contained xs y h in (suc c.0, omega arith, c.2)

member_at : (xs : List TupleTerm) (y : TupleTerm) (k : ℕ) → k < length xs → get_or xs k y ≡ y → In xs y
member_at [] y k below e = absurd (omega arith)
member_at (x ∷ xs) y zero below e = inl e
member_at (x ∷ xs) y (suc k) below e = inr (member_at xs y k (omega arith) e)

member : (xs : List TupleTerm) (y : TupleTerm) → Contains xs y → In xs y
member xs y c = member_at xs y c.0 c.1 c.2

compared : (m n : ℕ) → (m < n) ⊎ ((m ≡ n) ⊎ (n < m))
compared zero zero = inr (inl refl)
compared zero (suc n) = inl (omega arith)
compared (suc m) zero = inr (inr (omega arith))
compared (suc m) (suc n) = elim (compared m n) [ inl l ↦ inl (omega arith) | inr r ↦ elim r [ inl e ↦ inr (inl (ap suc e)) | inr g ↦ inr (inr (omega arith)) ] ]

-- one of the overloads has the tuple at this length
HasAt : ℕ → ℕ → List SigTerm → TupleTerm → Type 0
HasAt m number [] t = ⊥
HasAt m number (s ∷ sigs) t = (tuple_of number s.args m ≡ Some t) ⊎ HasAt m (number + 1) sigs t

-- the overload has the tuple at some length
HasOne : ℕ → List ArgTerm → ℕ → TupleTerm → Type 0
HasOne number args most t = (m : ℕ) × (m ≤ most) × (tuple_of number args m ≡ Some t)

Has : ℕ → List SigTerm → ℕ → TupleTerm → Type 0
unfolding HasOne
Has number [] most t = ⊥
Has number (s ∷ sigs) most t = HasOne number s.args most t ⊎ Has (number + 1) sigs most t

with_tuple_has : (o : Option TupleTerm) (rest : List TupleTerm) (t : TupleTerm) → In (with_tuple o rest) t → (o ≡ Some t) ⊎ In rest t
with_tuple_has None rest t h = inr h
with_tuple_has (Some u) rest t (inl e) = inl (ap Some e)
with_tuple_has (Some u) rest t (inr h) = inr h

some_is : (u t : TupleTerm) → Some u ≡ Some t → u ≡ t
some_is u t e = cc

has_with_tuple : (o : Option TupleTerm) (rest : List TupleTerm) (t : TupleTerm) → (o ≡ Some t) ⊎ In rest t → In (with_tuple o rest) t
has_with_tuple None rest t (inl e) = absurd (cc)
has_with_tuple None rest t (inr h) = h
has_with_tuple (Some u) rest t (inl e) = inl (some_is u t e)
has_with_tuple (Some u) rest t (inr h) = inr h

of_length_has : (sigs : List SigTerm) (m number : ℕ) (t : TupleTerm) → In (of_length m number sigs) t → HasAt m number sigs t
unfolding HasAt
of_length_has [] m number t h = h
of_length_has (s ∷ sigs) m number t h = elim (with_tuple_has (tuple_of number s.args m) (of_length m (number + 1) sigs) t h) [ inl e ↦ inl e | inr r ↦ inr (of_length_has sigs m (number + 1) t r) ]

has_of_length : (sigs : List SigTerm) (m number : ℕ) (t : TupleTerm) → HasAt m number sigs t → In (of_length m number sigs) t
unfolding HasAt
has_of_length [] m number t h = h
has_of_length (s ∷ sigs) m number t (inl e) = has_with_tuple (tuple_of number s.args m) (of_length m (number + 1) sigs) t (inl e)
has_of_length (s ∷ sigs) m number t (inr h) = has_with_tuple (tuple_of number s.args m) (of_length m (number + 1) sigs) t (inr (has_of_length sigs m (number + 1) t h))

of_lengths_has : (count m : ℕ) (sigs : List SigTerm) (t : TupleTerm) → In (of_lengths m count sigs) t → (k : ℕ) × (m ≤ k) × (k < m + count) × HasAt k 0 sigs t
of_lengths_has zero m sigs t h = absurd h
of_lengths_has (suc count) m sigs t h =
    elim (in_either (of_length m 0 sigs) (of_lengths (m + 1) count sigs) t h) [
      | inl here ↦ (m, omega arith, omega arith, of_length_has sigs m 0 t here)
      | inr later ↦ (let r : (k : ℕ) × (m + 1 ≤ k) × (k < m + 1 + count) × HasAt k 0 sigs t = of_lengths_has count (m + 1) sigs t later in (r.0, omega (arith, r.1), omega (arith, r.2), r.3))
    ]

has_of_lengths : (count m : ℕ) (sigs : List SigTerm) (t : TupleTerm) (k : ℕ) → m ≤ k → k < m + count → HasAt k 0 sigs t → In (of_lengths m count sigs) t
has_of_lengths zero m sigs t k above below h = absurd (omega arith)
has_of_lengths (suc count) m sigs t k above below h =
    elim (compared m k) [
      | inl l ↦ in_right (of_length m 0 sigs) (of_lengths (m + 1) count sigs) t (has_of_lengths count (m + 1) sigs t k (omega arith) (omega arith) h)
      | inr r ↦ elim r [
        | inl e ↦ in_left (of_length m 0 sigs) (of_lengths (m + 1) count sigs) t (has_of_length sigs m 0 t (let P : ℕ → Type 0 = λ j. HasAt j 0 sigs t in subst P (sym e) h))
        | inr g ↦ absurd (omega arith)
      ]
    ]

at_has : (sigs : List SigTerm) (number most m : ℕ) (t : TupleTerm) → m ≤ most → HasAt m number sigs t → Has number sigs most t
unfolding HasAt Has HasOne
at_has [] number most m t le h = h
at_has (s ∷ sigs) number most m t le (inl e) = inl (m, le, e)
at_has (s ∷ sigs) number most m t le (inr h) = inr (at_has sigs (number + 1) most m t le h)

has_at : (sigs : List SigTerm) (number most : ℕ) (t : TupleTerm) → Has number sigs most t → (m : ℕ) × (m ≤ most) × HasAt m number sigs t
unfolding HasAt Has HasOne
has_at [] number most t h = absurd h
has_at (s ∷ sigs) number most t (inl o) = (o.0, o.1, inl o.2)
has_at (s ∷ sigs) number most t (inr h) = let r : (m : ℕ) × (m ≤ most) × HasAt m (number + 1) sigs t = has_at sigs (number + 1) most t h in (r.0, r.1, inr r.2)

-- the declared lists with so many copies of the variadic argument
copies : ℕ → List ArgTerm → TypeTerm → ℕ → TupleTerm
copies number args last k = record { overload = number; types = declared_types args ++ replicate k last; opts = declared_opts args ++ replicate k Variadic }

copies_none : (number : ℕ) (args : List ArgTerm) (last : TypeTerm) → declared_tuple number args ≡ copies number args last 0
unfolding copies
copies_none number args last = λ i. record { overload = number; types = sym (append-nil (declared_types args)) i; opts = sym (append-nil (declared_opts args)) i }

one_copy_more : {A : Type 0} (xs : List A) (k : ℕ) (x : A) → (xs ++ replicate k x) ++ x ∷ [] ≡ xs ++ replicate (suc k) x
one_copy_more xs k x =
    let e : k + 1 ≡ suc k = omega arith in
    append_assoc xs (replicate k x) (x ∷ []) ∙ ap (λ ys. xs ++ ys) (replicate-append-replicate k 1 x ∙ ap (λ n. replicate n x) e)

copies_more : (number : ℕ) (args : List ArgTerm) (last : TypeTerm) (k : ℕ) → with_one_more last (copies number args last k) ≡ copies number args last (suc k)
unfolding copies
copies_more number args last k = λ i. record { overload = number; types = one_copy_more (declared_types args) k last i; opts = one_copy_more (declared_opts args) k Variadic i }

grown_step : (number : ℕ) (args : List ArgTerm) (last : TypeTerm) (k count : ℕ) → grown last (copies number args last k) (suc count) ≡ copies number args last (suc k) ∷ grown last (copies number args last (suc k)) count
grown_step number args last k count = ap (λ t. t ∷ grown last t count) (copies_more number args last k)

grown_has : (count k number : ℕ) (args : List ArgTerm) (last : TypeTerm) (t : TupleTerm) → In (grown last (copies number args last k) count) t → (j : ℕ) × (k < j) × (j ≤ k + count) × (copies number args last j ≡ t)
grown_has zero k number args last t h = absurd h
grown_has (suc count) k number args last t h =
    let P : List TupleTerm → Type 0 = λ ts. In ts t in
    let g : (copies number args last (suc k) ≡ t) ⊎ In (grown last (copies number args last (suc k)) count) t = subst P (grown_step number args last k count) h in
    elim g [
      | inl e ↦ (suc k, omega arith, omega arith, e)
      | inr later ↦ (let r : (j : ℕ) × (suc k < j) × (j ≤ suc k + count) × (copies number args last j ≡ t) = grown_has count (suc k) number args last t later in (r.0, omega (arith, r.1), omega (arith, r.2), r.3))
    ]

has_grown : (count k number : ℕ) (args : List ArgTerm) (last : TypeTerm) (t : TupleTerm) (j : ℕ) → k < j → j ≤ k + count → copies number args last j ≡ t → In (grown last (copies number args last k) count) t
has_grown zero k number args last t j above below e = absurd (omega arith)
has_grown (suc count) k number args last t j above below e =
    let P : List TupleTerm → Type 0 = λ ts. In ts t in
    let g : (copies number args last (suc k) ≡ t) ⊎ In (grown last (copies number args last (suc k)) count) t =
    elim (compared (suc k) j) [
      | inl l ↦ inr (has_grown count (suc k) number args last t j l (omega arith) e)
      | inr r ↦ elim r [ inl same ↦ inl (ap (copies number args last) same ∙ e) | inr g ↦ absurd (omega arith) ]
    ] in
    subst P (sym (grown_step number args last k count)) g

-- a tuple beyond the declared length
long_is : (number : ℕ) (args : List ArgTerm) (m : ℕ) → length args < m → tuple_of number args m ≡ longer number args (m - length args) (variadic_last args)
long_is number args m below = ap (λ b. cond b (longer number args (m - length args) (variadic_last args)) (shorter number args m)) (lt-ltb (length args) m below)

not_less : (a b : ℕ) → b ≤ a → nat_lt a b ≡ false
not_less a b h = grind arith

short_is : (number : ℕ) (args : List ArgTerm) (m : ℕ) → m ≤ length args → tuple_of number args m ≡ shorter number args m
short_is number args m le = ap (λ b. cond b (longer number args (m - length args) (variadic_last args)) (shorter number args m)) (not_less (length args) m le)

item_at : (args : List ArgTerm) (n : ℕ) → n < length args → (a : ArgTerm) × (slice_get args n ≡ Some a)
item_at [] n below = absurd (omega arith)
item_at (a ∷ args) zero below = (a, refl)
item_at (a ∷ args) (suc n) below = item_at args n (omega arith)

slice_get-take : {A : Type 0} (xs : List A) (n k : ℕ) → k < n → slice_get (take n xs) k ≡ slice_get xs k
slice_get-take [] zero k below = absurd (omega arith)
slice_get-take [] (suc n) k below = refl
slice_get-take (x ∷ xs) zero k below = absurd (omega arith)
slice_get-take (x ∷ xs) (suc n) zero below = refl
slice_get-take (x ∷ xs) (suc n) (suc k) below = slice_get-take xs n k (omega arith)

free_at_end : (args : List ArgTerm) → free_from args (length args) ≡ true
free_at_end [] = refl
free_at_end (a ∷ args) = free_at_end args

right : (a b : Bool) → (a && b) ≡ true → b ≡ true
right true b h = h
right false b h = cc

left : (a b : Bool) → (a && b) ≡ true → a ≡ true
left true b h = refl
left false b h = h

free_later : (args : List ArgTerm) (m n : ℕ) → m ≤ n → free_from args m ≡ true → free_from args n ≡ true
free_later [] m n le h = ap (λ xs. are_free (declared_opts xs)) (drop-nil n)
free_later (a ∷ args) zero zero le h = h
free_later (a ∷ args) zero (suc n) le h = free_later args zero n (omega arith) (right (is_free a.opt (is_end (declared_opts args))) (are_free (declared_opts args)) h)
free_later (a ∷ args) (suc m) zero le h = absurd (omega arith)
free_later (a ∷ args) (suc m) (suc n) le h = free_later args m n (omega arith) h

free_here : (args : List ArgTerm) (n : ℕ) (a : ArgTerm) → n < length args → slice_get args n ≡ Some a → is_free_one (slice_get (take (suc n) (declared_opts args)) n) (is_last args n) ≡ is_free a.opt (is_last args n)
free_here args n a below e =
    ap (λ o. is_free_one o (is_last args n)) (slice_get-take (declared_opts args) (suc n) n (omega arith) ∙ slice_get-map (λ (b : ArgTerm). b.opt) args n ∙ ap (option_map (λ (b : ArgTerm). b.opt)) e)

cut_twice : (n : ℕ) (t : TupleTerm) → cut_to n (cut_to (suc n) t) ≡ cut_to n t
cut_twice n t = λ i. record { overload = t.overload; types = take-take n (suc n) t.types (omega arith) i; opts = take-take n (suc n) t.opts (omega arith) i }

cut_whole : (number : ℕ) (args : List ArgTerm) → cut_to (length args) (declared_tuple number args) ≡ declared_tuple number args
cut_whole number args =
    let types : take (length args) (declared_types args) ≡ declared_types args = ap (λ n. take n (declared_types args)) (sym (length-map args (λ (a : ArgTerm). a.ty))) ∙ take-length (declared_types args) in
    let opts : take (length args) (declared_opts args) ≡ declared_opts args = ap (λ n. take n (declared_opts args)) (sym (length-map args (λ (a : ArgTerm). a.opt))) ∙ take-length (declared_opts args) in
    λ i. record { overload = number; types = types i; opts = opts i }

-- one cut more, where the argument is this one
cuts_step : (number : ℕ) (args : List ArgTerm) (n : ℕ) (a : ArgTerm) → n < length args → slice_get args n ≡ Some a
    → cuts (length args) (cut_to (suc n) (declared_tuple number args)) (suc n) ≡ cond (is_free a.opt (is_last args n)) (cut_to n (declared_tuple number args) ∷ cuts (length args) (cut_to n (declared_tuple number args)) n) []
cuts_step number args n a below e =
    ap (λ b. cond b (cut_to n (cut_to (suc n) (declared_tuple number args)) ∷ cuts (length args) (cut_to n (cut_to (suc n) (declared_tuple number args))) n) []) (free_here args n a below e)
    ∙ ap (λ t. cond (is_free a.opt (is_last args n)) (t ∷ cuts (length args) t n) []) (cut_twice n (declared_tuple number args))

CutAt : ℕ → List ArgTerm → ℕ → TupleTerm → Type 0
CutAt number args n t = (m : ℕ) × (m < n) × (free_from args m ≡ true) × (cut_to m (declared_tuple number args) ≡ t)

-- a cut at a place, or one further down
cut_one : (n number : ℕ) (args : List ArgTerm) (t : TupleTerm) (a : ArgTerm) (free_a : Bool) → is_free a.opt (is_last args n) ≡ free_a → free_from args n ≡ (is_free a.opt (is_last args n) && free_from args (suc n)) → free_from args (suc n) ≡ true
    → (free_from args n ≡ true → In (cuts (length args) (cut_to n (declared_tuple number args)) n) t → CutAt number args n t)
    → In (cond free_a (cut_to n (declared_tuple number args) ∷ cuts (length args) (cut_to n (declared_tuple number args)) n) []) t → CutAt number args (suc n) t
unfolding CutAt
cut_one n number args t a false is step free later h = absurd h
cut_one n number args t a true is step free later (inl e) = (n, omega arith, step ∙ (λ i. is i && free i), e)
cut_one n number args t a true is step free later (inr h) = let r : CutAt number args n t = later (step ∙ (λ i. is i && free i)) h in (r.0, omega (arith, r.1), r.2, r.3)

cuts_have : (n number : ℕ) (args : List ArgTerm) (t : TupleTerm) → n ≤ length args → free_from args n ≡ true → In (cuts (length args) (cut_to n (declared_tuple number args)) n) t → CutAt number args n t
cuts_have zero number args t le free h = absurd h
cuts_have (suc n) number args t le free h =
    let below : n < length args = omega arith in
    let r : (a : ArgTerm) × (slice_get args n ≡ Some a) = item_at args n below in
    let P : List TupleTerm → Type 0 = λ ts. In ts t in
    cut_one n number args t r.0 (is_free r.0.opt (is_last args n)) refl (free_step args n r.0 below r.1) free (cuts_have n number args t (omega arith)) (subst P (cuts_step number args n r.0 below r.1) h)

have_cuts : (n number : ℕ) (args : List ArgTerm) (t : TupleTerm) (m : ℕ) → n ≤ length args → m < n → free_from args m ≡ true → cut_to m (declared_tuple number args) ≡ t → In (cuts (length args) (cut_to n (declared_tuple number args)) n) t
have_cuts zero number args t m le below free e = absurd (omega arith)
have_cuts (suc n) number args t m le below free e =
    let inside : n < length args = omega arith in
    let r : (a : ArgTerm) × (slice_get args n ≡ Some a) = item_at args n inside in
    let here : is_free r.0.opt (is_last args n) ≡ true = left (is_free r.0.opt (is_last args n)) (free_from args (suc n)) (sym (free_step args n r.0 inside r.1) ∙ free_later args m n (omega arith) free) in
    let P : List TupleTerm → Type 0 = λ ts. In ts t in
    let g : (cut_to n (declared_tuple number args) ≡ t) ⊎ In (cuts (length args) (cut_to n (declared_tuple number args)) n) t =
    elim (compared m n) [
      | inl l ↦ inr (have_cuts n number args t m (omega arith) l free e)
      | inr q ↦ elim q [ inl same ↦ inl (ap (λ k. cut_to k (declared_tuple number args)) (sym same) ∙ e) | inr g ↦ absurd (omega arith) ]
    ] in
    subst P (sym (cuts_step number args n r.0 inside r.1 ∙ ap (λ b. cond b (cut_to n (declared_tuple number args) ∷ cuts (length args) (cut_to n (declared_tuple number args)) n) []) here)) g

-- the tuple of a length up to the declared one
shorter_is : (number : ℕ) (args : List ArgTerm) (m : ℕ) → free_from args m ≡ true → shorter number args m ≡ Some (cut_to m (declared_tuple number args))
shorter_is number args m free = ap (λ b. cond b (Some (cut_to m (declared_tuple number args))) None) free

shorter_some : (number : ℕ) (args : List ArgTerm) (m : ℕ) (t : TupleTerm) (free : Bool) → free_from args m ≡ free → shorter number args m ≡ Some t → (free_from args m ≡ true) × (cut_to m (declared_tuple number args) ≡ t)
shorter_some number args m t true is e = (is, some_is (cut_to m (declared_tuple number args)) t (sym (shorter_is number args m is) ∙ e))
shorter_some number args m t false is e = let none : None ≡ Some t = sym (ap (λ b. cond b (Some (cut_to m (declared_tuple number args))) None) is) ∙ e in absurd (cc)

grown_one : (number : ℕ) (args : List ArgTerm) (most : ℕ) (t : TupleTerm) (last : Option ArgTerm) → variadic_last args ≡ last → length args ≤ most → In (grown_if_variadic last (declared_tuple number args) (most - length args)) t → HasOne number args most t
unfolding HasOne copies
grown_one number args most t None is le h = absurd h
grown_one number args most t (Some last) is le h =
    let P : TupleTerm → Type 0 = λ d. In (grown last.ty d (most - length args)) t in
    let r : (j : ℕ) × (0 < j) × (j ≤ 0 + (most - length args)) × (copies number args last.ty j ≡ t) = grown_has (most - length args) 0 number args last.ty t (subst P (copies_none number args last.ty) h) in
    let above : 0 < r.0 = r.1 in
    let below : r.0 ≤ 0 + (most - length args) = r.2 in
    let beyond : length args < length args + r.0 = omega arith in
    let count : length args + r.0 - length args ≡ r.0 = omega arith in
    (length args + r.0, omega arith, long_is number args (length args + r.0) beyond ∙ (λ i. longer number args (count i) (is i)) ∙ ap Some r.3)

one_has : (number : ℕ) (args : List ArgTerm) (most : ℕ) (t : TupleTerm) → length args ≤ most → In (of_overload number args most) t → HasOne number args most t
unfolding HasOne CutAt
one_has number args most t le (inl e) =
    (length args, le, short_is number args (length args) (omega arith) ∙ shorter_is number args (length args) (free_at_end args) ∙ ap Some (cut_whole number args ∙ e))
one_has number args most t le (inr h) =
    elim (in_either (grown_if_variadic (variadic_last args) (declared_tuple number args) (most - length args)) (cuts (length args) (declared_tuple number args) (length args)) t h) [
      | inl g ↦ grown_one number args most t (variadic_last args) refl le g
      | inr k ↦ (
          let P : TupleTerm → Type 0 = λ d. In (cuts (length args) d (length args)) t in
          let r : CutAt number args (length args) t = cuts_have (length args) number args t (omega arith) (free_at_end args) (subst P (sym (cut_whole number args)) k) in
          let short : r.0 < length args = r.1 in
          (r.0, omega arith, short_is number args r.0 (omega arith) ∙ shorter_is number args r.0 r.2 ∙ ap Some r.3))
    ]

long_one : (number : ℕ) (args : List ArgTerm) (most : ℕ) (t : TupleTerm) (m : ℕ) (last : Option ArgTerm) → variadic_last args ≡ last → length args < m → m ≤ most → longer number args (m - length args) last ≡ Some t
    → In (grown_if_variadic last (declared_tuple number args) (most - length args)) t
unfolding copies
long_one number args most t m None is beyond le e = absurd (cc)
long_one number args most t m (Some last) is beyond le e =
    let P : TupleTerm → Type 0 = λ d. In (grown last.ty d (most - length args)) t in
    subst P (sym (copies_none number args last.ty))
    (has_grown (most - length args) 0 number args last.ty t (m - length args) (omega arith) (omega arith) (some_is (copies number args last.ty (m - length args)) t e))

has_one : (number : ℕ) (args : List ArgTerm) (most : ℕ) (t : TupleTerm) → HasOne number args most t → In (of_overload number args most) t
unfolding HasOne
has_one number args most t o =
    let m = o.0 in
    let le : m ≤ most = o.1 in
    let whole : In (declared_tuple number args ∷ (grown_if_variadic (variadic_last args) (declared_tuple number args) (most - length args) ++ cuts (length args) (declared_tuple number args) (length args))) t =
    elim (compared (length args) m) [
      | inl beyond ↦ inr (in_left (grown_if_variadic (variadic_last args) (declared_tuple number args) (most - length args)) (cuts (length args) (declared_tuple number args) (length args)) t
          (long_one number args most t m (variadic_last args) refl beyond le (sym (long_is number args m beyond) ∙ o.2)))
      | inr q ↦ elim q [
        | inl same ↦ (
            let r : (free_from args m ≡ true) × (cut_to m (declared_tuple number args) ≡ t) = shorter_some number args m t (free_from args m) refl (sym (short_is number args m (omega arith)) ∙ o.2) in
            inl (sym (cut_whole number args) ∙ ap (λ k. cut_to k (declared_tuple number args)) same ∙ r.1))
        | inr short ↦ (
            let r : (free_from args m ≡ true) × (cut_to m (declared_tuple number args) ≡ t) = shorter_some number args m t (free_from args m) refl (sym (short_is number args m (omega arith)) ∙ o.2) in
            let P : TupleTerm → Type 0 = λ d. In (cuts (length args) d (length args)) t in
            inr (in_right (grown_if_variadic (variadic_last args) (declared_tuple number args) (most - length args)) (cuts (length args) (declared_tuple number args) (length args)) t
            (subst P (cut_whole number args) (have_cuts (length args) number args t m (omega arith) short r.0 r.1))))
      ]
    ] in
    whole

of_overloads_have : (sigs : List SigTerm) (number most : ℕ) (t : TupleTerm) → longest sigs ≤ most → In (of_overloads number sigs most) t → Has number sigs most t
unfolding Has
of_overloads_have [] number most t le h = h
of_overloads_have (s ∷ sigs) number most t le h =
    elim (in_either (of_overload number s.args most) (of_overloads (number + 1) sigs most) t h) [
      | inl here ↦ inl (one_has number s.args most t (omega arith) here)
      | inr later ↦ inr (of_overloads_have sigs (number + 1) most t (omega arith) later)
    ]

have_of_overloads : (sigs : List SigTerm) (number most : ℕ) (t : TupleTerm) → Has number sigs most t → In (of_overloads number sigs most) t
unfolding Has
have_of_overloads [] number most t h = h
have_of_overloads (s ∷ sigs) number most t (inl o) = in_left (of_overload number s.args most) (of_overloads (number + 1) sigs most) t (has_one number s.args most t o)
have_of_overloads (s ∷ sigs) number most t (inr h) = in_right (of_overload number s.args most) (of_overloads (number + 1) sigs most) t (have_of_overloads sigs (number + 1) most t h)

constructed_is_effective : (sigs : List SigTerm) (n : ℕ) (t : TupleTerm) → Contains (constructed sigs n) t → Contains (effective_tuples sigs n) t
constructed_is_effective sigs n t c =
    let most = max (longest sigs) n in
    let r : (m : ℕ) × (m ≤ max (longest sigs) n) × HasAt m 0 sigs t = has_at sigs 0 (max (longest sigs) n) t (of_overloads_have sigs 0 (max (longest sigs) n) t (omega arith) (member (constructed sigs n) t c)) in
    let le : r.0 ≤ max (longest sigs) n = r.1 in
    contained (effective_tuples sigs n) t (has_of_lengths (max (longest sigs) n + 1) 0 sigs t r.0 (omega arith) (omega arith) r.2)

effective_is_constructed : (sigs : List SigTerm) (n : ℕ) (t : TupleTerm) → Contains (effective_tuples sigs n) t → Contains (constructed sigs n) t
effective_is_constructed sigs n t c =
    let r : (k : ℕ) × (0 ≤ k) × (k < 0 + (max (longest sigs) n + 1)) × HasAt k 0 sigs t = of_lengths_has (max (longest sigs) n + 1) 0 sigs t (member (effective_tuples sigs n) t c) in
    let below : r.0 < 0 + (max (longest sigs) n + 1) = r.2 in
    contained (constructed sigs n) t (have_of_overloads sigs 0 (max (longest sigs) n) t (at_has sigs 0 (max (longest sigs) n) r.0 t (omega arith) r.3))

pub same_tuples : (sigs : List SigTerm) (n : ℕ) (t : TupleTerm) → Contains (constructed sigs n) t ↔ Contains (effective_tuples sigs n) t
same_tuples sigs n t = (constructed_is_effective sigs n t, effective_is_constructed sigs n t)
