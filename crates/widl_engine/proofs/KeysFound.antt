-- The own keys of an object, as the store gathers them, are those of the meaning: the keys that are indices have one order in which they rise.
use Rattle.std.proofs.Common.{◌≡◌, ℕ, zero, suc, ◌<◌, ◌≤◌, ◌⊎◌, inl, inr, Bool, true, false, if◌then◌else◌, ◌&&◌, nat_le, nat_lt, List, [], ◌∷◌, ◌++◌, filter, Some, None, true≢false, refl, sym, ◌∙◌, ap, subst, arith}
use Rattle.std.specs.Prelude.{⊤, Contains, is_some, unwrap_or, bytes_eq, decimal}
use Rattle.std.specs.List.{IsDistinct, AllByRecursion}
use Rattle.std.specs.List.Sorted.{IsNonDecreasingBy}
use Rattle.std.specs.Str.Parse.{digits_value}
use Rattle.std.proofs.lemmas.Bool.{and_parts, ltb-true, ltb-false}
use Rattle.std.proofs.lemmas.List.Sorted.{Contains-permutation, IsPermutation-sym}
use Rattle.std.proofs.lemmas.Map.Keys.{IsDistinct-IsPermutation}
use Rattle.std.proofs.lemmas.Slice.Eq.{bytes_eq-Decides}
use Rattle.widl_text.specs.declared.key.Key.{Key}
use Rattle.widl_text.specs.declared.key.Key.TheVariants.{Name, Sym}
use Rattle.widl_text.specs.Index.{index_of_text}
use Rattle.widl_store.specs.Objects.{same_key}
use Rattle.widl_store.specs.OwnKeys.{OwnKeys, is_index, is_name, is_symbol, number_of}
use Rattle.widl_store.proofs.KeyEquality.{key_self, same_key_equiv}
use Rattle.widl_runs.specs.Actions.{with_index, by_index, own_keys_of}

-- 1. Elements

none : (k : Key) → Contains [] k → ⊥
none k (n, lt, is) = omega (arith, lt)

in_head : (x : Key) (xs : List Key) → Contains (x ∷ xs) x
in_head x xs = (0, omega arith, refl)

in_tail : (x k : Key) (xs : List Key) → Contains xs k → Contains (x ∷ xs) k
in_tail x k xs (n, lt, is) = (suc n, omega (arith, lt), is)

in_cons : (x k : Key) (xs : List Key) → Contains (x ∷ xs) k → (x ≡ k) ⊎ Contains xs k
in_cons x k xs (zero, lt, is) = inl is
in_cons x k xs (suc n, lt, is) = inr (n, omega (arith, lt), is)

passes : (test : Key → Bool) (xs : List Key) (k : Key) → Contains (filter test xs) k → test k ≡ true
passes test [] k h = absurd (none k h)
passes test (x ∷ xs) k h = go (passes test xs k) (test x) refl h
  where
    go : (Contains (filter test xs) k → test k ≡ true) → (b : Bool) → test x ≡ b → Contains (if b then x ∷ filter test xs else filter test xs) k → test k ≡ true
    go below true t inside = elim (in_cons x k (filter test xs) inside) [ inl it ↦ ap test (sym it) ∙ t | inr later ↦ below later ]
    go below false t inside = below inside

-- 2. Lists along which the numbers rise, and lists whose numbers differ

abbrev Rises : List Key → Type 0
Rises [] = ⊤
Rises (x ∷ xs) = ((k : Key) → Contains xs k → number_of x < number_of k) × Rises xs

abbrev Apart : List Key → Type 0
Apart [] = ⊤
Apart (x ∷ xs) = ((k : Key) → Contains xs k → number_of x ≡ number_of k → ⊥) × Apart xs

-- lists of the same keys that rise are the same
rising_same : (firsts others : List Key) → Rises firsts → Rises others → ((k : Key) → Contains firsts k → Contains others k) → ((k : Key) → Contains others k → Contains firsts k) → firsts ≡ others
rising_same [] [] up down there back = refl
rising_same [] (b ∷ others) up down there back = absurd (none b (back b (in_head b others)))
rising_same (a ∷ firsts) [] up down there back = absurd (none a (there a (in_head a firsts)))
rising_same (a ∷ firsts) (b ∷ others) up down there back =
    let rest : firsts ≡ others = rising_same firsts others up.1 down.1 kept came in
    ap (λ (x : Key). x ∷ firsts) same ∙ ap (λ (xs : List Key). b ∷ xs) rest
  where
    same : a ≡ b
    same =
        elim (in_cons b a others (there a (in_head a firsts))) [
          | inl it ↦ sym it
          | inr later ↦
              elim (in_cons a b firsts (back b (in_head b others))) [
                | inl it ↦ it
                | inr after ↦ absurd (let less = down.0 a later in let more = up.0 b after in omega (arith, less, more))
              ]
        ]

    kept : (k : Key) → Contains firsts k → Contains others k
    kept k h = elim (in_cons b k others (there k (in_tail a k firsts h))) [
      | inl it ↦ absurd (let less = up.0 k h in let one : number_of a ≡ number_of k = ap number_of (same ∙ it) in omega (arith, less, one))
      | inr later ↦ later
    ]

    came : (k : Key) → Contains others k → Contains firsts k
    came k h = elim (in_cons a k firsts (back k (in_tail b k others h))) [
      | inl it ↦ absurd (let less = down.0 k h in let one : number_of b ≡ number_of k = ap number_of (sym same ∙ it) in omega (arith, less, one))
      | inr later ↦ later
    ]

-- 3. A key among those that rise

inserted_in : (key k : Key) (xs : List Key) → Contains (with_index key xs) k → (key ≡ k) ⊎ Contains xs k
inserted_in key k [] h = in_cons key k [] h
inserted_in key k (x ∷ xs) h = go (inserted_in key k xs) (nat_lt (number_of x) (number_of key)) h
  where
    go : (Contains (with_index key xs) k → (key ≡ k) ⊎ Contains xs k) → (b : Bool) → Contains (if b then x ∷ with_index key xs else key ∷ x ∷ xs) k → (key ≡ k) ⊎ Contains (x ∷ xs) k
    go below true inside = elim (in_cons x k (with_index key xs) inside) [
      | inl it ↦ inr (subst (Contains (x ∷ xs)) it (in_head x xs))
      | inr later ↦ elim (below later) [ inl it ↦ inl it | inr further ↦ inr (in_tail x k xs further) ]
    ]
    go below false inside = in_cons key k (x ∷ xs) inside

in_inserted : (key k : Key) (xs : List Key) → (key ≡ k) ⊎ Contains xs k → Contains (with_index key xs) k
in_inserted key k [] (inl it) = subst (Contains (key ∷ [])) it (in_head key [])
in_inserted key k [] (inr h) = absurd (none k h)
in_inserted key k (x ∷ xs) h = go (in_inserted key k xs) (nat_lt (number_of x) (number_of key))
  where
    first : (key ≡ k) ⊎ Contains (x ∷ xs) k → Contains (key ∷ x ∷ xs) k
    first (inl it) = subst (Contains (key ∷ x ∷ xs)) it (in_head key (x ∷ xs))
    first (inr later) = in_tail key k (x ∷ xs) later

    later_on : ((key ≡ k) ⊎ Contains xs k → Contains (with_index key xs) k) → (key ≡ k) ⊎ Contains (x ∷ xs) k → Contains (x ∷ with_index key xs) k
    later_on below (inl it) = in_tail x k (with_index key xs) (below (inl it))
    later_on below (inr inside) = elim (in_cons x k xs inside) [
      | inl it ↦ subst (Contains (x ∷ with_index key xs)) it (in_head x (with_index key xs))
      | inr later ↦ in_tail x k (with_index key xs) (below (inr later))
    ]

    go : ((key ≡ k) ⊎ Contains xs k → Contains (with_index key xs) k) → (b : Bool) → Contains (if b then x ∷ with_index key xs else key ∷ x ∷ xs) k
    go below true = later_on below h
    go below false = first h

inserted_rises : (key : Key) (xs : List Key) → Rises xs → ((k : Key) → Contains xs k → number_of key ≡ number_of k → ⊥) → Rises (with_index key xs)
inserted_rises key [] up other = ((λ k h. absurd (none k h)), tt)
inserted_rises key (x ∷ xs) up other = go (inserted_rises key xs up.1 (λ k h. other k (in_tail x k xs h))) (nat_lt (number_of x) (number_of key)) refl
  where
    go : Rises (with_index key xs) → (b : Bool) → nat_lt (number_of x) (number_of key) ≡ b → Rises (if b then x ∷ with_index key xs else key ∷ x ∷ xs)
    go below true t = (
      (λ k h. elim (inserted_in key k xs h) [ inl it ↦ subst (λ (o : Key). number_of x < number_of o) it (ltb-true _ _ t) | inr later ↦ up.0 k later ]),
      below,
    )
    go below false t =
        let apart_below : number_of key < number_of x = (let least = ltb-false (number_of x) (number_of key) t in let apart = other x (in_head x xs) in omega (arith, least, apart)) in
        ((λ k h. elim (in_cons x k xs h) [ inl it ↦ subst (λ (o : Key). number_of key < number_of o) it apart_below | inr later ↦ (let more = up.0 k later in omega (arith, apart_below, more)) ]), up)

-- 4. Keys by their indices

by_index_in : (k : Key) (xs : List Key) → Contains (by_index xs) k → Contains xs k
by_index_in k [] h = h
by_index_in k (x ∷ xs) h = elim (inserted_in x k (by_index xs) h) [
  | inl it ↦ subst (Contains (x ∷ xs)) it (in_head x xs)
  | inr later ↦ in_tail x k xs (by_index_in k xs later)
]

in_by_index : (k : Key) (xs : List Key) → Contains xs k → Contains (by_index xs) k
in_by_index k [] h = h
in_by_index k (x ∷ xs) h = in_inserted x k (by_index xs) (elim (in_cons x k xs h) [ inl it ↦ inl it | inr later ↦ inr (in_by_index k xs later) ])

by_index_rises : (xs : List Key) → Apart xs → Rises (by_index xs)
by_index_rises [] apart = tt
by_index_rises (x ∷ xs) apart = inserted_rises x (by_index xs) (by_index_rises xs apart.1) (λ k h. apart.0 k (by_index_in k xs h))

not_falling_rises : (xs : List Key) → IsNonDecreasingBy number_of xs → Apart xs → Rises xs
not_falling_rises [] up apart = tt
not_falling_rises (x ∷ xs) up apart = (
  (λ k h. let least : number_of x ≤ number_of k = subst (λ (o : Key). number_of x ≤ number_of o) h.2 (up 0 (suc h.0) k (omega arith) (let lt = h.1 in omega (arith, lt))) in let other = apart.0 k h in omega (arith, least, other)),
  not_falling_rises xs (λ i j d low high. up (suc i) (suc j) d (omega (arith, low)) (omega (arith, high))) apart.1,
)

-- 5. An index tells its key

told_text : (text : List ℕ) → is_some (index_of_text text) ≡ true → text ≡ decimal (unwrap_or (index_of_text text) 0)
unfolding index_of_text
told_text text found = go (bytes_eq text (decimal (digits_value 10 text)) && nat_le (digits_value 10 text) 4294967294) refl found
  where
    go : (b : Bool) → (bytes_eq text (decimal (digits_value 10 text)) && nat_le (digits_value 10 text) 4294967294) ≡ b → is_some (if b then Some (digits_value 10 text) else None) ≡ true → text ≡ decimal (unwrap_or (if b then Some (digits_value 10 text) else None) 0)
    go true t some = (bytes_eq-Decides text (decimal (digits_value 10 text))).0 (and_parts _ _ t).0
    go false t some = absurd (true≢false (sym some))

number_told : (a b : Key) → is_index a ≡ true → is_index b ≡ true → number_of a ≡ number_of b → a ≡ b
number_told (Name a) (Name b) one two same = ap Name (told_text a one ∙ ap decimal same ∙ sym (told_text b two))
number_told (Name a) (Sym b) one two same = absurd (true≢false (sym two))
number_told (Sym a) b one two same = absurd (true≢false (sym one))

-- keys that differ and are indices have numbers that differ
differs : (key k : Key) (xs : List Key) → AllByRecursion (λ (y : Key). same_key key y ≡ false) xs → Contains xs k → key ≡ k → ⊥
differs key k [] all h same = none k h
differs key k (x ∷ xs) all h same = elim (in_cons x k xs h) [
  | inl it ↦ true≢false (sym (key_self key) ∙ ap (same_key key) (same ∙ sym it) ∙ all.0)
  | inr later ↦ differs key k xs all.1 later same
]

apart : (xs : List Key) → IsDistinct same_key xs → ((k : Key) → Contains xs k → is_index k ≡ true) → Apart xs
unfolding IsDistinct
apart [] distinct indices = tt
apart (x ∷ xs) distinct indices = (
  (λ k h same. differs x k xs distinct.0 h (number_told x k (indices x (in_head x xs)) (indices k (in_tail x k xs h)) same)),
  apart xs distinct.1 (λ k h. indices k (in_tail x k xs h)),
)

front_all : (key : Key) (xs ys : List Key) → AllByRecursion (λ (y : Key). same_key key y ≡ false) (xs ++ ys) → AllByRecursion (λ (y : Key). same_key key y ≡ false) xs
front_all key [] ys all = tt
front_all key (x ∷ xs) ys all = (all.0, front_all key xs ys all.1)

front_distinct : (xs ys : List Key) → IsDistinct same_key (xs ++ ys) → IsDistinct same_key xs
unfolding IsDistinct
front_distinct [] ys distinct = tt
front_distinct (x ∷ xs) ys distinct = (front_all x xs ys distinct.0, front_distinct xs ys distinct.1)

-- 6. The keys

pub keys_are : (keys result : List Key) → OwnKeys keys result → result ≡ own_keys_of keys
keys_are keys result own =
    let indices = own.indices in
    let some = filter is_index keys in
    let back = IsPermutation-sym some indices own.all in
    let once : IsDistinct same_key indices = front_distinct indices (filter is_name keys ++ filter is_symbol keys) (subst (IsDistinct same_key) own.is own.once) in
    let are : (k : Key) → Contains some k → is_index k ≡ true = (λ k h. passes is_index keys k h) in
    let far : Apart some = apart some (IsDistinct-IsPermutation same_key same_key_equiv.symm indices some back once) are in
    let far_sorted : Apart indices = apart indices once (λ k h. are k (Contains-permutation indices some k back h)) in
    own.is ∙ ap (λ (front : List Key). front ++ (filter is_name keys ++ filter is_symbol keys))
    (rising_same indices (by_index some) (not_falling_rises indices own.ascending far_sorted) (by_index_rises some far)
    (λ k h. in_by_index k some (Contains-permutation indices some k back h))
    (λ k h. Contains-permutation some indices k own.all (by_index_in k some h)))
