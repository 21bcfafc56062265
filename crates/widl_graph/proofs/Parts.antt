-- Lists that lie one after another in one list: one more list, one more item, and the list at a place.
use Rattle.std.proofs.Common.{◌≡◌, ℕ, ◌+◌, ◌-◌, ◌<◌, ◌≤◌, zero, suc, List, [], ◌∷◌, ◌++◌, length, get_or, take, drop, take_all, drop_of_length-le, add-one, refl, sym, ap, arith, length-drop}
use Rattle.std.proofs.lemmas.List.{take-append-le, drop-append-le}
use Rattle.widl_graph.specs.Lists.{lists_of, with_successor, Begins}

pub length-lists_of : (begins xs : List ℕ) → length (lists_of begins xs) ≡ length begins
length-lists_of [] xs = refl
length-lists_of (b ∷ []) xs = refl
length-lists_of (b ∷ (e ∷ rest)) xs = ap suc (length-lists_of (e ∷ rest) xs)

pub Begins-push : (begins : List ℕ) (end : ℕ) → Begins begins end → Begins (begins ++ end ∷ []) end
Begins-push [] end h = omega arith
Begins-push (b ∷ []) end h = (h, omega arith)
Begins-push (b ∷ (e ∷ rest)) end h = (h.0, Begins-push (e ∷ rest) end h.1)

pub Begins-more : (begins : List ℕ) (end more : ℕ) → Begins begins end → end ≤ more → Begins begins more
Begins-more [] end more h l = tt
Begins-more (b ∷ []) end more h l = omega arith
Begins-more (b ∷ (e ∷ rest)) end more h l = (h.0, Begins-more (e ∷ rest) end more h.1 l)

-- the first place is not past the end
first_begin : (b : ℕ) (rest : List ℕ) (end : ℕ) → Begins (b ∷ rest) end → b ≤ end
first_begin b [] end h = h
first_begin b (e ∷ rest) end h = let l = first_begin e rest end h.1 in omega (arith, l, h.0)

-- a list more, of which nothing is there yet
pub lists_of-push_begin : (begins xs : List ℕ) → Begins begins (length xs) → lists_of (begins ++ length xs ∷ []) xs ≡ lists_of begins xs ++ [] ∷ []
lists_of-push_begin [] xs h = ap (λ l. l ∷ []) (drop_of_length-le xs (omega arith))
lists_of-push_begin (b ∷ []) xs h =
    let all : take (length xs - b) (drop b xs) ≡ drop b xs = take_all (length xs - b) (drop b xs) (omega (arith, length-drop b xs)) in
    let none : drop (length xs) xs ≡ [] = drop_of_length-le xs (omega arith) in
    cc
lists_of-push_begin (b ∷ (e ∷ rest)) xs h = ap (λ l. take (e - b) (drop b xs) ∷ l) (lists_of-push_begin (e ∷ rest) xs h.1)

-- only the last list gets an item more
skips : (xs : List ℕ) (rest : List (List ℕ)) (x : ℕ) → 0 < length rest → with_successor (xs ∷ rest) x ≡ xs ∷ with_successor rest x
skips xs [] x h = absurd (omega arith)
skips xs (ys ∷ rest) x h = refl

-- an item more, at the end of the last list
pub lists_of-push : (begins xs : List ℕ) (x : ℕ) → Begins begins (length xs) → lists_of begins (xs ++ x ∷ []) ≡ with_successor (lists_of begins xs) x
lists_of-push [] xs x h = refl
lists_of-push (b ∷ []) xs x h = ap (λ l. l ∷ []) (drop-append-le b xs (x ∷ []) h)
lists_of-push (b ∷ (e ∷ rest)) xs x h =
    let within : b ≤ length xs = first_begin b (e ∷ rest) (length xs) h in
    let size : length (drop b xs) ≡ length xs - b = length-drop b xs in
    let last : e ≤ length xs = first_begin e rest (length xs) h.1 in
    let from : drop b (xs ++ x ∷ []) ≡ drop b xs ++ x ∷ [] = drop-append-le b xs (x ∷ []) within in
    let part : take (e - b) (drop b xs ++ x ∷ []) ≡ take (e - b) (drop b xs) = take-append-le (e - b) (drop b xs) (x ∷ []) (omega arith) in
    let others : lists_of (e ∷ rest) (xs ++ x ∷ []) ≡ with_successor (lists_of (e ∷ rest) xs) x = lists_of-push (e ∷ rest) xs x h.1 in
    let skip : with_successor (take (e - b) (drop b xs) ∷ lists_of (e ∷ rest) xs) x ≡ take (e - b) (drop b xs) ∷ with_successor (lists_of (e ∷ rest) xs) x = skips (take (e - b) (drop b xs)) (lists_of (e ∷ rest) xs) x (omega (arith, length-lists_of (e ∷ rest) xs)) in
    rw (from, part, others) (sym skip)

-- the list at a place
pub lists_of-at : (begins xs : List ℕ) (place : ℕ) → Begins begins (length xs) → place < length begins → get_or (lists_of begins xs) place [] ≡ take (get_or begins (suc place) (length xs) - get_or begins place 0) (drop (get_or begins place 0) xs)
lists_of-at [] xs place h l = absurd (omega arith)
lists_of-at (b ∷ []) xs zero h l = sym (take_all (length xs - b) (drop b xs) (omega (arith, length-drop b xs)))
lists_of-at (b ∷ []) xs (suc place) h l = absurd (omega arith)
lists_of-at (b ∷ (e ∷ rest)) xs zero h l = refl
lists_of-at (b ∷ (e ∷ rest)) xs (suc place) h l = lists_of-at (e ∷ rest) xs place h.1 (omega arith)

-- each place is within the items
pub begin_within : (begins : List ℕ) (end place : ℕ) → Begins begins end → place < length begins → get_or begins place 0 ≤ end
begin_within [] end place h l = absurd (omega arith)
begin_within (b ∷ rest) end zero h l = first_begin b rest end h
begin_within (b ∷ []) end (suc place) h l = absurd (omega arith)
begin_within (b ∷ (e ∷ rest)) end (suc place) h l = begin_within (e ∷ rest) end place h.1 (omega arith)

by_suc : (begins : List ℕ) (end place : ℕ) → Begins begins end → suc place < length begins → get_or begins place 0 ≤ get_or begins (suc place) 0
by_suc [] end place h l = absurd (omega arith)
by_suc (b ∷ []) end place h l = absurd (omega arith)
by_suc (b ∷ (e ∷ rest)) end zero h l = h.0
by_suc (b ∷ (e ∷ rest)) end (suc place) h l = by_suc (e ∷ rest) end place h.1 (omega arith)

-- and not past the next one
pub begin_next : (begins : List ℕ) (end place : ℕ) → Begins begins end → place + 1 < length begins → get_or begins place 0 ≤ get_or begins (place + 1) 0
begin_next begins end place h l = rw (add-one place) (by_suc begins end place h (omega arith))
