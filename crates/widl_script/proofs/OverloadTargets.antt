-- The steps blocks for the overloads of a list, overload by overload.
use Rattle.std.proofs.Common.{◌≡◌, ℕ, zero, suc, ◌+◌, ◌<◌, ◌≤◌, Bool, true, false, cond, ◌&&◌, List, [], ◌∷◌, length, slice_get, Option, Some, None, is_some, option_map, refl, sym, ◌∙◌, ap, subst, arith, if◌then◌else◌, nat_eq, nat_lt, ltb-true, ltb-false, lt-ltb, eqb-true, eq-eqb, true≢false}
use Rattle.std.specs.Prelude.{IsSome}
use Rattle.std.specs.Map.{lookup}
use Rattle.std.specs.Option.{option_or}
use Rattle.std.proofs.lemmas.Option.{slice_get_past}
use Rattle.indexmap.specs.IndexMap.{IndexMap}
use Rattle.widl_idl.specs.DefinitionTerms.{OpNameTerm, SpaceTerm}
use Rattle.widl_script_tree.specs.Tables.{CalleeOverload, same_overload}
use Rattle.widl_script_rules.specs.declared.operation_target.OperationTarget.{OperationTarget}
use Rattle.widl_script.specs.CalleeBlocks.{block_for, block_in, block_of}
use Rattle.widl_script.proofs.FirstBlocks.{or_joined, or_nothing}

-- 1. One more of several

next_of : {X : Type 0} (f : ℕ → Option X) (n q : ℕ) → option_or (if nat_eq n q then f n else None) (if nat_lt q n then f q else None) ≡ (if nat_lt q (n + 1) then f q else None)
next_of f n q = by (nat_lt q n) refl (nat_eq n q) refl
  where
    by : (c : Bool) → nat_lt q n ≡ c → (d : Bool) → nat_eq n q ≡ d → option_or (if d then f n else None) (if c then f q else None) ≡ (if nat_lt q (n + 1) then f q else None)
    by true e true g = absurd (omega (arith, ltb-true q n e, eqb-true n q g))
    by true e false g = ap (λ c. if c then f q else None) (sym (lt-ltb q (n + 1) (omega (arith, ltb-true q n e))))
    by false e true g = or_nothing (f n) ∙ ap f (eqb-true n q g) ∙ ap (λ c. if c then f q else None) (sym (lt-ltb q (n + 1) (omega (arith, eqb-true n q g))))
    by false e false g = high (nat_lt q (n + 1)) refl
      where
        high : (c : Bool) → nat_lt q (n + 1) ≡ c → None ≡ (if c then f q else None)
        high false h = refl
        high true h =
            let low : q < n + 1 = ltb-true q (n + 1) h in
            let far : n ≤ q = ltb-false q n e in
            let here : n ≡ q = omega (arith, low, far) in
            absurd (true≢false (sym (eq-eqb n q here) ∙ g))

-- what is told of the first of several, and of one more
pub next_if : {X : Type 0} (b : Bool) (f : ℕ → Option X) (g new old start : Option X) (q n : ℕ) → new ≡ option_or (if b && nat_eq n q then g else None) old → g ≡ f n → old ≡ option_or (if b && nat_lt q n then f q else None) start →
    new ≡ option_or (if b && nat_lt q (n + 1) then f q else None) start
next_if false f g new old start q n put here before = put ∙ before
next_if true f g new old start q n put here before =
    put ∙ ap (λ o. option_or (if nat_eq n q then o else None) old) here ∙ ap (option_or (if nat_eq n q then f n else None)) before
    ∙ or_joined (if nat_eq n q then f n else None) (if nat_lt q n then f q else None) start ∙ ap (λ o. option_or o start) (next_of f n q)

-- of none so far nothing is told
pub none_if : {X : Type 0} (b : Bool) (f : ℕ → Option X) (q : ℕ) (start : Option X) → start ≡ option_or (if b && nat_lt q 0 then f q else None) start
none_if b f q start = by (b && nat_lt q 0) (low b (nat_lt q 0) refl)
  where
    low : (b c : Bool) → nat_lt q 0 ≡ c → (b && c) ≡ false
    low false c e = refl
    low true false e = refl
    low true true e = absurd (omega (arith, ltb-true q 0 e))

    by : (c : Bool) → c ≡ false → start ≡ option_or (if c then f q else None) start
    by false e = refl
    by true e = absurd (true≢false e)

-- all of them
pub each_if : {X : Type 0} (b c : Bool) (x y : Option X) → (if c then x else None) ≡ y → (if b && c then x else None) ≡ (if b then y else None)
each_if true c x y e = e
each_if false c x y e = refl

-- past the end there is nothing
pub all_of : {X : Type 0} (f : ℕ → Option X) (q n : ℕ) → (n ≤ q → f q ≡ None) → (if nat_lt q n then f q else None) ≡ f q
all_of f q n past = by (nat_lt q n) refl
  where
    by : (c : Bool) → nat_lt q n ≡ c → (if c then f q else None) ≡ f q
    by true e = refl
    by false e = sym (past (ltb-false q n e))

-- what is put under a key is found there
pub put_first : (E : CalleeOverload → CalleeOverload → Bool) → ((a b : CalleeOverload) → E a b ≡ same_overload a b) → (old new : List (CalleeOverload × ℕ)) (key q : CalleeOverload) (number : ℕ) → lookup (E q) new ≡ cond (E key q) (Some number) (lookup (E q) old) →
    lookup (same_overload q) new ≡ option_or (if same_overload key q then Some number else None) (lookup (same_overload q) old)
put_first E same old new key q number put =
    let found : (entries : List (CalleeOverload × ℕ)) → lookup (E q) entries ≡ lookup (same_overload q) entries = λ entries. λ i. lookup (λ x. same q x i) entries in
    sym (found new) ∙ put ∙ ap (λ b. cond b (Some number) (lookup (E q) old)) (same key q) ∙ ap (λ o. cond (same_overload key q) (Some number) o) (found old) ∙ by (same_overload key q) (lookup (same_overload q) old)
  where
    by : (b : Bool) (o : Option ℕ) → cond b (Some number) o ≡ option_or (if b then Some number else None) o
    by true o = refl
    by false o = refl

-- 2. Lists of operations and namespaces

pub past_operations : {S : Type 0} (blocks : IndexMap OperationTarget ℕ S) (owner : List ℕ) (ops : List OpNameTerm) (m k : ℕ) → length ops ≤ m → block_of blocks owner (slice_get ops m) k ≡ None
past_operations blocks owner ops m k past = ap (λ o. block_of blocks owner o k) (slice_get_past ops m past)

pub past_spaces : {S : Type 0} (blocks : IndexMap OperationTarget ℕ S) (spaces : List SpaceTerm) (n m k : ℕ) → length spaces ≤ n → block_in blocks (slice_get spaces n) m k ≡ None
past_spaces blocks spaces n m k past = ap (λ o. block_in blocks o m k) (slice_get_past spaces n past)

-- the number of an overload that is there
pub some_low : {X : Type 0} (xs : List X) (k : ℕ) → IsSome (slice_get xs k) → nat_lt k (length xs) ≡ true
some_low [] k h = absurd (true≢false (sym h))
some_low (x ∷ xs) zero h = lt-ltb 0 (length (x ∷ xs)) (omega arith)
some_low (x ∷ xs) (suc k) h =
    let low : k < length xs = ltb-true k (length xs) (some_low xs k h) in
    lt-ltb (suc k) (length (x ∷ xs)) (omega (arith, low))

-- an overload that is there
pub overload_there : {S : Type 0} (blocks : IndexMap OperationTarget ℕ S) (space : SpaceTerm) (o : OpNameTerm) (m k : ℕ) (found : Option SpaceTerm) → found ≡ Some space → slice_get space.members.ops m ≡ Some o → nat_lt k (length o.sigs) ≡ true →
    block_in blocks found m k ≡ block_for blocks space.name o.name k
overload_there blocks space o m k found is there low =
    ap (λ s. block_in blocks s m k) is ∙ ap (λ x. block_of blocks space.name x k) there ∙ ap (λ b. if b then block_for blocks space.name o.name k else None) low
