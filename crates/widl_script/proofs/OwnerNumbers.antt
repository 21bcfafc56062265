-- The owners of names, one by one.
use Rattle.std.proofs.Common.{◌≡◌, ℕ, zero, suc, ◌+◌, ◌<◌, ◌≤◌, Bool, true, false, cond, List, [], ◌∷◌, length, take, slice_get, slice_index, Option, Some, None, refl, sym, ◌∙◌, ap, arith, if◌then◌else◌, nat_lt, nat_eq, ltb-true, ltb-false, lt-ltb, eqb-true, eq-eqb, true≢false}
use Rattle.std.specs.Prelude.{bytes_eq, position}
use Rattle.std.specs.List.{position_from}
use Rattle.std.specs.Option.{option_or}
use Rattle.std.proofs.lemmas.Iterator.Adapters.{position_from-zero}
use Rattle.std.proofs.lemmas.Option.{slice_get-get_or, slice_get_past}
use Rattle.std.proofs.lemmas.Slice.Eq.{bytes_eq-Decides}
use Rattle.widl_idl.specs.declared.callee.Owner.{Owner}
use Rattle.widl_idl.specs.declared.callee.Owner.TheVariants as owners
use Rattle.widl_idl.specs.DefinitionTerms.{DefsTerm, IfaceTerm, SpaceTerm}
use Rattle.widl_overload.specs.OperationsAlone.{HasOperationsAlone}
use Rattle.widl_script_tree.specs.Tables.{Tables, key_at, name_at, name_or}
use Rattle.widl_script_rules.proofs.OwnerTexts.{no_ifaces}
use Rattle.widl_script.specs.Owners.{owner_there}
use Rattle.widl_script.specs.Scripts.{owner_named, owner_or}

-- 1. The first of a name

from_next : {X : Type 0} (p : X → Bool) (i : ℕ) (xs : List X) (k : ℕ) (x : X) → slice_get xs k ≡ Some x →
    position_from p i (take (suc k) xs) ≡ option_or (position_from p i (take k xs)) (if p x then Some (i + k) else None)
from_next p i [] k x h = cc
from_next p i (y ∷ xs) zero x h = let e : y ≡ x = cc in let here : i ≡ i + 0 = omega arith in ap (λ z. if p z then Some i else None) e ∙ ap (λ n. if p x then Some n else None) here
from_next p i (y ∷ xs) (suc k) x h = by (p y) (from_next p (i + 1) xs k x h)
  where
    by : (c : Bool) → position_from p (i + 1) (take (suc k) xs) ≡ option_or (position_from p (i + 1) (take k xs)) (if p x then Some ((i + 1) + k) else None) →
        cond c (Some i) (position_from p (i + 1) (take (suc k) xs)) ≡ option_or (cond c (Some i) (position_from p (i + 1) (take k xs))) (if p x then Some (i + suc k) else None)
    by true e = refl
    by false e =
        let one : (i + 1) + k ≡ i + suc k = omega arith in
        e ∙ ap (λ n. option_or (position_from p (i + 1) (take k xs)) (if p x then Some n else None)) one

position_next : {X : Type 0} (p : X → Bool) (xs : List X) (k : ℕ) (x : X) → slice_get xs k ≡ Some x → position p (take (k + 1) xs) ≡ option_or (position p (take k xs)) (if p x then Some k else None)
position_next p xs k x h =
    let one : k + 1 ≡ suc k = omega arith in
    let zero_more : 0 + k ≡ k = omega arith in
    ap (λ n. position p (take n xs)) one ∙ position_from-zero p (take (suc k) xs) ∙ from_next p 0 xs k x h
    ∙ ap (λ n. option_or (position_from p 0 (take k xs)) (if p x then Some n else None)) zero_more
    ∙ ap (λ o. option_or o (if p x then Some k else None)) (sym (position_from-zero p (take k xs)))

owner_joined : (a b : Option ℕ) → owner_or None (option_or a b) ≡ option_or (owner_or None a) (owner_or None b)
owner_joined None b = refl
owner_joined (Some n) b = refl

owner_if : (c : Bool) (k : ℕ) → owner_or None (if c then Some k else None) ≡ (if c then Some (owners.Space k) else None)
owner_if true k = refl
owner_if false k = refl

pub owner_next : (spaces : List SpaceTerm) (k : ℕ) (n : SpaceTerm) (text : List ℕ) → slice_get spaces k ≡ Some n →
    owner_there (take (k + 1) spaces) text ≡ option_or (owner_there (take k spaces) text) (if bytes_eq text n.name then Some (owners.Space k) else None)
owner_next spaces k n text is =
    let p : SpaceTerm → Bool = λ (s : SpaceTerm). bytes_eq text s.name in
    ap (owner_or None) (position_next p spaces k n is) ∙ owner_joined (position p (take k spaces)) (if p n then Some k else None)
    ∙ ap (λ o. option_or (owner_there (take k spaces) text) o) (owner_if (p n) k)

-- a text with a unit above 16 bits is no name
pub not_large : (unit : ℕ) (name : List ℕ) → ((place : ℕ) → slice_index name place < 65536) → bytes_eq ((65536 + unit) ∷ []) name ≡ false
not_large unit name small = by (bytes_eq ((65536 + unit) ∷ []) name) refl
  where
    by : (c : Bool) → bytes_eq ((65536 + unit) ∷ []) name ≡ c → c ≡ false
    by false e = refl
    by true e =
        let same : ((65536 + unit) ∷ []) ≡ name = (bytes_eq-Decides ((65536 + unit) ∷ []) name).0 e in
        let first : 65536 + unit ≡ slice_index name 0 = ap (λ t. slice_index t 0) same in
        absurd (omega (arith, first, small 0))

-- 2. Names by their numbers

next_named : (f : ℕ → Option Owner) (q n : ℕ) → option_or (if nat_eq q n then f n else None) (if nat_lt q n then f q else None) ≡ (if nat_lt q (n + 1) then f q else None)
next_named f q n = by (nat_lt q n) refl (nat_eq q n) refl
  where
    none_after : (o : Option Owner) → option_or o None ≡ o
    none_after None = refl
    none_after (Some x) = refl

    by : (c : Bool) → nat_lt q n ≡ c → (d : Bool) → nat_eq q n ≡ d → option_or (if d then f n else None) (if c then f q else None) ≡ (if nat_lt q (n + 1) then f q else None)
    by true e true g = absurd (omega (arith, ltb-true q n e, eqb-true q n g))
    by true e false g = ap (λ c. if c then f q else None) (sym (lt-ltb q (n + 1) (omega (arith, ltb-true q n e))))
    by false e true g = none_after (f n) ∙ ap f (sym (eqb-true q n g)) ∙ ap (λ c. if c then f q else None) (sym (lt-ltb q (n + 1) (omega (arith, eqb-true q n g))))
    by false e false g = high (nat_lt q (n + 1)) refl
      where
        high : (c : Bool) → nat_lt q (n + 1) ≡ c → None ≡ (if c then f q else None)
        high false h = refl
        high true h =
            let low : q < n + 1 = ltb-true q (n + 1) h in
            let far : n ≤ q = ltb-false q n e in
            let here : q ≡ n = omega (arith, low, far) in
            absurd (true≢false (sym (eq-eqb q n here) ∙ g))

-- one name more
pub named_step : (f : ℕ → Option Owner) (g new old : Option Owner) (q n : ℕ) → new ≡ option_or (if nat_eq q n then g else None) old → g ≡ f n → old ≡ (if nat_lt q n then f q else None) → new ≡ (if nat_lt q (n + 1) then f q else None)
named_step f g new old q n put here before =
    put ∙ ap (λ o. option_or (if nat_eq q n then o else None) old) here ∙ ap (λ o. option_or (if nat_eq q n then f n else None) o) before ∙ next_named f q n

-- where there are no interfaces, owners are namespaces
pub owner_is : (list : DefsTerm) (text : List ℕ) → HasOperationsAlone list → owner_there list.spaces text ≡ owner_named list text
owner_is list text rules =
    let p : IfaceTerm → Bool = λ (i : IfaceTerm). bytes_eq text i.name in
    let nowhere : position p list.ifaces ≡ None = ap (position p) (no_ifaces list rules) ∙ position_from-zero p [] in
    ap (λ o. owner_or o (position (λ (n : SpaceTerm). bytes_eq text n.name) list.spaces)) (sym nowhere)

-- the name of a number, where there is one
pub name_there : (t : Tables) (q : ℕ) → q < length t.names → key_at t q ≡ name_at t q
name_there t q low = ap (name_or q) (sym (slice_get-get_or t.names q [] low))

pub name_past : (t : Tables) (q : ℕ) → length t.names ≤ q → name_at t q ≡ ((65536 + q) ∷ [])
name_past t q high = ap (name_or q) (slice_get_past t.names q high)

-- names by their numbers
pub by_number : (t : Tables) (list : DefsTerm) (f : List ℕ → Option Owner) (q n : ℕ) → n ≡ length t.names → ((text : List ℕ) → f text ≡ owner_there list.spaces text) →
    ((unit : ℕ) → owner_there list.spaces ((65536 + unit) ∷ []) ≡ None) → HasOperationsAlone list → (if nat_lt q n then f (key_at t q) else None) ≡ owner_named list (name_at t q)
by_number t list f q n end same none rules = by (nat_lt q n) refl
  where
    by : (c : Bool) → nat_lt q n ≡ c → (if c then f (key_at t q) else None) ≡ owner_named list (name_at t q)
    by true e = same (key_at t q) ∙ ap (owner_there list.spaces) (name_there t q (omega (arith, ltb-true q n e, end))) ∙ owner_is list (name_at t q) rules
    by false e = sym (ap (owner_named list) (name_past t q (omega (arith, ltb-false q n e, end))) ∙ sym (owner_is list ((65536 + q) ∷ []) rules) ∙ none q)
