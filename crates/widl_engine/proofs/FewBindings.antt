-- For proofs alone. Bindings without an index: a walk over them, and what is bound at a place.
use Rattle.std.proofs.Common.{◌≡◌, ℕ, zero, suc, ◌+◌, ◌<◌, ◌≤◌, Bool, true, false, if◌then◌else◌, Option, Some, None, List, [], ◌∷◌, ◌++◌, length, get_or, refl, sym, ◌∙◌, ap, subst, arith, nat_eq, cond}
use Rattle.std.specs.List.{slice_get, slice_set}
use Rattle.std.specs.Prelude.{⊤, Result, Ok, Err, OnOk}
use Rattle.std.proofs.lemmas.Bool.Decides.{Decides-eqb}
use Rattle.std.proofs.lemmas.List.{append_assoc}
use Rattle.std.specs.Map.{lookup}
use Rattle.indexmap.specs.IndexMap.{insert_entry}
use Rattle.widl_value.specs.declared.value.Value.{Value}
use Rattle.widl_engine.specs.Bound.{NoneBefore, IsBoundAt}
use Rattle.std.proofs.lemmas.Option.{slice_get-get_or}

other_number : (n m : ℕ) → (m ≡ n → ⊥) → nat_eq n m ≡ false
other_number n m differ = go (nat_eq n m) refl
  where
    go : (b : Bool) → nat_eq n m ≡ b → b ≡ false
    go true is = absurd (differ (sym ((Decides-eqb n m).0 is)))
    go false is = refl

abbrev pub Few : Type 0
Few = List (ℕ × Value)

pub none_more : (n : ℕ) (es : Few) (i : ℕ) (e : ℕ × Value) → NoneBefore n es i → slice_get es i ≡ Some e → nat_eq n e.0 ≡ false → NoneBefore n es (suc i)
none_more n [] zero e none at other = tt
none_more n [] (suc i) e none at other = tt
none_more n (x ∷ es) zero e none at other =
    let same : x ≡ e = let f : Some x ≡ Some e = at in cc in
    (ap (λ (y : ℕ × Value). nat_eq n y.0) same ∙ other, tt)
none_more n (x ∷ es) (suc i) e none at other = (none.0, none_more n es i e none.1 at other)

pub none_bound : (n : ℕ) (es : Few) (i : ℕ) → NoneBefore n es i → length es ≤ i → lookup (nat_eq n) es ≡ None
none_bound n [] i none all = refl
none_bound n (x ∷ es) zero none all = absurd (omega (arith, all))
none_bound n (x ∷ es) (suc i) none all = ap (λ (b : Bool). cond b (Some x.1) (lookup (nat_eq n) es)) none.0 ∙ none_bound n es i none.1 (omega (arith, all))

pub lookup_at : (n : ℕ) (es fs : Few) (i : ℕ) (e : ℕ × Value) → NoneBefore n es i → slice_get es i ≡ Some e → nat_eq n e.0 ≡ true → lookup (nat_eq n) (es ++ fs) ≡ Some e.1
lookup_at n [] fs i e none at here = absurd (let bad : None ≡ Some e = at in cc)
lookup_at n (x ∷ es) fs zero e none at here =
    let same : x ≡ e = let f : Some x ≡ Some e = at in cc in
    ap (λ (b : Bool). cond b (Some x.1) (lookup (nat_eq n) (es ++ fs))) (ap (λ (y : ℕ × Value). nat_eq n y.0) same ∙ here) ∙ ap (λ (y : ℕ × Value). Some y.1) same
lookup_at n (x ∷ es) fs (suc i) e none at here =
    ap (λ (b : Bool). cond b (Some x.1) (lookup (nat_eq n) (es ++ fs))) none.0 ∙ lookup_at n es fs i e none.1 at here

pub insert_at : (n : ℕ) (v : Value) (es fs : Few) (i : ℕ) (e : ℕ × Value) → NoneBefore n es i → slice_get es i ≡ Some e → nat_eq n e.0 ≡ true → slice_set es i (e.0, v) ++ fs ≡ insert_entry nat_eq (es ++ fs) n v
insert_at n v [] fs i e none at here = absurd (let bad : None ≡ Some e = at in cc)
insert_at n v (x ∷ es) fs zero e none at here =
    let same : x ≡ e = let f : Some x ≡ Some e = at in cc in
    ap (λ (y : ℕ × Value). (y.0, v) ∷ (es ++ fs)) (sym same)
    ∙ ap (λ (b : Bool). if b then (x.0, v) ∷ (es ++ fs) else x ∷ insert_entry nat_eq (es ++ fs) n v) (sym (ap (λ (y : ℕ × Value). nat_eq n y.0) same ∙ here))
insert_at n v (x ∷ es) fs (suc i) e none at here =
    ap (λ (l : Few). x ∷ l) (insert_at n v es fs i e none.1 at here)
    ∙ ap (λ (b : Bool). if b then (x.0, v) ∷ (es ++ fs) else x ∷ insert_entry nat_eq (es ++ fs) n v) (sym none.0)

either_absent : (b : Bool) (v : Value) (o : Option Value) → cond b (Some v) o ≡ None → (b ≡ false) × (o ≡ None)
either_absent true v o is = absurd (let bad : Some v ≡ None = is in cc)
either_absent false v o is = (refl, is)

pub lookup_past : (n : ℕ) (es fs : Few) → lookup (nat_eq n) es ≡ None → lookup (nat_eq n) (es ++ fs) ≡ lookup (nat_eq n) fs
lookup_past n [] fs none = refl
lookup_past n (x ∷ es) fs none =
    let r = either_absent (nat_eq n x.0) x.1 (lookup (nat_eq n) es) none in
    ap (λ (b : Bool). cond b (Some x.1) (lookup (nat_eq n) (es ++ fs))) r.0 ∙ lookup_past n es fs r.1

pub insert_past : (n : ℕ) (v : Value) (es fs : Few) → lookup (nat_eq n) es ≡ None → es ++ insert_entry nat_eq fs n v ≡ insert_entry nat_eq (es ++ fs) n v
insert_past n v [] fs none = refl
insert_past n v (x ∷ es) fs none =
    let r = either_absent (nat_eq n x.0) x.1 (lookup (nat_eq n) es) none in
    ap (λ (l : Few). x ∷ l) (insert_past n v es fs r.1)
    ∙ ap (λ (b : Bool). if b then (x.0, v) ∷ (es ++ fs) else x ∷ insert_entry nat_eq (es ++ fs) n v) (sym r.0)

at_place : (es : Few) (i : ℕ) (r : ℕ × Value) → i < length es → r ≡ get_or es i r → slice_get es i ≡ Some r
at_place es i r lt is = slice_get-get_or es i r lt ∙ ap Some (sym is)

pub walk_on : (n : ℕ) (es : Few) (i : ℕ) (r : ℕ × Value) → i < length es → NoneBefore n es i → r ≡ get_or es i r → ((get_or es i r).0 ≡ n → ⊥) → NoneBefore n es (i + 1)
walk_on n es i r lt none is other =
    let next : suc i ≡ i + 1 = omega arith in
    subst (NoneBefore n es) next (none_more n es i r none (at_place es i r lt is) (other_number n r.0 (λ same. other (ap (λ (y : ℕ × Value). y.0) (sym is) ∙ same))))

pub value_found : (n : ℕ) (es fs : Few) (i : ℕ) (r : ℕ × Value) → IsBoundAt n es i → r ≡ get_or es i r → Some r.1 ≡ lookup (nat_eq n) (es ++ fs)
value_found n es fs i r at is =
    sym (lookup_at n es fs i r at.1 (at_place es i r at.0 is) (ap (λ (y : ℕ × Value). nat_eq n y.0) is ∙ at.2 r))

pub set_found : (n : ℕ) (v : Value) (es fs : Few) (i : ℕ) (r : ℕ × Value) → IsBoundAt n es i → r ≡ get_or es i r → slice_set es i (r.0, v) ++ fs ≡ insert_entry nat_eq (es ++ fs) n v
set_found n v es fs i r at is = insert_at n v es fs i r at.1 (at_place es i r at.0 is) (ap (λ (y : ℕ × Value). nat_eq n y.0) is ∙ at.2 r)

-- a binding behind the few, and one last
pub added_last : (n : ℕ) (v : Value) (es fs : Few) → lookup (nat_eq n) es ≡ None → fs ≡ [] → (es ++ (n, v) ∷ []) ++ fs ≡ insert_entry nat_eq (es ++ fs) n v
added_last n v es fs none is =
    append_assoc es ((n, v) ∷ []) fs
    ∙ ap (λ (l : Few). es ++ (n, v) ∷ l) is
    ∙ insert_past n v es [] none
    ∙ ap (λ (l : Few). insert_entry nat_eq (es ++ l) n v) (sym is)

pub added_last_on : {E : Type 0} (n : ℕ) (v : Value) (es gs fs : Few) (r : Result ⊤ E) → lookup (nat_eq n) es ≡ None → fs ≡ [] → OnOk r (gs ≡ es ++ (n, v) ∷ []) → OnOk r (gs ++ fs ≡ insert_entry nat_eq (es ++ fs) n v)
added_last_on n v es gs fs (Ok u) none is h = ap (λ (l : Few). l ++ fs) h ∙ added_last n v es fs none is
added_last_on n v es gs fs (Err e) none is h = tt

pub added_on : {E : Type 0} (n : ℕ) (v : Value) (es fs gs : Few) (r : Result ⊤ E) → lookup (nat_eq n) es ≡ None → OnOk r (gs ≡ insert_entry nat_eq fs n v) → OnOk r (es ++ gs ≡ insert_entry nat_eq (es ++ fs) n v)
added_on n v es fs gs (Ok u) none h = ap (λ (l : Few). es ++ l) h ∙ insert_past n v es fs none
added_on n v es fs gs (Err e) none h = tt

pub at_in_same : (n : ℕ) (es fs : Few) (i : ℕ) → fs ≡ es → IsBoundAt n fs i → IsBoundAt n es i
at_in_same n es fs i is at = subst (λ (l : Few). IsBoundAt n l i) is at
