-- Names of interfaces and namespaces, one by one.
use Rattle.std.proofs.Common.{◌≡◌, ℕ, zero, suc, ◌+◌, Bool, true, false, ◌||◌, ◌&&◌, List, [], ◌∷◌, take, slice_get, Option, Some, None, is_some, if◌then◌else◌, refl, sym, ◌∙◌, ap, arith, cond, true≢false}
use Rattle.std.specs.Prelude.{bytes_eq}
use Rattle.std.proofs.lemmas.Slice.Eq.{bytes_eq-Decides}
use Rattle.std.specs.List.{list_all, list_any}
use Rattle.std.specs.Option.{option_or}
use Rattle.widl_idl.specs.DefinitionTerms.{DefsTerm}
use Rattle.widl_overload.specs.OperationsAlone.{HasOperationsAlone, has_operations_alone, is_none}

-- none more
pub or_none : (b : Bool) → (b || false) ≡ b
or_none true = refl
or_none false = refl

or_assoc : (a b c : Bool) → (a || (b || c)) ≡ ((a || b) || c)
or_assoc true b c = refl
or_assoc false b c = refl

any_suc : {X : Type 0} (p : X → Bool) (xs : List X) (k : ℕ) (x : X) → slice_get xs k ≡ Some x → list_any p (take (suc k) xs) ≡ (list_any p (take k xs) || p x)
any_suc p [] k x h = cc
any_suc p (y ∷ xs) zero x h = let e : y ≡ x = cc in or_none (p y) ∙ ap p e
any_suc p (y ∷ xs) (suc k) x h = ap (λ b. p y || b) (any_suc p xs k x h) ∙ or_assoc (p y) (list_any p (take k xs)) (p x)

pub any_next : {X : Type 0} (p : X → Bool) (xs : List X) (k : ℕ) (x : X) → slice_get xs k ≡ Some x → list_any p (take (k + 1) xs) ≡ (list_any p (take k xs) || p x)
any_next p xs k x h = let one : k + 1 ≡ suc k = omega arith in ap (λ n. list_any p (take n xs)) one ∙ any_suc p xs k x h

pub or_turned : (a b : Bool) → cond a true b ≡ (b || a)
or_turned true true = refl
or_turned true false = refl
or_turned false true = refl
or_turned false false = refl

pub same_turned : (a b : List ℕ) → bytes_eq a b ≡ bytes_eq b a
same_turned a b = by (bytes_eq a b) refl (bytes_eq b a) refl
  where
    by : (c : Bool) → bytes_eq a b ≡ c → (d : Bool) → bytes_eq b a ≡ d → c ≡ d
    by true e true f = refl
    by false e false f = refl
    by true e false f = absurd (true≢false (sym ((bytes_eq-Decides b a).1 (sym ((bytes_eq-Decides a b).0 e))) ∙ f))
    by false e true f = absurd (true≢false (sym ((bytes_eq-Decides a b).1 (sym ((bytes_eq-Decides b a).0 f))) ∙ e))

pub or_moved : (a b c : Bool) → ((a || b) || c) ≡ (a || (b || c))
or_moved a b c = sym (or_assoc a b c)

-- what is put under a name that was not there is the first of that name
pub first_put : {X : Type 0} (old new : List ℕ → Option X) (v : X) (name : List ℕ) → ((text : List ℕ) → new text ≡ cond (bytes_eq name text) (Some v) (old text)) → is_some (old name) ≡ false →
    (text : List ℕ) → new text ≡ option_or (old text) (if bytes_eq text name then Some v else None)
first_put {X} old new v name put none text = by (bytes_eq name text) refl (old text) refl
  where
    by : (c : Bool) → bytes_eq name text ≡ c → (o : Option X) → old text ≡ o → new text ≡ option_or (old text) (if bytes_eq text name then Some v else None)
    by true e None f =
        put text ∙ ap (λ c. cond c (Some v) (old text)) e ∙ ap (λ c. if c then Some v else None) (sym (same_turned text name ∙ e)) ∙ ap (λ o. option_or o (if bytes_eq text name then Some v else None)) (sym f)
    by true e (Some x) f =
        let same : name ≡ text = (bytes_eq-Decides name text).0 e in
        absurd (true≢false (sym (ap is_some (ap old same ∙ f)) ∙ none))
    by false e None f =
        put text ∙ ap (λ c. cond c (Some v) (old text)) e ∙ f ∙ ap (λ c. if c then Some v else None) (sym (same_turned text name ∙ e)) ∙ ap (λ o. option_or o (if bytes_eq text name then Some v else None)) (sym f)
    by false e (Some x) f =
        put text ∙ ap (λ c. cond c (Some v) (old text)) e ∙ f ∙ ap (λ o. option_or o (if bytes_eq text name then Some v else None)) (sym f)

none_there : {X : Type 0} (xs : List X) → is_none xs ≡ true → xs ≡ []
none_there [] e = refl
none_there (x ∷ xs) e = cc

first_true : (a b : Bool) → (a && b) ≡ true → a ≡ true
first_true true b e = refl
first_true false b e = e

-- a list whose namespaces have operations alone has no interfaces
pub no_ifaces : (list : DefsTerm) → HasOperationsAlone list → list.ifaces ≡ []
no_ifaces list rules = none_there list.ifaces (first_true (is_none list.ifaces) (list_all has_operations_alone list.spaces) rules)
