-- How many sources callbacks take.
use Rattle.std.proofs.Common.{◌≡◌, ℕ, ◌+◌, Bool, false, cond, ◌||◌, List, [], ◌∷◌, ◌++◌, zero, suc, arith, map, slice_get, take, Option, Some, None, option_map, refl, sym, ◌∙◌, ap}
use Rattle.std.specs.Prelude.{count_by}
use Rattle.std.specs.List.{list_any}
use Rattle.std.proofs.lemmas.List.Sums.{sum_by-cons}
use Rattle.std.proofs.lemmas.Option.{slice_get-map}
use Rattle.widl_idl.specs.DefinitionTerms.{CallbackTerm, DefsTerm}
use Rattle.widl_idl.specs.Terms.{TypeTerm, CallbackFunctionType, CallbackInterfaceType}
use Rattle.widl_script_rules.specs.declared.callbacks_and_pairs.CallbackTakes.{CallbackTakes}
use Rattle.widl_script_rules.specs.declared.callbacks_and_pairs.Takes.{Takes}
use Rattle.widl_script_rules.specs.CallbacksAndPairs.{callback_of, takes_call}
use Rattle.widl_script_rules.specs.Takes.{AreTakes, is_taken, taken_in, takes_of}

pub count_mapped : {X Y : Type 0} (p : Y → Bool) (f : X → Y) (xs : List X) → count_by p (map f xs) ≡ count_by (λ x. p (f x)) xs
count_mapped p f [] = refl
count_mapped p f (x ∷ xs) =
    sum_by-cons (λ y. cond (p y) 1 0) (f x) (map f xs) ∙ ap (λ (n : ℕ). cond (p (f x)) 1 0 + n) (count_mapped p f xs) ∙ sym (sum_by-cons (λ y. cond (p (f y)) 1 0) x xs)

pub any_mapped : {X Y : Type 0} (p : Y → Bool) (f : X → Y) (xs : List X) → list_any p (map f xs) ≡ list_any (λ x. p (f x)) xs
any_mapped p f [] = refl
any_mapped p f (x ∷ xs) = ap (λ b. p (f x) || b) (any_mapped p f xs)

pub call_taken : (o : Option CallbackTerm) (t : Takes) (count : ℕ) → Some t ≡ option_map (λ (c : CallbackTerm). takes_of c.sig.args) o → takes_call o count ≡ is_taken t count
call_taken None t count e = absurd (let bad : Some t ≡ None = e in cc)
call_taken (Some c) t count e = let same : takes_of c.sig.args ≡ t = cc in ap (λ u. is_taken u count) same

pub call_untaken : (o : Option CallbackTerm) (count : ℕ) → None ≡ option_map (λ (c : CallbackTerm). takes_of c.sig.args) o → takes_call o count ≡ false
call_untaken None count e = refl
call_untaken (Some c) count e = absurd (let bad : None ≡ Some (takes_of c.sig.args) = e in cc)

pub mapped_twice : {X Y Z : Type 0} (g : Y → Z) (f : X → Y) (xs : List X) → map g (map f xs) ≡ map (λ x. g (f x)) xs
mapped_twice g f [] = refl
mapped_twice g f (x ∷ xs) = ap (λ ys. g (f x) ∷ ys) (mapped_twice g f xs)

mapped_suc : {X Y : Type 0} (f : X → Y) (xs : List X) (k : ℕ) (x : X) → slice_get xs k ≡ Some x → map f (take (suc k) xs) ≡ (map f (take k xs) ++ f x ∷ [])
mapped_suc f [] k x e = absurd (let bad : None ≡ Some x = e in cc)
mapped_suc f (y ∷ xs) zero x e = let same : y ≡ x = cc in ap (λ z. f z ∷ []) same
mapped_suc f (y ∷ xs) (suc k) x e = ap (λ ys. f y ∷ ys) (mapped_suc f xs k x e)

pub mapped_next : {X Y : Type 0} (f : X → Y) (xs : List X) (k : ℕ) (x : X) → slice_get xs k ≡ Some x → map f (take (k + 1) xs) ≡ (map f (take k xs) ++ f x ∷ [])
mapped_next f xs k x e = let one : k + 1 ≡ suc k = omega arith in ap (λ n. map f (take n xs)) one ∙ mapped_suc f xs k x e

pub taken_is : (list : DefsTerm) (t : CallbackTakes) → AreTakes list t → (ty : TypeTerm) → taken_in t ty ≡ option_map (λ (c : CallbackTerm). takes_of c.sig.args) (callback_of list ty)
taken_is list t known (CallbackFunctionType n) = ap (λ xs. slice_get xs n) known.functions ∙ slice_get-map (λ (c : CallbackTerm). takes_of c.sig.args) list.callback_fns n
taken_is list t known (CallbackInterfaceType n) = ap (λ xs. slice_get xs n) known.interfaces ∙ slice_get-map (λ (c : CallbackTerm). takes_of c.sig.args) list.callback_ifaces n
taken_is list t known ty = refl
