-- What a name means among the first definitions, and with one definition more.
use Rattle.std.proofs.Common.{◌≡◌, ℕ, zero, suc, ◌+◌, ◌<◌, ◌≤◌, ◌++◌, Bool, true, false, cond, List, [], ◌∷◌, length, take, map, get_or, Option, None, Some, arith, refl, sym, ap, ◌∙◌, length-take-le, is_some, Bor}
use Rattle.std.specs.Option.{option_or}
use Rattle.std.proofs.lemmas.List.{take_more, length-map, map-append}
use Rattle.widl_idl.specs.declared.tree.definitions.Definition.{Definition}
use Rattle.widl_idl.specs.PlainTrees.{PlainDefinition, definition_of, plain_definitions}
use Rattle.widl_idl.specs.Meanings.{meaning, meaning_from, is_text_of, main_name}
use Rattle.widl_names.specs.Listings.{listed_definitions}
use Rattle.widl_names.specs.Numbers.{is_below}

by_first : (b : Bool) (n : ℕ) (r s t : Option ℕ) → r ≡ option_or s t → cond b (Some n) r ≡ option_or (cond b (Some n) s) t
by_first true n r s t e = refl
by_first false n r s t e = e

-- the number, where the text is the name of the definition
abbrev number_here : List ℕ → PlainDefinition → ℕ → Option ℕ
number_here text d number = cond (is_text_of text (main_name d.kind)) (Some number) None

meaning_push : (n : ℕ) (definitions : List PlainDefinition) (d : PlainDefinition) (text : List ℕ) → meaning_from n (definitions ++ d ∷ []) text ≡ option_or (meaning_from n definitions text) (number_here text d (n + length definitions))
meaning_push n [] d text = let z : n ≡ n + 0 = omega arith in ap (number_here text d) z
meaning_push n (first ∷ more) d text =
    let k : n + 1 + length more ≡ n + length (first ∷ more) = omega arith in
    by_first (is_text_of text (main_name first.kind)) n _ _ _ (meaning_push (n + 1) more d text ∙ ap (λ m. option_or (meaning_from (n + 1) more text) (number_here text d m)) k)

-- the definitions after references, as definitions see them
pub all_plain : (list : List (Bor Definition)) (definitions : List Definition) → map (λ d. d.now) list ≡ definitions → listed_definitions list ≡ plain_definitions definitions
all_plain list definitions same = sym (twice list) ∙ ap plain_definitions same
  where
    twice : (ds : List (Bor Definition)) → plain_definitions (map (λ d. d.now) ds) ≡ listed_definitions ds
    twice [] = refl
    twice (d ∷ more) = ap (λ rest. definition_of d.now ∷ rest) (twice more)

-- one definition more, as a loop over the definitions has it
pub meaning_step : (list : List (Bor Definition)) (i : ℕ) (d : Bor Definition) (text : List ℕ) (old new : Option ℕ) → i < length list → d ≡ get_or list i d → old ≡ meaning (plain_definitions (map (λ e. e.now) (take i list))) text → new ≡ option_or old (number_here text (definition_of d.now) i) → new ≡ meaning (plain_definitions (map (λ e. e.now) (take (i + 1) list))) text
meaning_step list i d text old new below is was so =
    let seen : List (Bor Definition) → List PlainDefinition = λ l. plain_definitions (map (λ e. e.now) l) in
    let before = seen (take i list) in
    let size : length before ≡ i = length-map (map (λ (e : Bor Definition). e.now) (take i list)) definition_of ∙ length-map (take i list) (λ e. e.now) ∙ length-take-le i list (omega (arith, below)) in
    let place : i ≡ 0 + length before = omega (arith, size) in
    let grown : seen (take (i + 1) list) ≡ before ++ definition_of d.now ∷ []
    = ap seen (take_more list i d below ∙ ap (λ e. take i list ++ e ∷ []) (sym is)) ∙ ap plain_definitions (map-append (λ e. e.now) (take i list) (d ∷ [])) ∙ map-append definition_of (map (λ e. e.now) (take i list)) (d.now ∷ []) in
    so ∙ ap (λ o. option_or o (number_here text (definition_of d.now) i)) was ∙ ap (λ k. option_or (meaning before text) (number_here text (definition_of d.now) k)) place
    ∙ sym (meaning_push 0 before (definition_of d.now) text) ∙ ap (λ ds. meaning ds text) (sym grown)

-- a name means no definition below the number from which they are counted
none_below : (limit n : ℕ) (definitions : List PlainDefinition) (text : List ℕ) → limit ≤ n → is_below limit (meaning_from n definitions text) ≡ false
none_below limit n [] text small = refl
none_below limit n (d ∷ more) text small = by_case (is_text_of text (main_name d.kind)) (none_below limit (n + 1) more text (omega (arith, small)))
  where
    by_case : (b : Bool) → is_below limit (meaning_from (n + 1) more text) ≡ false → is_below limit (cond b (Some n) (meaning_from (n + 1) more text)) ≡ false
    by_case true e = grind arith
    by_case false e = e

taken_from : (n limit : ℕ) (definitions : List PlainDefinition) (text : List ℕ) → is_some (meaning_from n (take limit definitions) text) ≡ is_below (n + limit) (meaning_from n definitions text)
taken_from n zero definitions text = sym (none_below (n + zero) n definitions text (omega arith))
taken_from n (suc limit) [] text = refl
taken_from n (suc limit) (d ∷ more) text = by_case (is_text_of text (main_name d.kind)) (taken_from (n + 1) limit more text)
  where
    by_case : (b : Bool) → is_some (meaning_from (n + 1) (take limit more) text) ≡ is_below (n + 1 + limit) (meaning_from (n + 1) more text)
        → is_some (cond b (Some n) (meaning_from (n + 1) (take limit more) text)) ≡ is_below (n + suc limit) (cond b (Some n) (meaning_from (n + 1) more text))
    by_case true e = grind arith
    by_case false e = let k : n + 1 + limit ≡ n + suc limit = omega arith in e ∙ ap (λ m. is_below m (meaning_from (n + 1) more text)) k

-- a name means one of the first definitions where the number of its meaning is below their count
pub meaning_taken : (limit : ℕ) (definitions : List PlainDefinition) (text : List ℕ) → is_some (meaning (take limit definitions) text) ≡ is_below limit (meaning definitions text)
meaning_taken limit definitions text = taken_from 0 limit definitions text ∙ ap (λ m. is_below m (meaning definitions text)) (zero_plus limit)
  where
    zero_plus : (n : ℕ) → 0 + n ≡ n
    zero_plus n = omega arith

some_is : {A : Type 0} {a b : A} → Some a ≡ Some b → a ≡ b
some_is e = (cc)

-- a name means a definition
meaning_within : (n : ℕ) (definitions : List PlainDefinition) (text : List ℕ) (k : ℕ) → meaning_from n definitions text ≡ Some k → k < n + length definitions
meaning_within n [] text k e = absurd (cc)
meaning_within n (d ∷ more) text k e = by_case (is_text_of text (main_name d.kind)) (λ h. meaning_within (n + 1) more text k h) e
  where
    by_case : (b : Bool) → (meaning_from (n + 1) more text ≡ Some k → k < n + 1 + length more) → cond b (Some n) (meaning_from (n + 1) more text) ≡ Some k → k < n + length (d ∷ more)
    by_case true later h = let same : n ≡ k = some_is h in omega (arith, same)
    by_case false later h = let l = later h in omega (arith, l)

pub meaning_below : (definitions : List PlainDefinition) (text : List ℕ) (k : ℕ) → meaning definitions text ≡ Some k → k < length definitions
meaning_below definitions text k e = let l = meaning_within 0 definitions text k e in omega (arith, l)
