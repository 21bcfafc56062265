-- The numbers of definitions among those of their kind, with one definition more, and what a typedef's number leads to.
use Rattle.std.proofs.Common.{◌≡◌, ℕ, ◌+◌, ◌<◌, ◌≤◌, ◌^◌, ◌++◌, Bool, true, false, cond, not, ◌&&◌, zero, suc, List, [], ◌∷◌, length, take, map, filter, filter_map, get_or, Option, None, Some, option_map, slice_get, arith, refl, sym, ap, subst, ◌∙◌, nat_lt, length-append}
use Rattle.std.specs.List.{cons_option}
use Rattle.std.specs.Prelude.{option_and_then}
use Rattle.widl_graph.proofs.Gets.{get_some}
use Rattle.widl_names.proofs.NameMeanings.{meaning_below}
use Rattle.std.proofs.lemmas.List.{take_more, take-map, map-append, length-map, length-take-le}
use Rattle.std.proofs.lemmas.List.Elements.{filter-append}
use Rattle.std.proofs.lemmas.List.Sums.{count_by-le-length, length-filter}
use Rattle.std.proofs.lemmas.Option.{slice_get-map, slice_get_read, slice_get_within}
use Rattle.widl_idl.specs.declared.kind.Kind.{Kind}
use Rattle.widl_idl.specs.declared.kind.Kind.TheVariants as kinds
use Rattle.widl_idl.specs.Meanings.{kind_of, is_partial, meaning, meant_kind, same_kind}
use Rattle.widl_idl.specs.PlainTrees.{PlainDefinition, PlainKind, PlainTypedef, TypedefDefinition}
use Rattle.widl_idl.specs.Resolution.{Typedef}
use Rattle.widl_idl.specs.WrittenTypes.{is_main_of, number_among, typedef_if, typedef_in_tree, typedefs}
use Rattle.widl_names.specs.declared.kind_numbers.Counts.{Counts}
use Rattle.widl_names.specs.KindNumbers.{AreCounts, AreFirstNumbers, AreNumbers, count_of, with_count}

some_is : {A : Type 0} {a b : A} → Some a ≡ Some b → a ≡ b
some_is e = (cc)

-- one more of a kind changes the count of that kind alone
pub counted : (counts : Counts) (kind other : Kind) → count_of (with_count counts other (count_of counts other + 1)) kind ≡ cond (same_kind kind other) (count_of counts kind + 1) (count_of counts kind)
counted counts kinds.CallbackFunction kinds.CallbackFunction = refl
counted counts kinds.CallbackInterface kinds.CallbackInterface = refl
counted counts kinds.Interface kinds.Interface = refl
counted counts kinds.Mixin kinds.Mixin = refl
counted counts kinds.Namespace kinds.Namespace = refl
counted counts kinds.Dictionary kinds.Dictionary = refl
counted counts kinds.Enumeration kinds.Enumeration = refl
counted counts kinds.Typedef kinds.Typedef = refl
counted counts kinds.Includes kinds.Includes = refl
counted counts kind other = refl

-- with a definition that is no partial
pub with_main : (old new : Counts) (d : PlainDefinition) (kind : Kind) → is_partial d.kind ≡ false → new ≡ with_count old (kind_of d.kind) (count_of old (kind_of d.kind) + 1) → count_of new kind ≡ cond (is_main_of kind d) (count_of old kind + 1) (count_of old kind)
with_main old new d kind whole is =
    ap (λ c. count_of c kind) is ∙ counted old kind (kind_of d.kind)
    ∙ ap (λ b. cond b (count_of old kind + 1) (count_of old kind)) (sym (and_true (same_kind kind (kind_of d.kind))) ∙ ap (λ p. same_kind kind (kind_of d.kind) && not p) (sym whole))
  where
    and_true : (b : Bool) → (b && true) ≡ b
    and_true true = refl
    and_true false = refl

-- with a partial one
pub with_partial : (counts : Counts) (d : PlainDefinition) (kind : Kind) → is_partial d.kind ≡ true → count_of counts kind ≡ cond (is_main_of kind d) (count_of counts kind + 1) (count_of counts kind)
with_partial counts d kind part = ap (λ b. cond b (count_of counts kind + 1) (count_of counts kind)) (sym (and_false (same_kind kind (kind_of d.kind))) ∙ ap (λ p. same_kind kind (kind_of d.kind) && not p) (sym part))
  where
    and_false : (b : Bool) → (b && false) ≡ false
    and_false true = refl
    and_false false = refl

-- of no definition
pub counts_start : (counts : Counts) → ((kind : Kind) → count_of counts kind ≡ 0) → AreCounts [] counts
counts_start counts none = record { each = none }

get_front : (xs : List ℕ) (y k : ℕ) → k < length xs → slice_get (xs ++ y ∷ []) k ≡ slice_get xs k
get_front [] y k l = absurd (omega arith)
get_front (x ∷ xs) y zero l = refl
get_front (x ∷ xs) y (suc k) l = get_front xs y k (omega arith)

get_last : (xs : List ℕ) (y : ℕ) → slice_get (xs ++ y ∷ []) (length xs) ≡ Some y
get_last [] y = refl
get_last (x ∷ xs) y = get_last xs y

-- of no definition
pub numbers_start : (definitions : List PlainDefinition) (numbers : List ℕ) → numbers ≡ [] → AreFirstNumbers definitions 0 numbers
numbers_start definitions numbers none = record { size = ap length none; each = λ number kind l. absurd (omega (arith, l)) }

module _ {X : Type 0} (f : X → PlainDefinition) (xs : List X) (i : ℕ) (x : X) (below : i < length xs) (is : x ≡ get_or xs i x) where
  taken : map f (take (i + 1) xs) ≡ map f (take i xs) ++ f x ∷ []
  taken = ap (map f) (take_more xs i x below ∙ ap (λ y. take i xs ++ y ∷ []) (sym is)) ∙ map-append f (take i xs) (x ∷ [])

  -- one definition more
  pub counts_more : (old new : Counts) → AreCounts (map f (take i xs)) old → ((kind : Kind) → count_of new kind ≡ cond (is_main_of kind (f x)) (count_of old kind + 1) (count_of old kind)) → AreCounts (map f (take (i + 1) xs)) new
  counts_more old new so is_new = record { each = λ kind. is_new kind ∙ ap (λ n. cond (is_main_of kind (f x)) (n + 1) n) (so.each kind) ∙ one kind (is_main_of kind (f x)) refl ∙ sym (ap (λ l. length (filter (is_main_of kind) l)) taken ∙ ap length (filter-append (is_main_of kind) (map f (take i xs)) (f x ∷ [])) ∙ length-append (filter (is_main_of kind) (map f (take i xs))) (filter (is_main_of kind) (f x ∷ []))) }
    where
      one : (kind : Kind) (b : Bool) → is_main_of kind (f x) ≡ b → cond b (length (filter (is_main_of kind) (map f (take i xs))) + 1) (length (filter (is_main_of kind) (map f (take i xs)))) ≡ length (filter (is_main_of kind) (map f (take i xs))) + length (cond b (f x ∷ []) [])
      one kind true e = refl
      one kind false e = omega arith

  -- 32 bits can count one definition more of each kind
  pub counts_fit : (counts : Counts) → AreCounts (map f (take i xs)) counts → length xs < 2 ^ 32 → (kind : Kind) → count_of counts kind + 1 < 2 ^ 32
  counts_fit counts so few kind =
      let own = so.each kind in
      let kept = length-filter (is_main_of kind) (map f (take i xs)) in
      let fewer = count_by-le-length (is_main_of kind) (map f (take i xs)) in
      let size = length-map (take i xs) f in
      let first = length-take-le i xs (omega (arith, below)) in
      omega (arith, own, kept, fewer, size, first, below, few)

  -- the number of one definition more
  pub numbers_more : (old new : List ℕ) (counts : Counts) (n : ℕ) → AreFirstNumbers (map f xs) i old → AreCounts (map f (take i xs)) counts → n ≡ count_of counts (kind_of (f x).kind) → new ≡ old ++ n ∷ [] → AreFirstNumbers (map f xs) (i + 1) new
  numbers_more old new counts n so counted_so n_is new_is = record {
    size = ap length new_is ∙ length-append old (n ∷ []) ∙ ap (λ k. k + 1) so.size;
    each = λ number kind l here. by_place number kind l here (nat_lt number i) refl;
  }
    where
      kind_here : (number : ℕ) (kind : PlainKind) → number ≡ i → option_map (λ d. d.kind) (slice_get (map f xs) number) ≡ Some kind → (f x).kind ≡ kind
      kind_here number kind e here =
          let found : slice_get (map f xs) number ≡ Some (f x) = ap (slice_get (map f xs)) e ∙ slice_get-map f xs i ∙ ap (option_map f) (slice_get_read xs (length xs) i x refl below is) in
          let both : Some (f x).kind ≡ Some kind = sym (ap (option_map (λ d. d.kind)) found) ∙ here in
          some_is both

      own : (kind : Kind) → count_of counts kind ≡ number_among (map f xs) kind i
      own kind = counted_so.each kind ∙ ap (λ l. length (filter (is_main_of kind) l)) (sym (take-map f i xs))

      by_place : (number : ℕ) (kind : PlainKind) → number < i + 1 → option_map (λ d. d.kind) (slice_get (map f xs) number) ≡ Some kind → (b : Bool) → nat_lt number i ≡ b → slice_get new number ≡ Some (number_among (map f xs) (kind_of kind) number)
      by_place number kind l here true e =
          let lower : number < i = grind arith in
          let size = so.size in
          ap (λ ns. slice_get ns number) new_is ∙ get_front old n number (omega arith) ∙ so.each number kind lower here
      by_place number kind l here false e =
          let last : number ≡ i = grind arith in
          let size = so.size in
          ap (λ ns. slice_get ns number) new_is ∙ ap (slice_get (old ++ n ∷ [])) (last ∙ sym size) ∙ get_last old n
          ∙ ap Some (n_is ∙ ap (λ k. count_of counts (kind_of k)) (kind_here number kind last here) ∙ own (kind_of kind) ∙ ap (number_among (map f xs) (kind_of kind)) (sym last))

  -- after the last definition
  pub numbers_all : (numbers : List ℕ) → length xs ≤ i → i ≤ length xs → AreFirstNumbers (map f xs) i numbers → AreNumbers (map f xs) numbers
  numbers_all numbers past upto so = subst (λ n. AreFirstNumbers (map f xs) n numbers) (let size = length-map xs f in omega arith) so

module _ (definitions : List PlainDefinition) where
  abbrev found : PlainDefinition → Option Typedef
  found d = typedef_if definitions d.kind

  step : (k : PlainKind) (d : PlainDefinition) (rest : List Typedef) (ys : List PlainDefinition) (w : Typedef) → slice_get rest (length ys) ≡ Some w → slice_get (cons_option (typedef_if definitions k) rest) (length (cond (same_kind kinds.Typedef (kind_of k) && not (is_partial k)) (d ∷ ys) ys)) ≡ Some w
  step (TypedefDefinition u) d rest ys w e = e
  step k d rest ys w e = e

  typedef_at : (xs : List PlainDefinition) (n : ℕ) (t : PlainTypedef) → option_map (λ d. d.kind) (slice_get xs n) ≡ Some (TypedefDefinition t) → slice_get (filter_map found xs) (length (filter (is_main_of kinds.Typedef) (take n xs))) ≡ Some (typedef_in_tree definitions t.ty)
  typedef_at [] n t e = absurd (cc)
  typedef_at (d ∷ xs) zero t e = ap (λ k. slice_get (cons_option (typedef_if definitions k) (filter_map found xs)) 0) (some_is e)
  typedef_at (d ∷ xs) (suc n) t e = step d.kind d (filter_map found xs) (filter (is_main_of kinds.Typedef) (take n xs)) (typedef_in_tree definitions t.ty) (typedef_at xs n t e)

  -- a typedef stands under its number
  pub typedef_numbered : (n : ℕ) (t : PlainTypedef) → option_map (λ d. d.kind) (slice_get definitions n) ≡ Some (TypedefDefinition t) → slice_get (typedefs definitions) (number_among definitions kinds.Typedef n) ≡ Some (typedef_in_tree definitions t.ty)
  typedef_numbered n t e = typedef_at definitions n t e

  count_step : (k : PlainKind) (d : PlainDefinition) (rest : List Typedef) (ys : List PlainDefinition) → length rest ≡ length ys → length (cons_option (typedef_if definitions k) rest) ≡ length (cond (same_kind kinds.Typedef (kind_of k) && not (is_partial k)) (d ∷ ys) ys)
  count_step (TypedefDefinition u) d rest ys e = ap suc e
  count_step k d rest ys e = e

  count_from : (xs : List PlainDefinition) → length (filter_map found xs) ≡ length (filter (is_main_of kinds.Typedef) xs)
  count_from [] = refl
  count_from (d ∷ xs) = count_step d.kind d (filter_map found xs) (filter (is_main_of kinds.Typedef) xs) (count_from xs)

  -- there are as many typedefs as main definitions of that kind
  pub typedef_count : length (typedefs definitions) ≡ length (filter (is_main_of kinds.Typedef) definitions)
  typedef_count = count_from definitions

-- the number that is kept for a definition of this kind
pub number_found : (definitions : List PlainDefinition) (numbers : List ℕ) (number : ℕ) (kind : Kind) → AreNumbers definitions numbers → option_map kind_of (option_map (λ d. d.kind) (slice_get definitions number)) ≡ Some kind → slice_get numbers number ≡ Some (number_among definitions kind number)
number_found definitions numbers number kind so e = by_kind (slice_get definitions number) refl e
  where
    by_kind : (d : Option PlainDefinition) → slice_get definitions number ≡ d → option_map kind_of (option_map (λ d. d.kind) d) ≡ Some kind → slice_get numbers number ≡ Some (number_among definitions kind number)
    by_kind None is h = absurd (cc)
    by_kind (Some d) is h = so.each number d.kind (slice_get_within definitions number d is) (ap (option_map (λ d. d.kind)) is) ∙ ap (λ k. Some (number_among definitions k number)) (some_is h)

-- the number that is kept for the definition of this kind that a name means
pub number_meant : (definitions : List PlainDefinition) (numbers text : List ℕ) (number : ℕ) (kind : Kind) → AreNumbers definitions numbers → meaning definitions text ≡ Some number → ((other : Kind) → meant_kind definitions text ≡ Some other → other ≡ kind) → slice_get numbers number ≡ Some (number_among definitions kind number)
number_meant definitions numbers text number kind so means of_kind =
    let d = get_some definitions number (meaning_below definitions text number means) in
    let here : option_map kind_of (option_map (λ d. d.kind) (slice_get definitions number)) ≡ Some (kind_of d.0.kind) = ap (λ o. option_map kind_of (option_map (λ d. d.kind) o)) d.1 in
    let seen : meant_kind definitions text ≡ option_map kind_of (option_map (λ d. d.kind) (slice_get definitions number)) = ap (λ m. option_map kind_of (option_map (λ d. d.kind) (option_and_then (slice_get definitions) m))) means in
    number_found definitions numbers number kind so (here ∙ ap Some (of_kind (kind_of d.0.kind) (seen ∙ here)))
