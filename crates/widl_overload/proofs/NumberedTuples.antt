-- Overloads by their numbers, each of which stands for its tuple of a length.
use Rattle.std.proofs.Common.{◌≡◌, ℕ, zero, suc, ◌+◌, ◌-◌, ◌<◌, ◌≤◌, ◌++◌, Bool, true, false, cond, List, [], ◌∷◌, length, take, drop, map, replicate, nat_lt, arith, refl, sym, ap, subst, ◌∙◌}
use Rattle.std.specs.Prelude.{Option, None, Some, is_some, option_and_then, option_map, slice_get}
use Rattle.std.specs.List.{All}
use Rattle.std.proofs.lemmas.List.{length-map, length-replicate, get_or-replicate}
use Rattle.std.proofs.lemmas.List.Elements.{All-cons, All-nil}
use Rattle.std.proofs.lemmas.Option.{none-some, same_Some, slice_get-map, slice_get_past, slice_get_read}
use Rattle.widl_idl.specs.declared.argument.Optionality.{Optionality}
use Rattle.widl_idl.specs.declared.argument.Optionality.TheVariants.{Required, Optional, Variadic}
use Rattle.widl_idl.specs.DefinitionTerms.{ArgTerm, SigTerm}
use Rattle.widl_overload.specs.sets.Numbers.{arg_at, arg_or_last, opt_at, or_last, type_at}
use Rattle.widl_overload.specs.sets.OverloadNames.{number_of}
use Rattle.widl_overload.specs.sets.Sets.{TupleTerm, are_free, declared_opts, declared_types, if_variadic, is_variadic, longer, of_length, shorter, tuple_of, variadic_last, with_tuple}
use Rattle.widl_overload.proofs.FreeStarts.{read_some}
use Rattle.widl_overload.specs.sets.Spans.{have_tuples, true_places}

-- which tuples an overload has doesn't depend on its number
longer_same : (i j : ℕ) (args : List ArgTerm) (count : ℕ) (last : Option ArgTerm) → is_some (longer i args count last) ≡ is_some (longer j args count last)
longer_same i j args count None = refl
longer_same i j args count (Some last) = refl

chosen_same : {X Y : Type 0} (b : Bool) (x : X) (y : Y) → is_some (cond b (Some x) None) ≡ is_some (cond b (Some y) None)
chosen_same true x y = refl
chosen_same false x y = refl

either_same : (b : Bool) (x y u v : Option TupleTerm) → is_some x ≡ is_some u → is_some y ≡ is_some v → is_some (cond b x y) ≡ is_some (cond b u v)
either_same true x y u v e f = e
either_same false x y u v e f = f

has_same : (i j : ℕ) (args : List ArgTerm) (m : ℕ) → is_some (tuple_of i args m) ≡ is_some (tuple_of j args m)
has_same i j args m = either_same (nat_lt (length args) m) (longer i args (m - length args) (variadic_last args)) (shorter i args m) (longer j args (m - length args) (variadic_last args)) (shorter j args m) (longer_same i j args (m - length args) (variadic_last args)) (chosen_same (are_free (declared_opts (drop m args))) _ _)

longer_number : (number : ℕ) (args : List ArgTerm) (count : ℕ) (last : Option ArgTerm) (t : TupleTerm) → longer number args count last ≡ Some t → t.overload ≡ number
longer_number number args count None t e = absurd (none-some t e)
longer_number number args count (Some last) t e = ap (λ (u : TupleTerm). u.overload) (sym (same_Some _ t e))

chosen_number : (number : ℕ) (b : Bool) (u t : TupleTerm) → u.overload ≡ number → cond b (Some u) None ≡ Some t → t.overload ≡ number
chosen_number number true u t h e = ap (λ (v : TupleTerm). v.overload) (sym (same_Some u t e)) ∙ h
chosen_number number false u t h e = absurd (none-some t e)

number_by : (number : ℕ) (args : List ArgTerm) (m : ℕ) (t : TupleTerm) (b : Bool) → cond b (longer number args (m - length args) (variadic_last args)) (shorter number args m) ≡ Some t → t.overload ≡ number
number_by number args m t true e = longer_number number args (m - length args) (variadic_last args) t e
number_by number args m t false e = chosen_number number (are_free (declared_opts (drop m args))) _ t refl e

tuple_number : (number : ℕ) (args : List ArgTerm) (m : ℕ) (t : TupleTerm) → tuple_of number args m ≡ Some t → t.overload ≡ number
tuple_number number args m t e = number_by number args m t (nat_lt (length args) m) e

one_number : (o : Option TupleTerm) (number : ℕ) (rest : List TupleTerm) → ((t : TupleTerm) → o ≡ Some t → t.overload ≡ number) → map number_of (with_tuple o rest) ≡ cond (is_some o) (number ∷ map number_of rest) (map number_of rest)
one_number None number rest h = refl
one_number (Some t) number rest h = ap (λ n. n ∷ map number_of rest) (h t refl)

-- the numbers of the overloads that have a tuple of a length
pub numbers_are : (sigs : List SigTerm) (m number : ℕ) → map number_of (of_length m number sigs) ≡ true_places number (have_tuples m sigs)
numbers_are [] m number = refl
numbers_are (s ∷ sigs) m number =
    one_number (tuple_of number s.args m) number (of_length m (number + 1) sigs) (λ t e. tuple_number number s.args m t e)
    ∙ (λ i. cond (has_same number 0 s.args m i) (number ∷ numbers_are sigs m (number + 1) i) (numbers_are sigs m (number + 1) i))

-- reading lists that are put together
read_left : {X : Type 0} (xs ys : List X) (p : ℕ) → p < length xs → slice_get (xs ++ ys) p ≡ slice_get xs p
read_left [] ys p below = absurd (omega arith)
read_left (x ∷ xs) ys zero below = refl
read_left (x ∷ xs) ys (suc p) below = read_left xs ys p (omega arith)

read_copies : {X : Type 0} (xs : List X) (count : ℕ) (y : X) (p : ℕ) → length xs ≤ p → p < length xs + count → slice_get (xs ++ replicate count y) p ≡ Some y
read_copies [] count y p above below = let within : p < count = omega arith in slice_get_read (replicate count y) count p y (sym (length-replicate count y)) within (sym (get_or-replicate count p y y within))
read_copies (x ∷ xs) count y zero above below = absurd (omega arith)
read_copies (x ∷ xs) count y (suc p) above below = read_copies xs count y p (omega arith) (omega arith)

read_first : {X : Type 0} (m : ℕ) (xs : List X) (p : ℕ) → p < m → slice_get (take m xs) p ≡ slice_get xs p
read_first zero xs p below = absurd (omega arith)
read_first (suc m) [] p below = refl
read_first (suc m) (x ∷ xs) zero below = refl
read_first (suc m) (x ∷ xs) (suc p) below = read_first m xs p (omega arith)

-- an argument that is declared is at its place, and beyond is the last one
declared_arg : (args : List ArgTerm) (p : ℕ) → p < length args → arg_or_last p args ≡ slice_get args p
declared_arg args p below = let a = read_some args p below in ap (or_last args) a.1 ∙ sym a.1

variadic_one : (o : Option ArgTerm) (last : ArgTerm) → if_variadic o ≡ Some last → (o ≡ Some last) × (last.opt ≡ Variadic)
variadic_one None last e = absurd (none-some last e)
variadic_one (Some a) last e = by_opt a.opt refl
  where
    by_opt : (opt : Optionality) → a.opt ≡ opt → (Some a ≡ Some last) × (last.opt ≡ Variadic)
    by_opt Variadic is = let same : Some a ≡ Some last = sym (ap (λ o. cond (is_variadic o) (Some a) None) is) ∙ e in (same, ap (λ (b : ArgTerm). b.opt) (sym (same_Some a last same)) ∙ is)
    by_opt Required is = absurd (none-some last (sym (ap (λ o. cond (is_variadic o) (Some a) None) is) ∙ e))
    by_opt Optional is = absurd (none-some last (sym (ap (λ o. cond (is_variadic o) (Some a) None) is) ∙ e))

last_arg : (args : List ArgTerm) (p : ℕ) (last : ArgTerm) → length args ≤ p → variadic_last args ≡ Some last → arg_or_last p args ≡ Some last
last_arg args p last above e = ap (or_last args) (slice_get_past args p above) ∙ (variadic_one (slice_get args (length args - 1)) last e).0

-- what a tuple of a length has at each place
pub record Fits (args : List ArgTerm) (m : ℕ) (t : TupleTerm) : Type 0 where
  pub types : (p : ℕ) → p < m → slice_get t.types p ≡ option_map (λ (a : ArgTerm). a.ty) (arg_or_last p args)
  pub opts : (p : ℕ) → p < m → slice_get t.opts p ≡ option_map (λ (a : ArgTerm). a.opt) (arg_or_last p args)

module _ {X : Type 0} (f : ArgTerm → X) (args : List ArgTerm) where
  declared_read : (p : ℕ) → p < length args → slice_get (map f args) p ≡ option_map f (arg_or_last p args)
  declared_read p below = slice_get-map f args p ∙ ap (option_map f) (sym (declared_arg args p below))

  longer_read : (count : ℕ) (last : ArgTerm) (x : X) (p : ℕ) (b : Bool) → nat_lt p (length args) ≡ b → f last ≡ x → variadic_last args ≡ Some last → p < length args + count → slice_get (map f args ++ replicate count x) p ≡ option_map f (arg_or_last p args)
  longer_read count last x p true within is e below =
      let here : p < length args = grind arith in
      let size = length-map args f in
      read_left (map f args) (replicate count x) p (omega arith) ∙ declared_read p here
  longer_read count last x p false beyond is e below =
      let there : length args ≤ p = grind arith in
      let size = length-map args f in
      read_copies (map f args) count x p (omega arith) (omega arith) ∙ ap Some (sym is) ∙ ap (option_map f) (sym (last_arg args p last there e))

longer_fits : (number : ℕ) (args : List ArgTerm) (count m : ℕ) (last : Option ArgTerm) (t : TupleTerm) → m ≡ length args + count → variadic_last args ≡ last → longer number args count last ≡ Some t → Fits args m t
longer_fits number args count m None t size o e = absurd (none-some t e)
longer_fits number args count m (Some last) t size o e = subst (Fits args m) (same_Some _ t e) (record {
  types = λ p below. longer_read (λ (a : ArgTerm). a.ty) args count last last.ty p (nat_lt p (length args)) refl refl o (omega arith);
  opts = λ p below. longer_read (λ (a : ArgTerm). a.opt) args count last Variadic p (nat_lt p (length args)) refl (variadic_one (slice_get args (length args - 1)) last o).1 o (omega arith);
})

shorter_fits : (number : ℕ) (args : List ArgTerm) (m : ℕ) (t : TupleTerm) (free : Bool) → m ≤ length args → cond free (Some (record { overload = number; types = take m (declared_types args); opts = take m (declared_opts args) })) None ≡ Some t → Fits args m t
shorter_fits number args m t true within e = subst (Fits args m) (same_Some _ t e) (record {
  types = λ p below. read_first m (declared_types args) p below ∙ declared_read (λ (a : ArgTerm). a.ty) args p (omega arith);
  opts = λ p below. read_first m (declared_opts args) p below ∙ declared_read (λ (a : ArgTerm). a.opt) args p (omega arith);
})
shorter_fits number args m t false within e = absurd (none-some t e)

fits_by : (number : ℕ) (args : List ArgTerm) (m : ℕ) (t : TupleTerm) (b : Bool) → nat_lt (length args) m ≡ b → cond b (longer number args (m - length args) (variadic_last args)) (shorter number args m) ≡ Some t → Fits args m t
fits_by number args m t true below e = let h : length args < m = grind arith in longer_fits number args (m - length args) m (variadic_last args) t (omega arith) refl e
fits_by number args m t false above e = let h : m ≤ length args = grind arith in shorter_fits number args m t (are_free (declared_opts (drop m args))) h e

tuple_fits : (number : ℕ) (args : List ArgTerm) (m : ℕ) (t : TupleTerm) → tuple_of number args m ≡ Some t → Fits args m t
tuple_fits number args m t e = fits_by number args m t (nat_lt (length args) m) refl e

-- what a tuple has at each place is what its overload has there
pub record StandsFor (sigs : List SigTerm) (m : ℕ) (t : TupleTerm) : Type 0 where
  pub types : (p : ℕ) → p < m → slice_get t.types p ≡ type_at sigs p t.overload
  pub opts : (p : ℕ) → p < m → slice_get t.opts p ≡ opt_at sigs p t.overload

stands : (whole : List SigTerm) (m number : ℕ) (s : SigTerm) (t : TupleTerm) → slice_get whole number ≡ Some s → t.overload ≡ number → Fits s.args m t → StandsFor whole m t
stands whole m number s t at is fits =
    let here : (p : ℕ) → arg_or_last p s.args ≡ arg_at whole p t.overload = λ p. sym (ap (λ n. arg_at whole p n) is ∙ ap (option_and_then (λ (u : SigTerm). arg_or_last p u.args)) at) in
    record {
      types = λ p below. fits.types p below ∙ ap (option_map (λ (a : ArgTerm). a.ty)) (here p);
      opts = λ p below. fits.opts p below ∙ ap (option_map (λ (a : ArgTerm). a.opt)) (here p);
    }

one_stands : (whole : List SigTerm) (m number : ℕ) (s : SigTerm) (o : Option TupleTerm) (rest : List TupleTerm) → slice_get whole number ≡ Some s → tuple_of number s.args m ≡ o → All (StandsFor whole m) rest → All (StandsFor whole m) (with_tuple o rest)
one_stands whole m number s None rest at e all = all
one_stands whole m number s (Some t) rest at e all = All-cons (StandsFor whole m) t rest (stands whole m number s t at (tuple_number number s.args m t e) (tuple_fits number s.args m t e)) all

all_stand : (sigs whole : List SigTerm) (m number : ℕ) → ((i : ℕ) → slice_get whole (number + i) ≡ slice_get sigs i) → All (StandsFor whole m) (of_length m number sigs)
all_stand [] whole m number h = All-nil (StandsFor whole m)
all_stand (s ∷ sigs) whole m number h =
    let zero_more : number ≡ number + 0 = omega arith in
    let one_more : (i : ℕ) → (number + 1) + i ≡ number + suc i = λ i. omega arith in
    one_stands whole m number s (tuple_of number s.args m) (of_length m (number + 1) sigs) (ap (slice_get whole) zero_more ∙ h 0) refl (all_stand sigs whole m (number + 1) (λ i. ap (slice_get whole) (one_more i) ∙ h (suc i)))

-- each tuple of a length stands for its overload
pub tuples_stand : (sigs : List SigTerm) (m : ℕ) → All (StandsFor sigs m) (of_length m 0 sigs)
tuples_stand sigs m = all_stand sigs sigs m 0 (λ i. let same : 0 + i ≡ i = omega arith in ap (slice_get sigs) same)
