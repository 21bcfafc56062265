-- The last of the declared arguments, which a call may leave out, and the tuple of the first ones.
use Rattle.std.proofs.Common.{◌≡◌, ℕ, zero, suc, ◌+◌, ◌<◌, ◌&&◌, Bool, true, false, cond, nat_eq, List, [], ◌∷◌, length, take, drop, get_or, arith, refl, sym, ap, ◌∙◌}
use Rattle.std.specs.Prelude.{None, Some, slice_get}
use Rattle.std.proofs.lemmas.List.{take-map}
use Rattle.std.proofs.lemmas.Option.{slice_get-get_or}
use Rattle.widl_idl.specs.DefinitionTerms.{ArgTerm}
use Rattle.widl_overload.specs.sets.Sets.{TupleTerm, declared_opts, declared_types, are_free, is_end, is_free, shorter}

-- a call may leave out each argument from a place on
abbrev pub free_from : List ArgTerm → ℕ → Bool
free_from args m = are_free (declared_opts (drop m args))

-- the argument at a place is the last one
abbrev pub is_last : List ArgTerm → ℕ → Bool
is_last args n = nat_eq (n + 1) (length args)

at_end : (args : List ArgTerm) → is_end (declared_opts args) ≡ nat_eq (0 + 1) (suc (length args))
at_end [] = refl
at_end (a ∷ args) = grind arith

next_end : (n m : ℕ) → nat_eq (suc n + 1) (suc m) ≡ nat_eq (n + 1) m
next_end n m = grind arith

-- one argument more
pub free_step : (args : List ArgTerm) (n : ℕ) (a : ArgTerm) → n < length args → slice_get args n ≡ Some a → free_from args n ≡ (is_free a.opt (is_last args n) && free_from args (suc n))
free_step [] n a below e = absurd (omega arith)
free_step (b ∷ args) zero a below e =
    let same : b ≡ a = cc in
    ap (λ (c : ArgTerm). is_free c.opt (is_end (declared_opts args)) && are_free (declared_opts args)) same ∙ ap (λ end. is_free a.opt end && are_free (declared_opts args)) (at_end args)
free_step (b ∷ args) (suc n) a below e =
    free_step args n a (omega arith) e ∙ ap (λ end. is_free a.opt end && free_from args (suc n)) (sym (next_end n (length args)))

both_are : (free rest : Bool) → free ≡ true → (free && rest) ≡ rest
both_are true rest e = refl
both_are false rest e = cc

one_is_not : (free rest : Bool) → free ≡ false → false ≡ (free && rest)
one_is_not true rest e = cc
one_is_not false rest e = refl

-- walking arguments: one may be left out, or it may not
pub free_more : (args : List ArgTerm) (i : ℕ) (a : ArgTerm) (free : Bool) → i < length args → a ≡ get_or args i a → free ≡ is_free a.opt (is_last args i) → free ≡ true → are_free (declared_opts args) ≡ free_from args i → are_free (declared_opts args) ≡ free_from args (i + 1)
free_more args i a free below is told is_free_here so_far =
    so_far ∙ free_step args i a below (slice_get-get_or args i a below ∙ ap Some (sym is)) ∙ both_are (is_free a.opt (is_last args i)) (free_from args (suc i)) (sym told ∙ is_free_here) ∙ (let next : suc i ≡ i + 1 = omega arith in ap (free_from args) next)

pub not_free : (args : List ArgTerm) (i : ℕ) (a : ArgTerm) (free : Bool) → i < length args → a ≡ get_or args i a → free ≡ is_free a.opt (is_last args i) → free ≡ false → are_free (declared_opts args) ≡ free_from args i → false ≡ are_free (declared_opts args)
not_free args i a free below is told not_here so_far =
    one_is_not (is_free a.opt (is_last args i)) (free_from args (suc i)) (sym told ∙ not_here) ∙ sym (so_far ∙ free_step args i a below (slice_get-get_or args i a below ∙ ap Some (sym is)))

pub cut_short : (number : ℕ) (args : List ArgTerm) (m : ℕ) (t : TupleTerm) (free : Bool) → free ≡ free_from args m → free ≡ true → t ≡ record { overload = number; types = declared_types (take m args); opts = declared_opts (take m args) } → Some t ≡ shorter number args m
cut_short number args m t free told yes_free is =
    ap Some is ∙ (λ i. Some (record { overload = number; types = sym (take-map (λ (a : ArgTerm). a.ty) m args) i; opts = sym (take-map (λ (a : ArgTerm). a.opt) m args) i }))
    ∙ sym (ap (λ b. cond b (Some (record { overload = number; types = take m (declared_types args); opts = take m (declared_opts args) })) None) (sym told ∙ yes_free))
