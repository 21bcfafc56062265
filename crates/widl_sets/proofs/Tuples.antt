-- The tuples of an effective overload set, whose types have their optionality values.
use Rattle.std.proofs.Common.{◌≡◌, ℕ, ◌+◌, ◌-◌, ◌<◌, ◌≤◌, ◌⊎◌, inl, inr, true, false, cond, zero, suc, max, List, [], ◌∷◌, length, drop, replicate, nat_lt, arith, refl, sym, ap, subst, ◌∙◌}
use Rattle.std.specs.Prelude.{All, Option, None, Some}
use Rattle.std.specs.Option.{ForSome}
use Rattle.std.proofs.lemmas.Bool.{cases_Bool, ltb-false, ltb-true}
use Rattle.std.proofs.lemmas.List.{length-append, length-map, length-replicate, length-take-le}
use Rattle.std.proofs.lemmas.List.Elements.{All-append, All-cons, All-head, All-nil, All-tail}
use Rattle.std.proofs.lemmas.Option.{cond_some as some_of_cond, same_Some}
use Rattle.widl_idl.specs.declared.argument.Optionality.TheVariants.{Variadic}
use Rattle.widl_idl.specs.declared.callee.Callee.{Callee}
use Rattle.widl_idl.specs.declared.defs.Defs.{Defs}
use Rattle.widl_idl.specs.DefinitionTerms.{ArgTerm, SigTerm, defs_term}
use Rattle.widl_idl.specs.Counts.{IsNumberedList}
use Rattle.widl_overload.specs.sets.Sets.{AreNumbered, HasFewArgs, TupleTerm, declared_opts, declared_types, effective_or_none, effective_set_of, effective_tuples, are_free, longer, longest, of_length, of_lengths, overloads_of, shorter, tuple_of, variadic_last, with_tuple}
use Rattle.widl_overload.proofs.Numbered.{overloads_numbered}
use Rattle.widl_sets.specs.Lines.{IsTuple}

-- a tuple has so many types, and as many optionality values
record HasLength (m : ℕ) (t : TupleTerm) : Type 0 where
  pub types : length t.types ≡ m
  pub opts : length t.opts ≡ m

longer_has : (number : ℕ) (args : List ArgTerm) (m : ℕ) (last : Option ArgTerm) (t : TupleTerm) → length args < m → longer number args (m - length args) last ≡ Some t → HasLength m t
longer_has number args m None t below is = absurd (cc)
longer_has number args m (Some last) t below is = subst (HasLength m) (same_Some _ t is) (record {
  types = length-append (declared_types args) (replicate (m - length args) last.ty) ∙ (let a = length-map args (λ (x : ArgTerm). x.ty) in let b = length-replicate (m - length args) last.ty in omega (arith, a, b, below));
  opts = length-append (declared_opts args) (replicate (m - length args) Variadic) ∙ (let a = length-map args (λ (x : ArgTerm). x.opt) in let b = length-replicate (m - length args) Variadic in omega (arith, a, b, below));
})

shorter_has : (number : ℕ) (args : List ArgTerm) (m : ℕ) (t : TupleTerm) → m ≤ length args → shorter number args m ≡ Some t → HasLength m t
shorter_has number args m t below is = subst (HasLength m) (some_of_cond (are_free (declared_opts (drop m args))) _ t is).1 (record {
  types = length-take-le m (declared_types args) (let a = length-map args (λ (x : ArgTerm). x.ty) in omega (arith, a, below));
  opts = length-take-le m (declared_opts args) (let a = length-map args (λ (x : ArgTerm). x.opt) in omega (arith, a, below));
})

tuple_has : (number : ℕ) (args : List ArgTerm) (m : ℕ) (t : TupleTerm) → tuple_of number args m ≡ Some t → HasLength m t
tuple_has number args m t is = by (cases_Bool (nat_lt (length args) m))
  where
    by : (nat_lt (length args) m ≡ true) ⊎ (nat_lt (length args) m ≡ false) → HasLength m t
    by (inl above) = longer_has number args m (variadic_last args) t (ltb-true (length args) m above) (sym (ap (λ b. cond b (longer number args (m - length args) (variadic_last args)) (shorter number args m)) above) ∙ is)
    by (inr below) = shorter_has number args m t (ltb-false (length args) m below) (sym (ap (λ b. cond b (longer number args (m - length args) (variadic_last args)) (shorter number args m)) below) ∙ is)

is_tuple : (m : ℕ) (t : TupleTerm) → m < 4294967296 → HasLength m t → IsTuple t
is_tuple m t few has = record { few = let a = has.types in omega (arith, a, few); paired = has.opts ∙ sym has.types }

with_one : (o : Option TupleTerm) (tuples : List TupleTerm) → ((t : TupleTerm) → o ≡ Some t → IsTuple t) → All IsTuple tuples → All IsTuple (with_tuple o tuples)
with_one None tuples one others = others
with_one (Some t) tuples one others = All-cons IsTuple t tuples (one t refl) others

each_of_length : (m number : ℕ) (sigs : List SigTerm) → m < 4294967296 → All IsTuple (of_length m number sigs)
each_of_length m number [] few = All-nil IsTuple
each_of_length m number (s ∷ sigs) few = with_one (tuple_of number s.args m) (of_length m (number + 1) sigs) (λ t is. is_tuple m t few (tuple_has number s.args m t is)) (each_of_length m (number + 1) sigs few)

each_of_lengths : (m count : ℕ) (sigs : List SigTerm) → m + count ≤ 4294967296 → All IsTuple (of_lengths m count sigs)
each_of_lengths m zero sigs few = All-nil IsTuple
each_of_lengths m (suc count) sigs few = All-append IsTuple (of_length m 0 sigs) (of_lengths (m + 1) count sigs) (each_of_length m 0 sigs (omega (arith, few))) (each_of_lengths (m + 1) count sigs (omega (arith, few)))

longest_few : (sigs : List SigTerm) → All HasFewArgs sigs → longest sigs < 4294967296
longest_few [] each = omega arith
longest_few (s ∷ sigs) each =
    let here : length s.args < 4294967296 = All-head HasFewArgs s sigs each in
    let rest : longest sigs < 4294967296 = longest_few sigs (All-tail HasFewArgs s sigs each) in
    omega (arith, here, rest)

each_is_tuple : (sigs : List SigTerm) → AreNumbered sigs → All IsTuple (effective_tuples sigs 0)
each_is_tuple sigs numbered = each_of_lengths 0 (max (longest sigs) 0 + 1) sigs (let few = longest_few sigs numbered.each in omega (arith, few))

each_or_none : (sigs : Option (List SigTerm)) → ForSome sigs AreNumbered → All IsTuple (effective_or_none sigs 0)
each_or_none None numbered = All-nil IsTuple
each_or_none (Some sigs) numbered = each_is_tuple sigs (numbered sigs refl)

pub each_in_set : (defs : Defs) (callee : Callee) (tuples : List TupleTerm) → IsNumberedList defs → tuples ≡ effective_set_of (defs_term defs) callee 0 → All IsTuple tuples
each_in_set defs callee tuples numbered is = subst (All IsTuple) (sym is) (each_or_none (overloads_of (defs_term defs) callee) (overloads_numbered defs callee numbered))
