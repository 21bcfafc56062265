-- For proofs alone. The lengths of which an overload has tuples, and the numbers of the overloads that have one of a length.
use Rattle.std.specs.Prelude.{◌≡◌, ℕ, ◌+◌, ◌<◌, ◌≤◌, Bool, true, false, ◌&&◌, ◌||◌, List, [], ◌∷◌, length, drop, map, nat_le, is_some, if◌then◌else◌}
use Rattle.widl_idl.specs.DefinitionTerms.{ArgTerm, SigTerm}
use Rattle.widl_overload.specs.declared.span.Span.{Span}
use Rattle.widl_overload.specs.sets.Sets.{are_free, declared_opts, tuple_of}

-- whether an overload with these arguments has a tuple of a length
abbrev pub has_tuple : ℕ → List ArgTerm → Bool
has_tuple m args = is_some (tuple_of 0 args m)

abbrev pub holds : ℕ → Span → Bool
holds m span = nat_le span.least m && (nat_le m span.declared || span.is_variadic)

abbrev pub spans_hold : ℕ → List Span → List Bool
spans_hold m spans = map (holds m) spans

abbrev pub have_tuples : ℕ → List SigTerm → List Bool
have_tuples m sigs = map (λ (s : SigTerm). has_tuple m s.args) sigs

-- the lengths of the tuples of each overload
pub record AreSpans (sigs : List SigTerm) (spans : List Span) : Type 0 where
  pub count : length spans ≡ length sigs
  pub each : (m : ℕ) → spans_hold m spans ≡ have_tuples m sigs

-- the place from which on a call may leave out each argument, and before which it may not
pub record IsFreeStart (args : List ArgTerm) (start : ℕ) : Type 0 where
  pub within : start ≤ length args
  pub free : (m : ℕ) → start ≤ m → are_free (declared_opts (drop m args)) ≡ true
  pub others : (m : ℕ) → m < start → are_free (declared_opts (drop m args)) ≡ false

-- the places of what is true, where the first one has this number
abbrev pub true_places : ℕ → List Bool → List ℕ
true_places number [] = []
true_places number (b ∷ bs) = if b then number ∷ true_places (number + 1) bs else true_places (number + 1) bs

-- the overloads with these numbers are those that have a tuple of each length from one on, before another
abbrev pub AreListed : List Span → ℕ → ℕ → List ℕ → Type 0
AreListed spans m end numbers = (k : ℕ) → m ≤ k → k < end → numbers ≡ true_places 0 (spans_hold k spans)
