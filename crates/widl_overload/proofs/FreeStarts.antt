-- The arguments that a call may leave out are the last ones, and so an overload has tuples of each length from a least one on.
use Rattle.std.proofs.Common.{◌≡◌, ℕ, zero, suc, ◌+◌, ◌-◌, ◌<◌, ◌≤◌, ◌++◌, ◌&&◌, ◌||◌, Bool, true, false, cond, List, [], ◌∷◌, length, take, drop, get_or, nat_eq, nat_le, nat_lt, arith, refl, sym, ap, subst, ◌∙◌, map, inl, inr}
use Rattle.std.specs.Prelude.{Option, None, Some, is_some, slice_get}
use Rattle.std.proofs.lemmas.Bool.{cases_lt}
use Rattle.std.proofs.Math.Bool.{and-false, and-true}
use Rattle.std.proofs.lemmas.List.{length_push, map-append, map_more}
use Rattle.std.proofs.lemmas.Option.{slice_get-get_or}
use Rattle.widl_idl.specs.declared.signature.Sig.{Sig}
use Rattle.widl_idl.specs.DefinitionTerms.{ArgTerm, SigTerm, arg_term, sig_term}
use Rattle.widl_overload.specs.declared.span.Span.{Span}
use Rattle.widl_overload.specs.sets.Sets.{are_free, declared_opts, is_free, longer, shorter, variadic_last}
use Rattle.widl_overload.specs.sets.Spans.{AreSpans, IsFreeStart, has_tuple, holds}
use Rattle.widl_overload.proofs.Shorter.{free_from, free_step, is_last}

-- a place in a list has an item
pub read_some : {X : Type 0} (xs : List X) (p : ℕ) → p < length xs → (x : X) × (slice_get xs p ≡ Some x)
read_some [] p below = absurd (omega arith)
read_some (x ∷ xs) zero below = (x, refl)
read_some (x ∷ xs) (suc p) below = read_some xs p (omega arith)

-- beyond the last argument there is none that a call has to give
pub free_past : (args : List ArgTerm) (m : ℕ) → length args ≤ m → free_from args m ≡ true
free_past [] zero above = refl
free_past [] (suc m) above = refl
free_past (a ∷ args) zero above = absurd (omega arith)
free_past (a ∷ args) (suc m) above = free_past args m (omega arith)

one_before : (args : List ArgTerm) (m : ℕ) → m < length args → free_from args (suc m) ≡ false → free_from args m ≡ false
one_before args m below e =
    let a = read_some args m below in
    free_step args m a.0 below a.1 ∙ ap (λ b. is_free a.0.opt (is_last args m) && b) e ∙ and-false (is_free a.0.opt (is_last args m))

none_before : (args : List ArgTerm) (k m n : ℕ) → n ≡ m + k → n < length args → free_from args n ≡ false → free_from args m ≡ false
none_before args zero m n is below e = let same : n ≡ m = omega arith in subst (λ p. free_from args p ≡ false) same e
none_before args (suc k) m n is below e = one_before args m (omega arith) (none_before args k (suc m) n (omega arith) below e)

module _ (args : List ArgTerm) (least : ℕ) (a : ArgTerm) (free : Bool) (some : 0 < least) (within : least ≤ length args) (at : a ≡ get_or args (least - 1) a) (told : free ≡ is_free a.opt (nat_eq least (length args))) where
  step : free_from args (least - 1) ≡ (free && free_from args (suc (least - 1)))
  step =
      let below : least - 1 < length args = omega arith in
      let next : least ≡ least - 1 + 1 = omega arith in
      free_step args (least - 1) a below (slice_get-get_or args (least - 1) a below ∙ ap Some (sym at)) ∙ ap (λ b. b && free_from args (suc (least - 1))) (sym (told ∙ ap (λ n. is_free a.opt (nat_eq n (length args))) next))

  -- an argument that a call has to give: from the one after it on it may leave out each
  pub start_here : free ≡ false → ((m : ℕ) → least ≤ m → free_from args m ≡ true) → IsFreeStart args least
  start_here e later =
      let no : free_from args (least - 1) ≡ false = step ∙ ap (λ b. b && free_from args (suc (least - 1))) e in
      record { within = within; free = later; others = λ m below. none_before args (least - 1 - m) m (least - 1) (omega arith) (omega arith) no }

  -- one that it may leave out: so is each from its place on
  pub free_here : free ≡ true → ((m : ℕ) → least ≤ m → free_from args m ≡ true) → (m : ℕ) → least - 1 ≤ m → free_from args m ≡ true
  free_here e later m above = elim (cases_lt m least) [
    | inl below ↦ (let is : m ≡ least - 1 = omega (arith, below) in ap (free_from args) is ∙ step ∙ (λ i. e i && later (suc (least - 1)) (omega arith) i))
    | inr past ↦ later m past
  ]

-- the lengths of the tuples of an overload
longer_if : (number : ℕ) (args : List ArgTerm) (count : ℕ) (last : Option ArgTerm) → is_some (longer number args count last) ≡ is_some last
longer_if number args count None = refl
longer_if number args count (Some last) = refl

chosen_if : {X : Type 0} (b : Bool) (x : X) → is_some (cond b (Some x) None) ≡ b
chosen_if true x = refl
chosen_if false x = refl

pub span_holds : (args : List ArgTerm) (span : Span) (m : ℕ) → IsFreeStart args span.least → span.declared ≡ length args → span.is_variadic ≡ is_some (variadic_last args) → holds m span ≡ has_tuple m args
span_holds args span m start size variadic = by_length (nat_lt (length args) m) refl
  where
    within : m ≤ length args → (b : Bool) → nat_le span.least m ≡ b → nat_le span.least m ≡ are_free (declared_opts (drop m args))
    within h true e = let above : span.least ≤ m = grind arith in e ∙ sym (start.free m above)
    within h false e = let below : m < span.least = grind arith in e ∙ sym (start.others m below)

    by_length : (b : Bool) → nat_lt (length args) m ≡ b → holds m span ≡ is_some (cond b (longer 0 args (m - length args) (variadic_last args)) (shorter 0 args m))
    by_length true e =
        let beyond : length args < m = grind arith in
        let least = start.within in
        let after : nat_le span.least m ≡ true = grind arith in
        let past : nat_le m span.declared ≡ false = grind arith in
        (λ i. after i && (past i || span.is_variadic)) ∙ variadic ∙ sym (longer_if 0 args (m - length args) (variadic_last args))
    by_length false e =
        let h : m ≤ length args = grind arith in
        let inside : nat_le m span.declared ≡ true = grind arith in
        (λ i. nat_le span.least m && (inside i || span.is_variadic)) ∙ and-true (nat_le span.least m) ∙ within h (nat_le span.least m) refl ∙ sym (chosen_if (are_free (declared_opts (drop m args))) _)

-- walking overloads: the lengths of one more
pub no_spans : AreSpans [] []
no_spans = record { count = refl; each = λ m. refl }

pub one_span : (sigs : List Sig) (i : ℕ) (s : Sig) (spans now : List Span) (span : Span) → i < length sigs → s ≡ get_or sigs i s → ((m : ℕ) → holds m span ≡ has_tuple m (map arg_term s.args)) → now ≡ spans ++ span ∷ [] → AreSpans (map sig_term (take i sigs)) spans → AreSpans (map sig_term (take (i + 1) sigs)) now
one_span sigs i s spans now span below is holding e h =
    let more : map sig_term (take (i + 1) sigs) ≡ map sig_term (take i sigs) ++ sig_term s ∷ [] = map_more sig_term sigs i s below ∙ ap (λ u. map sig_term (take i sigs) ++ sig_term u ∷ []) (sym is) in
    subst (λ some. AreSpans some now) (sym more) (subst (AreSpans (map sig_term (take i sigs) ++ sig_term s ∷ [])) (sym e) (record {
      count = length_push spans span ∙ ap (λ n. n + 1) h.count ∙ sym (length_push (map sig_term (take i sigs)) (sig_term s));
      each = λ m. map-append (holds m) spans (span ∷ []) ∙ (λ j. h.each m j ++ holding m j ∷ []) ∙ sym (map-append (λ (u : SigTerm). has_tuple m u.args) (map sig_term (take i sigs)) (sig_term s ∷ []));
    }))
