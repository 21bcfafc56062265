-- Each token list has at most one place of each kind, and at most one fault.
use Rattle.std.proofs.Common.{◌≡◌, ℕ, zero, suc, ◌+◌, ◌<◌, ◌≤◌, Bool, true, false, List, [], ◌∷◌, ◌++◌, length, take, refl, sym, ◌∙◌, ap, subst, inl, inr, arith, append_assoc, append-nil, ltb, ltb-true, ltb-false}
use Rattle.std.specs.Prelude.{◌⊎◌, Result, Ok, Err, IfErr, IsOkUnless}
use Rattle.widl_predictive.specs.declared.fault.Fault.{Fault}
use Rattle.widl_predictive.specs.declared.fault.Fault.TheVariants.{Syntax, TooDeep, Memory}
use Rattle.widl_predictive.specs.Grammar as gr
use Rattle.widl_predictive.specs.Grammar.{Grammar}
use Rattle.widl_predictive.specs.Machine as machine

nothing : {T : Type 0} (k : ℕ) → take {A = T} k [] ≡ []
nothing zero = refl
nothing (suc k) = refl

take_below : {T : Type 0} (w : List T) (j k : ℕ) → j ≤ k → (v : List T) × (take k w ≡ take j w ++ v)
take_below [] j k le = ([], nothing k ∙ sym (append-nil (take j []) ∙ nothing j))
take_below (x ∷ w) zero k le = (take k (x ∷ w), refl)
take_below (x ∷ w) (suc j) zero le = absurd (omega arith)
take_below (x ∷ w) (suc j) (suc k) le = let r = take_below w j k (omega arith) in (r.0, ap (λ u. x ∷ u) r.1)

module _ {T R : Type 0} (g : Grammar T R) (r : R) where
  -- what begins a sentence begins with what begins one
  pub begins_less : (w : List T) (j k : ℕ) → j ≤ k → gr.Begins g r (take k w) → gr.Begins g r (take j w)
  begins_less w j k le b =
      let t = take_below w j k le in
      (t.0 ++ b.0, subst (gr.Sentence g r) (ap (λ x. x ++ b.0) t.1 ∙ append_assoc (take j w) t.0 b.0) b.1)

  not_before : (w : List T) (j k : ℕ) → gr.SyntaxPlace g r w j → gr.SyntaxPlace g r w k → j < k → ⊥
  not_before w j k a b lt = a.within (omega (arith, lt, b.reached)) (begins_less w (j + 1) k (omega (arith, lt)) b.before)

  pub one_place : (w : List T) (j k : ℕ) → gr.SyntaxPlace g r w j → gr.SyntaxPlace g r w k → j ≡ k
  one_place w j k a b = go (ltb j k) refl (ltb k j) refl
    where
      go : (c : Bool) → ltb j k ≡ c → (d : Bool) → ltb k j ≡ d → j ≡ k
      go true e d f = absurd (not_before w j k a b (ltb-true j k e))
      go false e true f = absurd (not_before w k j b a (ltb-true k j f))
      go false e false f = omega (arith, ltb-false j k e, ltb-false k j f)

  take_all : {X : Type 0} (w : List X) → take (length w) w ≡ w
  take_all [] = refl
  take_all (x ∷ w) = ap (λ u. x ∷ u) (take_all w)

  -- a sentence has no syntax place
  pub no_place : (w : List T) (k : ℕ) → gr.Sentence g r w → gr.SyntaxPlace g r w k → ⊥
  no_place w k d p = go (ltb k (length w)) refl
    where
      go : (c : Bool) → ltb k (length w) ≡ c → ⊥
      go true e = p.within (ltb-true k (length w) e) (begins_less w (k + 1) (length w) (omega (arith, ltb-true k (length w) e)) ([], subst (gr.Sentence g r) (sym (append-nil (take (length w) w) ∙ take_all w)) d))
      go false e = p.at_end (omega (arith, p.reached, ltb-false k (length w) e)) d

  -- a deep place lies before the syntax place
  pub deep_before : (w : List T) (j k : ℕ) → j < length w → gr.DeepAt g r w j → gr.SyntaxPlace g r w k → j < k
  deep_before w j k lt d p = go (ltb j k) refl
    where
      go : (c : Bool) → ltb j k ≡ c → j < k
      go true e = ltb-true j k e
      go false e = absurd (p.within (omega (arith, lt, ltb-false j k e)) (begins_less w (k + 1) (j + 1) (omega (arith, ltb-false j k e)) (d.0, d.1)))

  pub deep_place_before : (w : List T) (j k : ℕ) → gr.DeepPlace g r w j → gr.SyntaxPlace g r w k → j < k
  deep_place_before w j k d p = deep_before w j k d.within d.deep p

  one_deep : (w : List T) (j k : ℕ) → gr.DeepPlace g r w j → gr.DeepPlace g r w k → j ≡ k
  one_deep w j k a b = go (ltb j k) refl (ltb k j) refl
    where
      go : (c : Bool) → ltb j k ≡ c → (d : Bool) → ltb k j ≡ d → j ≡ k
      go true e d f = absurd (b.least j (ltb-true j k e) a.deep)
      go false e true f = absurd (a.least k (ltb-true k j f) b.deep)
      go false e false f = omega (arith, ltb-false j k e, ltb-false k j f)

  pub one_fault : (w : List T) (e f : Fault) → gr.IsFault g r w e → gr.IsFault g r w f → e ≡ f
  one_fault w (Syntax j) (Syntax k) a b = ap Syntax (one_place w j k a.0 b.0)
  one_fault w (Syntax j) (TooDeep k) a b = absurd (let lt : j < k = a.1 k b.0 in let gt : k < j = b.1 j a.0 in omega (arith, lt, gt))
  one_fault w (TooDeep j) (Syntax k) a b = absurd (let lt : j < k = a.1 k b.0 in let gt : k < j = b.1 j a.0 in omega (arith, lt, gt))
  one_fault w (TooDeep j) (TooDeep k) a b = ap TooDeep (one_deep w j k a.0 b.0)
  one_fault w Memory f a b = absurd a
  one_fault w e Memory a b = absurd b

  pub no_fault : (w : List T) (e : Fault) → gr.IsAccepted g r w → gr.IsFault g r w e → ⊥
  no_fault w (Syntax k) a b = no_place w k a.sentence b.0
  no_fault w (TooDeep k) a b = a.no_deep k b.0
  no_fault w Memory a b = b

  -- what the machine knows where it stops is the fault
  found_fault : (w : List T) (e : Fault) → machine.IsFound g r w e → (e ≡ Memory) ⊎ gr.IsFault g r w e
  found_fault w (Syntax k) h = inr (h.0, λ j d. absurd (h.1 j (deep_place_before w j k d h.0) d.deep))
  found_fault w (TooDeep k) h = inr (h, λ j p. deep_place_before w k j h p)
  found_fault w Memory h = inl refl

  pub fault_of : (w : List T) (x : Result (Unit {0}) Fault) → IfErr x (machine.IsFound g r w) → IfErr x (λ e. (e ≡ Memory) ⊎ gr.IsFault g r w e)
  fault_of w (Ok x) h = tt
  fault_of w (Err e) h = found_fault w e h

  pub complete_of : (w : List T) (x : Result (Unit {0}) Fault) → IfErr x (machine.IsFound g r w) → gr.IsAccepted g r w → IsOkUnless x Memory
  complete_of w (Ok x) h a = tt
  complete_of w (Err e) h a = elim (found_fault w e h) [ inl m ↦ m | inr f ↦ absurd (no_fault w e a f) ]
