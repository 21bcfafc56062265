-- Frames that wait for the completion of a job, and where a conversation stands after one more answer.
use Rattle.std.specs.Prelude.{◌≡◌, ℕ, ◌+◌, List, [], ◌∷◌, ◌++◌, Option, Some, None, refl}
use Rattle.std.proofs.Common.{sym, ap, subst, ◌∙◌, arith, append-nil}
use Rattle.widl_dialog.specs.Dialog.{Dialog, End, Steps, bind}
use Rattle.widl_dialog.specs.Position.{At}
use Rattle.widl_dialog.specs.Stack.{under, stack_load, longer, still}
use Rattle.widl_dialog.proofs.Bind.{bind_assoc, bind_end}
use Rattle.widl_dialog.proofs.Positions.{here, at_then, at_steps, at_answer, at_bind}

pub under_push : {J Q A R F : Type 0} (back : F → R → Dialog J Q A R) (fs : List F) (f : F) (r : R) → under back (fs ++ f ∷ []) r ≡ bind (back f r) (under back fs)
under_push back [] f r = sym (bind_end (back f r))
under_push {J = J} {Q = Q} {A = A} {R = R} back (g ∷ fs) f r = ap (λ (d : Dialog J Q A R). bind d (back g)) (under_push back fs f r) ∙ bind_assoc (back f r) (under back fs) (back g)

pub load_push : {F : Type 0} (load : F → ℕ) (fs : List F) (f : F) → stack_load load (fs ++ f ∷ []) ≡ stack_load load fs + load f
load_push load [] f = omega arith
load_push load (g ∷ fs) f = omega (arith, load_push load fs f)

module _ {J Q A R F : Type 0} (rule : J → Dialog J Q A R) (Fits : Q → A → Type 0) (back : F → R → Dialog J Q A R) where
  -- a frame is put under a task that begins
  pub stepped : (f : F) (fs new : List F) {d e : Dialog J Q A R} {j : J} → At rule Fits d [] (bind (Steps j (back f)) (under back fs)) → new ≡ fs ++ f ∷ [] → At rule Fits (rule j) [] e → At rule Fits d [] (bind e (under back new))
  stepped f fs new {d = d} {e = e} {j = j} place is_new begun =
      let same : bind (rule j) (λ r. bind (back f r) (under back fs)) ≡ bind (rule j) (under back new) =
      (λ i. bind (rule j) (λ r. sym (under_push back fs f r) i)) ∙ ap (λ (l : List F). bind (rule j) (under back l)) (sym is_new) in
      at_then rule Fits place (at_then rule Fits (at_steps rule Fits) (at_then rule Fits (here rule Fits same) (at_bind rule Fits (under back new) begun)))

  -- a task in the place of another
  pub went : (fs : List F) {d e : Dialog J Q A R} {j : J} → At rule Fits d [] (bind (Steps j End) (under back fs)) → At rule Fits (rule j) [] e → At rule Fits d [] (bind e (under back fs))
  went fs {d = d} {e = e} {j = j} place begun = at_then rule Fits place (at_then rule Fits (at_steps rule Fits) (at_bind rule Fits (under back fs) begun))

  -- an end goes to the frame on top
  pub gave : (f : F) (old fs : List F) (r : R) {d e : Dialog J Q A R} → At rule Fits d [] (under back old r) → old ≡ fs ++ f ∷ [] → At rule Fits (back f r) [] e → At rule Fits d [] (bind e (under back fs))
  gave f old fs r {d = d} {e = e} place is_old begun =
      let same : under back old r ≡ bind (back f r) (under back fs) = ap (λ (l : List F). under back l r) is_old ∙ under_push back fs f r in
      at_then rule Fits place (at_then rule Fits (here rule Fits same) (at_bind rule Fits (under back fs) begun))

  pub over : (old : List F) (r : R) {d : Dialog J Q A R} → At rule Fits d [] (under back old r) → old ≡ [] → At rule Fits d [] (End r)
  over old r {d = d} place is_old = at_then rule Fits place (here rule Fits (ap (λ (l : List F). under back l r) is_old))

module _ {J Q A R : Type 0} (rule : J → Dialog J Q A R) (Fits : Q → A → Type 0) (first : A) where
  -- where a conversation stands after the answer
  pub answered : {d : Dialog J Q A R} (said : List (Q × A)) (last : Option Q) (rest : A → Dialog J Q A R) (a : A) → At rule Fits d said (still first rest last) → (last ≡ None → a ≡ first) → ((q : Q) → last ≡ Some q → Fits q a) → At rule Fits d (longer said last a) (rest a)
  answered {d = d} said None rest a place begins fits = subst (λ (b : A). At rule Fits d said (rest b)) (sym (begins refl)) place
  answered {d = d} said (Some q) rest a place begins fits = at_then rule Fits place (at_answer rule Fits (fits q refl))

  pub leads_on : {d e g : Dialog J Q A R} (said : List (Q × A)) → At rule Fits d said e → At rule Fits e [] g → At rule Fits d said g
  leads_on {d = d} {e = e} {g = g} said x y = subst (λ (l : List (Q × A)). At rule Fits d l g) (append-nil said) (at_then rule Fits x y)
