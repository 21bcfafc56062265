-- A conversation within a larger set of rules.
use Rattle.std.specs.Prelude.{◌≡◌, ℕ, zero, suc, List, [], ◌∷◌, refl}
use Rattle.std.proofs.Common.{sym, ap, subst, ◌∙◌}
use Rattle.widl_dialog.specs.Dialog.{Dialog, End, Say, Steps, bind}
use Rattle.widl_dialog.specs.Conversation.{Next, Ends, Reads, Comes, Finishes, Good}
use Rattle.widl_dialog.specs.Position.{After, At}
use Rattle.widl_dialog.specs.Rename.{rename}

pub rename_bind : {J I Q A R : Type 0} (f : J → I) (d : Dialog J Q A R) (k : R → Dialog J Q A R) → rename f (bind d k) ≡ bind (rename f d) (λ r. rename f (k r))
rename_bind f (End r) k = refl
rename_bind f (Say q g) k = λ i. Say q (λ a. rename_bind f (g a) k i)
rename_bind f (Steps j g) k = λ i. Steps (f j) (λ r. rename_bind f (g r) k i)

module _ {J I Q A R : Type 0} (f : J → I) (rule : J → Dialog J Q A R) (above : I → Dialog I Q A R) (Fits : Q → A → Type 0) (same : (j : J) → above (f j) ≡ rename f (rule j)) where
  rename_place : (m : ℕ) (d e : Dialog J Q A R) (said : List (Q × A)) → After rule Fits m d said e → After above Fits m (rename f d) said (rename f e)
  rename_place zero d e [] x = ap (rename f) x
  rename_place zero d e (p ∷ said) x = absurd x
  rename_place (suc m) (End r) e said x = absurd x
  rename_place (suc m) (Say q k) e [] x = absurd x
  rename_place (suc m) (Say q k) e (p ∷ said) x = (x.0, x.1, rename_place m (k p.1) e said x.2)
  rename_place (suc m) (Steps j k) e said x =
      subst (λ (t : Dialog I Q A R). After above Fits m t said (rename f e))
      (rename_bind f (rule j) k ∙ ap (λ (t : Dialog I Q A R). bind t (λ r. rename f (k r))) (sym (same j)))
      (rename_place m (bind (rule j) k) e said x)

  -- the places of a conversation are those of the renamed one
  pub at_rename : {d e : Dialog J Q A R} {said : List (Q × A)} → At rule Fits d said e → At above Fits (rename f d) said (rename f e)
  at_rename {d = d} {e = e} {said = said} x = record { steps = x.steps; after = rename_place x.steps d e said x.after }

  rename_reads : (m : ℕ) (d : Dialog J Q A R) (said : List (Q × A)) (n : Next Q R) → Reads rule Fits m d said n → Reads above Fits m (rename f d) said n
  rename_reads zero d said n x = absurd x
  rename_reads (suc m) (End r) [] n x = x
  rename_reads (suc m) (End r) (p ∷ said) n x = absurd x
  rename_reads (suc m) (Say q k) [] n x = x
  rename_reads (suc m) (Say q k) (p ∷ said) n x = (x.0, x.1, rename_reads m (k p.1) said n x.2)
  rename_reads (suc m) (Steps j k) said n x =
      subst (λ (t : Dialog I Q A R). Reads above Fits m t said n)
      (rename_bind f (rule j) k ∙ ap (λ (t : Dialog I Q A R). bind t (λ r. rename f (k r))) (sym (same j)))
      (rename_reads m (bind (rule j) k) said n x)

  -- what comes next in a conversation comes next in the renamed one
  pub comes_rename : {d : Dialog J Q A R} {said : List (Q × A)} {n : Next Q R} → Comes rule Fits d said n → Comes above Fits (rename f d) said n
  comes_rename {d = d} {said = said} {n = n} x = (x.0, rename_reads x.0 d said n x.1)

  pub finishes_rename : (d : Dialog J Q A R) → Finishes rule Fits d → Finishes above Fits (rename f d)
  finishes_rename d x = (x.0, x.1, comes_rename {d = d} {said = x.0} {n = Ends x.1} x.2)

  pub good_rename : (d : Dialog J Q A R) → Good rule Fits d → Good above Fits (rename f d)
  good_rename (End r) x = tt
  good_rename (Say q k) x = λ a fits. (finishes_rename (k a) (x a fits).0, good_rename (k a) (x a fits).1)
  good_rename (Steps j k) x = λ r. (finishes_rename (k r) (x r).0, good_rename (k r) (x r).1)
