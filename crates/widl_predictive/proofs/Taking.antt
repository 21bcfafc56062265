-- What the machine's stack keeps of a run, where rules on top of it give way to their rows and the token that is then wanted is taken.
use Rattle.std.proofs.Common.{◌≡◌, ◌≢◌, Bool, true, false, Option, Some, List, ◌++◌, refl, sym, ◌∙◌, ap, subst, append_assoc}
use Rattle.widl_predictive.specs.declared.machine.Top.{Top}
use Rattle.widl_predictive.specs.declared.machine.Top.TheVariants.{Wanted, Open, Nothing}
use Rattle.widl_predictive.specs.Derivation.{Symbol}
use Rattle.widl_predictive.specs.Predictive.{ahead}
use Rattle.widl_predictive.specs.Grammar.{Grammar, Leveled}
use Rattle.widl_predictive.specs.Lookahead as look
use Rattle.widl_predictive.specs.Lookahead.{Sets, nth}
use Rattle.widl_predictive.specs.Machine.{topped, Unfolds, same, more, EndsAt}
use Rattle.widl_predictive.specs.Runs.{plain, stripped, Runs, Takes}
use Rattle.widl_predictive.proofs.Inversion.{runs_terminal, runs_nonterminal}
use Rattle.widl_predictive.proofs.Running.{stripped-append, row_stripped, chosen_row}

module _ {T R : Type 0} (g : Grammar T R) (s : Sets T R) where
  unfolded : {l : Option T} {o n : List (Symbol T (Leveled R))} {b : Bool} → Unfolds g s l o n b → (z : List (Symbol T R)) (w : List T) → ahead w ≡ l → Runs g s (stripped o ++ z) w → Runs g s (stripped n ++ z) w
  unfolded same z w e d = d
  unfolded {l} (more {n} {z = y} α pick u) z w e d =
      let c = runs_nonterminal g s d in
      let a = chosen_row g n.1 (g.rows n.0) (s.picked n.0 l) α pick in
      let row : c.0 ≡ a.0 = (let p : look.choice g s n.0 l ≡ Some c.0 = subst (λ x. look.choice g s n.0 x ≡ Some c.0) e c.1 in let q : look.choice g s n.0 l ≡ Some a.0 = a.1 in cc) in
      let top : stripped α ≡ plain c.0 = ap stripped (sym a.2) ∙ row_stripped g n.1 a.0 ∙ ap plain (sym row) in
      let whole : stripped (α ++ y) ++ z ≡ plain c.0 ++ (stripped y ++ z) = ap (λ x. x ++ z) (stripped-append α y ∙ ap (λ x. x ++ stripped y) top) ∙ append_assoc (plain c.0) (stripped y) z in
      unfolded u z w e (subst (λ x. Runs g s x w) (sym whole) c.2)

  -- the token that was taken from the top is the next one
  pub takes_wanted : (l : Option T) (deep : Bool) (before after : List (Symbol T (Leveled R))) (top : Top T R) (t : T) → Unfolds g s l before (topped top after) deep → top ≡ Wanted t → Takes g s l (stripped before) (stripped after) true
  takes_wanted l deep before after top t u is z w e d =
      let c = runs_terminal g s (subst (λ x. Runs g s (stripped (topped x after) ++ z) w) is (unfolded u z w e d)) in
      (t, c.0, c.1, c.2)

  -- where no token was on top nothing is left
  pub takes_none : (l : Option T) (deep : Bool) (before after : List (Symbol T (Leveled R))) (top : Top T R) → Unfolds g s l before (topped top after) deep → EndsAt g s l top → ((t : T) → top ≢ Wanted t) → Takes g s l (stripped before) (stripped after) false
  takes_none l deep before after (Wanted t) u ends none z w e d = absurd (none t refl)
  takes_none l deep before after (Open r v) u ends none z w e d =
      let c = runs_nonterminal g s (unfolded u z w e d) in
      let p : look.choice g s r l ≡ Some c.0 = subst (λ x. look.choice g s r x ≡ Some c.0) e c.1 in
      cc
  takes_none l deep before after Nothing u ends none z w e d = unfolded u z w e d
