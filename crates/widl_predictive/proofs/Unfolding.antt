-- What is kept of a rule that gave way to rows says of a whole stack.
use Rattle.std.proofs.Common.{◌≡◌, ◌≢◌, ℕ, suc, ◌<◌, Bool, false, Option, List, [], ◌∷◌, ◌++◌, length, refl, sym, ◌∙◌, ap, subst, arith, append_assoc}
use Rattle.std.specs.Prelude.{◌||◌}
use Rattle.widl_predictive.specs.declared.machine.Frame.{Frame}
use Rattle.widl_predictive.specs.declared.machine.Top.{Top}
use Rattle.widl_predictive.specs.declared.machine.Top.TheVariants.{Wanted, Open, Nothing}
use Rattle.widl_predictive.specs.declared.unfoldings.Unfolding.{Unfolding}
use Rattle.widl_predictive.specs.Derivation.{Symbol, Nonterminal}
use Rattle.widl_predictive.specs.Grammar as gr
use Rattle.widl_predictive.specs.Grammar.{Grammar, Leveled}
use Rattle.widl_predictive.specs.Lookahead.{Sets}
use Rattle.widl_predictive.specs.Machine.{symbol_of, stack_on, stack_of, topped, Unfolds, same, more}
use Rattle.widl_predictive.specs.Unfoldings.{IsUnfolding, AreUnfoldings}
use Rattle.widl_predictive.proofs.Steps.{or-assoc, stack_on-push}

stack_on-append : {T R : Type 0} (fs gs : List (Frame T R)) (s : List (Symbol T (Leveled R))) → stack_on (fs ++ gs) s ≡ stack_on gs (stack_on fs s)
stack_on-append [] gs s = refl
stack_on-append (f ∷ fs) gs s = stack_on-append fs gs (symbol_of f ∷ s)

stack_on-base : {T R : Type 0} (fs : List (Frame T R)) (s : List (Symbol T (Leveled R))) → stack_on fs s ≡ stack_of fs ++ s
stack_on-base [] s = refl
stack_on-base (f ∷ fs) s = stack_on-base fs (symbol_of f ∷ s) ∙ sym (ap (λ x. x ++ s) (stack_on-base fs (symbol_of f ∷ [])) ∙ append_assoc (stack_of fs) (symbol_of f ∷ []) s)

stack_of-append : {T R : Type 0} (fs gs : List (Frame T R)) → stack_of (fs ++ gs) ≡ stack_of gs ++ stack_of fs
stack_of-append fs gs = stack_on-append fs gs [] ∙ stack_on-base gs (stack_of fs)

topped-append : {T R : Type 0} (top : Top T R) (a z : List (Symbol T (Leveled R))) → top ≢ Nothing → topped top a ++ z ≡ topped top (a ++ z)
topped-append (Wanted t) a z some = refl
topped-append (Open r v) a z some = refl
topped-append Nothing a z some = absurd (some refl)

pub put_back : {T R : Type 0} (old new : List (Frame T R)) (f : Frame T R) → new ≡ old ++ f ∷ [] → stack_of new ≡ symbol_of f ∷ stack_of old
put_back old new f e = ap stack_of e ∙ stack_on-push old f []

-- one symbol less where the top was taken
pub fewer : {T R : Type 0} (top next : Top T R) (r : R) (v : ℕ) (below left : List (Symbol T (Leveled R))) → top ≡ Open r v → topped next left ≡ below → length (topped next left) < length (topped top below)
fewer top next r v below left is taken = subst (λ x. length (topped next left) < length (topped x below)) (sym is) (subst (λ x. length x < suc (length below)) (sym taken) (omega arith))

module _ {T R : Type 0} (g : Grammar T R) (s : Sets T R) where
  pub none_kept : (kept : List (Unfolding T R)) → kept ≡ [] → AreUnfoldings g s kept
  none_kept [] e k d lt = absurd (omega (arith, lt))
  none_kept (u ∷ kept) e k d lt = cc

  -- what symbols give way to they give way to before others
  before : {l : Option T} {a t : List (Symbol T (Leveled R))} {d : Bool} → Unfolds g s l a t d → (z y : List (Symbol T (Leveled R))) (b : Bool) → Unfolds g s l (t ++ z) y b → Unfolds g s l (a ++ z) y (d || b)
  before same z y b u = u
  before {l} (more {n} {z = w} {b = d} α pick v) z y b u = subst (Unfolds g s l (Nonterminal n ∷ (w ++ z)) y) (sym (or-assoc (gr.is_deep g n) d b)) (more α pick (subst (λ x. Unfolds g s l x y (d || b)) (append_assoc α w z) (before v z y b u)))

  module _ (l : Option T) (r : R) (v : ℕ) (u : Unfolding T R) (known : IsUnfolding g s l r v u) (top : Top T R) (below : List (Symbol T (Leveled R))) (on_top : top ≡ Open r v) where
    was : topped top below ≡ Nonterminal (r, v) ∷ below
    was = ap (λ x. topped x below) on_top

    -- nothing is left of the rule
    pub emptied : u.top ≡ Nothing → (next : Top T R) (left : List (Symbol T (Leveled R))) → topped next left ≡ below → (y : List (Symbol T (Leveled R))) (b : Bool) → Unfolds g s l (topped next left) y b → Unfolds g s l (topped top below) y (u.deep || b)
    emptied none next left taken y b rest =
        let k : Unfolds g s l (Nonterminal (r, v) ∷ []) [] u.deep = subst (λ x. Unfolds g s l (Nonterminal (r, v) ∷ []) (topped x (stack_of u.below.items)) u.deep) none known.0 in
        subst (λ x. Unfolds g s l x y (u.deep || b)) (sym was) (before k below y b (subst (λ x. Unfolds g s l x y b) taken rest))

    -- what it gave way to is put on the stack
    pub replaced : u.top ≢ Nothing → (fs gs : List (Frame T R)) → stack_of fs ≡ below → gs ≡ fs ++ u.below.items → Unfolds g s l (topped top below) (topped u.top (stack_of gs)) (u.deep || false)
    replaced some fs gs is added =
        let e : topped u.top (stack_of u.below.items) ++ below ≡ topped u.top (stack_of gs) = topped-append u.top (stack_of u.below.items) below some ∙ ap (topped u.top) (sym (ap stack_of added ∙ stack_of-append fs u.below.items ∙ ap (λ x. stack_of u.below.items ++ x) is)) in
        subst (λ x. Unfolds g s l x (topped u.top (stack_of gs)) (u.deep || false)) (sym was) (before known.0 below (topped u.top (stack_of gs)) false (subst (λ x. Unfolds g s l x (topped u.top (stack_of gs)) false) (sym e) same))
