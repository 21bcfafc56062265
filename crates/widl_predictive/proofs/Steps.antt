-- What the machine's steps keep.
use Rattle.std.proofs.Common.{◌≡◌, ◌≢◌, ℕ, zero, suc, ◌-◌, ◌<◌, ◌≤◌, Bool, true, false, Option, Some, None, List, [], ◌∷◌, ◌++◌, length, get_or, drop, refl, sym, ◌∙◌, ap, subst, arith, ◌⊎◌, inl, inr}
use Rattle.std.specs.Prelude.{◌||◌}
use Rattle.widl_predictive.specs.declared.grammar.Symbol.{Symbol as RowSymbol}
use Rattle.widl_predictive.specs.declared.machine.Frame.{Frame}
use Rattle.widl_predictive.specs.declared.machine.Top.{Top}
use Rattle.widl_predictive.specs.declared.machine.Top.TheVariants.{Wanted, Open, Nothing}
use Rattle.widl_predictive.specs.Derivation.{Symbol, Nonterminal}
use Rattle.widl_predictive.specs.Grammar as gr
use Rattle.widl_predictive.specs.Grammar.{Grammar, Leveled}
use Rattle.widl_predictive.specs.Lookahead as look
use Rattle.widl_predictive.specs.Lookahead.{Sets, nth, IsPredictive}
use Rattle.widl_predictive.specs.Machine as machine
use Rattle.widl_predictive.specs.Machine.{symbol_of, stack_on, stack_of, topped}

pub stack_on-push : {T R : Type 0} (fs : List (Frame T R)) (f : Frame T R) (s : List (Symbol T (Leveled R))) → stack_on (fs ++ f ∷ []) s ≡ symbol_of f ∷ stack_on fs s
stack_on-push [] f s = refl
stack_on-push (g ∷ fs) f s = stack_on-push fs f (symbol_of g ∷ s)

pub popped : {T R : Type 0} (old new : List (Frame T R)) (f : Frame T R) → old ≡ new ++ f ∷ [] → stack_of old ≡ symbol_of f ∷ stack_of new
popped old new f e = ap stack_of e ∙ stack_on-push new f []

pub or-none : (a : Bool) → (a || false) ≡ a
or-none true = refl
or-none false = refl

pub or-assoc : (a b c : Bool) → ((a || b) || c) ≡ (a || (b || c))
or-assoc true b c = refl
or-assoc false b c = refl

pub stack_first : {T R : Type 0} (old new : List (Frame T R)) (f : Frame T R) → old ≡ [] → new ≡ old ++ f ∷ [] → stack_of new ≡ symbol_of f ∷ []
stack_first old new f e g = ap stack_of (g ∙ ap (λ x. x ++ f ∷ []) e)

pub something : {T R : Type 0} (top : Top T R) → ((t : T) × (top ≡ Wanted t)) ⊎ ((r : R) × (v : ℕ) × (top ≡ Open r v)) → top ≢ Nothing
something top (inl w) e = let wanted : top ≡ Wanted w.0 = w.1 in cc
something top (inr o) e = let opened : top ≡ Open o.0 o.1 = o.2 in cc

module _ {T R : Type 0} (g : Grammar T R) where
  pub row_at-drop : (v : ℕ) (xs : List (RowSymbol T R)) (k : ℕ) (d : RowSymbol T R) → k < length xs → gr.row_at g v (drop k xs) ≡ gr.at_level g v (get_or xs k d) ∷ gr.row_at g v (drop (suc k) xs)
  row_at-drop v [] k d lt = absurd (omega arith)
  row_at-drop v (x ∷ xs) zero d lt = refl
  row_at-drop v (x ∷ xs) (suc k) d lt = row_at-drop v xs k d (omega arith)

  pub pushed : (v : ℕ) (xs : List (RowSymbol T R)) (left : ℕ) (fs gs : List (Frame T R)) (f : Frame T R) (d : RowSymbol T R) (base : List (Symbol T (Leveled R))) → 0 < left → left ≤ length xs → stack_of fs ≡ gr.row_at g v (drop left xs) ++ base → symbol_of f ≡ gr.at_level g v (get_or xs (left - 1) d) → gs ≡ fs ++ f ∷ [] → stack_of gs ≡ gr.row_at g v (drop (left - 1) xs) ++ base
  pushed v xs left fs gs f d base pos le before sign items =
      let k : suc (left - 1) ≡ left = omega arith in
      let r : gr.row_at g v (drop (left - 1) xs) ≡ gr.at_level g v (get_or xs (left - 1) d) ∷ gr.row_at g v (drop left xs) = row_at-drop v xs (left - 1) d (omega arith) ∙ ap (λ i. gr.at_level g v (get_or xs (left - 1) d) ∷ gr.row_at g v (drop i xs)) k in
      ap stack_of items ∙ stack_on-push fs f [] ∙ ap (λ x. x ∷ stack_of fs) sign ∙ ap (λ s. gr.at_level g v (get_or xs (left - 1) d) ∷ s) before ∙ sym (ap (λ s. s ++ base) r)

  rows_at-some : (v : ℕ) (xs : List (List (RowSymbol T R))) (k : ℕ) (s : List (RowSymbol T R)) → nth xs k ≡ Some s → nth (gr.rows_at g v xs) k ≡ Some (gr.row_at g v s)
  rows_at-some v [] k s e = cc
  rows_at-some v (a ∷ more) zero s e = ap (λ x. Some (gr.row_at g v x)) (let f : a ≡ s = cc in f)
  rows_at-some v (a ∷ more) (suc k) s e = rows_at-some v more k s e

  pub rows_at-none : (v : ℕ) (xs : List (List (RowSymbol T R))) (k : ℕ) → nth xs k ≡ None → nth (gr.rows_at g v xs) k ≡ None
  rows_at-none v [] k e = refl
  rows_at-none v (a ∷ xs) zero e = cc
  rows_at-none v (a ∷ xs) (suc k) e = rows_at-none v xs k e

  -- where no rule is on top the rows end
  pub ends_no_rule : (s : Sets T R) (l : Option T) (top : Top T R) → ((r : R) (v : ℕ) → top ≢ Open r v) → machine.EndsAt g s l top
  ends_no_rule s l (Wanted t) none = tt
  ends_no_rule s l (Open r v) none = absurd (none r v refl)
  ends_no_rule s l Nothing none = tt

  -- the row of the rule on top is put in its place
  module _ (s : Sets T R) (p : IsPredictive g s) (r : R) (v : ℕ) (a : List (RowSymbol T R)) (l : Option T) (top next : Top T R) (below left : List (Symbol T (Leveled R))) (on_top : top ≡ Open r v) (chosen : look.choice g s r l ≡ Some a) (after : topped next left ≡ gr.row_at g v a ++ below) where
    opened_was : topped top below ≡ Nonterminal (r, v) ∷ below
    opened_was = ap (λ x. topped x below) on_top

    pub opened_smaller : look.stack_cost g s (topped next left) < look.stack_cost g s (topped top below)
    opened_smaller = subst (λ x. x < look.stack_cost g s (topped top below)) (ap (look.stack_cost g s) (sym after)) (subst (λ x. look.stack_cost g s (gr.row_at g v a ++ below) < x) (ap (look.stack_cost g s) (sym opened_was)) (p.falls r v (s.picked r l) a below chosen))

    pub opened : (z : List (Symbol T (Leveled R))) (b : Bool) → machine.Unfolds g s l (topped next left) z b → machine.Unfolds g s l (topped top below) z (gr.is_deep g (r, v) || b)
    opened z b u = subst (λ x. machine.Unfolds g s l x z (gr.is_deep g (r, v) || b)) (sym opened_was) (machine.more (gr.row_at g v a) (rows_at-some v (g.rows r) (s.picked r l) a chosen) (subst (λ x. machine.Unfolds g s l x z b) after u))
