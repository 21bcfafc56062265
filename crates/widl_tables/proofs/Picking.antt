-- One test after another.
use Rattle.std.proofs.Common.{◌≡◌, ℕ, suc, zero, ◌+◌, ◌<◌, ◌≤◌, Bool, true, false, List, [], ◌∷◌, length, drop, map, get_or, Option, None, Some, arith, refl, sym, ap, ◌∙◌}
use Rattle.widl_idl.specs.DefinitionTerms.{DefsTerm}
use Rattle.widl_idl.specs.Terms.{TypeTerm}
use Rattle.widl_overload.specs.sets.Sets.{TupleTerm}
use Rattle.widl_value.specs.declared.class.Class.{Class}
use Rattle.widl_value.specs.declared.class.Class.TheVariants as classes
use Rattle.widl_tables.specs.declared.pick.Pick.{Pick}
use Rattle.widl_tables.specs.Picks.{Met, first_pick, met_members, pick_kept, pick_of, picks_by}
use Rattle.widl_tables.specs.Decided.{decided, decided_by, met_step, steps}

abbrev or_later : Option Pick → Pick → Pick
or_later None later = later
or_later (Some pick) later = pick

picks_is : (probed needs_method : Bool) (e : Option ℕ) (later : Pick) → picks_by probed needs_method e later ≡ or_later (decided probed needs_method e) later
picks_is probed false None later = refl
picks_is probed true None later = refl
picks_is probed false (Some e) later = refl
picks_is true true (Some e) later = refl
picks_is false true (Some e) later = refl

module _ {R : Type 0} (f : R → Met) (probed : Bool) where
  -- a test that decides nothing leaves it to those after it
  pub undecided : (rows : List R) (i : ℕ) (d : R) → i < length rows → decided_by probed (f (get_or rows i d)) ≡ None
      → first_pick probed (map f (drop i rows)) ≡ first_pick probed (map f (drop (i + 1) rows))
  undecided [] i d below none = absurd (omega arith)
  undecided (r ∷ rows) zero d below none = picks_is probed (f r).needs_method (f r).entry (first_pick probed (map f rows)) ∙ ap (λ p. or_later p (first_pick probed (map f rows))) none
  undecided (r ∷ rows) (suc i) d below none =
      let next : suc (i + 1) ≡ suc i + 1 = omega arith in
      undecided rows i d (omega arith) none ∙ ap (λ k. first_pick probed (map f (drop k (r ∷ rows)))) next

  -- the first that decides gives the pick
  pub settled : (rows : List R) (i : ℕ) (d : R) (pick : Pick) → i < length rows → decided_by probed (f (get_or rows i d)) ≡ Some pick
      → first_pick probed (map f (drop i rows)) ≡ pick
  settled [] i d pick below some = absurd (omega arith)
  settled (r ∷ rows) zero d pick below some = picks_is probed (f r).needs_method (f r).entry (first_pick probed (map f rows)) ∙ ap (λ p. or_later p (first_pick probed (map f rows))) some
  settled (r ∷ rows) (suc i) d pick below some = settled rows i d pick (omega arith) some

-- where several are kept the place decides
pub of_several : (list : DefsTerm) (f : ℕ → TupleTerm) (numbers : List ℕ) (place : Option ℕ) (p : ℕ) (class : Class) (probed : Bool) → 2 ≤ length numbers → place ≡ Some p
    → pick_of list (map f numbers) p class probed ≡ pick_kept list (map f numbers) place class probed
of_several list f [] place p class probed several is = absurd (omega arith)
of_several list f (e ∷ []) place p class probed several is = absurd (omega arith)
of_several list f (e ∷ g ∷ more) place p class probed several is = ap (λ found. pick_kept list (f e ∷ f g ∷ map f more) found class probed) (sym is)

-- the steps of unions, by the class of the value: none but a platform object implements an interface
pub steps_are_met : (list : DefsTerm) (class : Class) (members : List TypeTerm) (probed : Bool)
    → first_pick probed (map (met_step list class members) steps) ≡ first_pick probed (met_members list class members)
steps_are_met list classes.Undefined members probed = refl
steps_are_met list classes.Null members probed = refl
steps_are_met list classes.Bool members probed = refl
steps_are_met list classes.Num members probed = refl
steps_are_met list classes.Str members probed = refl
steps_are_met list classes.Sym members probed = refl
steps_are_met list (classes.Platform own) members probed = refl
steps_are_met list classes.Callable members probed = refl
steps_are_met list classes.Plain members probed = refl
