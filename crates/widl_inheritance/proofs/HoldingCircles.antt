-- The graph of dictionaries has no circle where none inherits from itself and none holds itself.
use Rattle.std.proofs.Common.{◌≡◌, ◌⊎◌, inl, inr, ℕ, ◌+◌, ◌-◌, ◌<◌, Bool, true, false, List, length, slice_get, Some, arith, refl, ap, subst, ◌∙◌, nat_lt}
use Rattle.std.specs.List.{Contains}
use Rattle.std.proofs.lemmas.Option.{slice_get-get_or}
use Rattle.widl_graph.proofs.ParentSteps.{parent_step}
use Rattle.widl_fits.specs.Hierarchies.{IsHierarchy}
use Rattle.widl_graph.specs.Reaching.{Reaches, ReachesItself, Step, one, more}
use Rattle.widl_graph.proofs.Reach.{joined}
use Rattle.widl_idl.specs.declared.violation.Violation.{Violation}
use Rattle.widl_idl.specs.DefinitionTerms.{DictTerm}
use Rattle.widl_idl.specs.First.{violation_at}
use Rattle.widl_inheritance.specs.declared.holding.Holdings.{Holdings}
use Rattle.widl_inheritance.specs.HoldingGraph.{AreHoldings, IsHoldingGraph}
use Rattle.widl_inheritance.proofs.HoldingSteps.{MemberStep, dictionary_at, from_members, reached_leads}
use Rattle.widl_overload.specs.rules.Dictionaries.{Inherits}
use Rattle.widl_overload.specs.rules.DictionaryRules.{HoldsItself}

module _ (dicts : List DictTerm) (graph : List (List ℕ)) (linked : IsHoldingGraph dicts (length dicts) graph) where
  -- a way that leads through the node of a dictionary as a type
  record PassesType (x y : ℕ) : Type 0 where
    node : ℕ
    below : node < length dicts
    before : Reaches graph x node
    after : Reaches graph node y

  -- a way from the members of one dictionary to those of another one is inheritance, or it leads through a type
  way_up : {x y : ℕ} → Reaches graph x y → (n m : ℕ) → n < length dicts → x ≡ length dicts + n → y ≡ length dicts + m → Inherits dicts n m ⊎ PassesType x y
  way_up (one {x = x} {y = y} s) n m below x_is y_is = by_goal (from_members dicts graph linked n y below (subst (λ k. Step graph k y) x_is s))
    where
      by_goal : MemberStep dicts n y → Inherits dicts n m ⊎ PassesType x y
      by_goal g = elim g.goes [
        | inl h ↦ absurd (let l = h.1 in omega (arith, l, y_is))
        | inr h ↦ let same : h.0 ≡ m = (let e = h.2 in omega (arith, e, y_is)) in inl (one (parent_step (λ (t : DictTerm). t.parent) dicts n m g.dictionary g.is (h.1 ∙ ap Some same)))
      ]
  way_up (more {x = x} {y = z} {z = y} s r) n m below x_is y_is = by_goal (from_members dicts graph linked n z below (subst (λ k. Step graph k z) x_is s)) (λ p l e. way_up r p m l e y_is)
    where
      passes : PassesType z y → PassesType x y
      passes p = record { node = p.node; below = p.below; before = more s p.before; after = p.after }

      by_goal : MemberStep dicts n z → ((p : ℕ) → p < length dicts → z ≡ length dicts + p → Inherits dicts p m ⊎ PassesType z y) → Inherits dicts n m ⊎ PassesType x y
      by_goal g later = elim g.goes [
        | inl h ↦ inr (record { node = z; below = h.1; before = one s; after = r })
        | inr h ↦ elim (later h.0 h.3 h.2) [ inl i ↦ inl (more (parent_step (λ (t : DictTerm). t.parent) dicts n h.0 g.dictionary g.is h.1) i) | inr p ↦ inr (passes p) ]
      ]

  module _ (hierarchy : IsHierarchy dicts) (none : (s : Violation) → HoldsItself dicts s → ⊥) where
    type_once : (n : ℕ) → n < length dicts → ReachesItself graph n → ⊥
    type_once n below r =
        let d = dictionary_at dicts n below in
        none (violation_at d.0.at) (record { number = n; dictionary = d.0; is = d.1; back = reached_leads dicts graph linked r below n below (inl refl); at_name = refl })

    members_once : (n : ℕ) → n < length dicts → ReachesItself graph (length dicts + n) → ⊥
    members_once n below r = elim (way_up r n n below refl refl) [
      | inl i ↦ hierarchy.acyclic n i
      | inr p ↦ type_once p.node p.below (joined p.after p.before)
    ]

    none_once : (x : ℕ) → x < length graph → ReachesItself graph x → ⊥
    none_once x within r = by_kind (nat_lt x (length dicts)) refl
      where
        by_kind : (b : Bool) → nat_lt x (length dicts) ≡ b → ⊥
        by_kind true t = type_once x (grind arith) r
        by_kind false t =
            let size = linked.size in
            let above : x ≡ length dicts + (x - length dicts) = grind arith in
            members_once (x - length dicts) (omega (arith, above, within, size)) (subst (ReachesItself graph) above r)

-- so no flag is set that tells of a circle
pub none_cyclic : (dicts : List DictTerm) (holdings : Holdings) → AreHoldings dicts holdings → IsHierarchy dicts → ((s : Violation) → HoldsItself dicts s → ⊥) → Contains holdings.walk.cyclic.items true → ⊥
none_cyclic dicts holdings so hierarchy none c =
    let at : slice_get holdings.walk.cyclic.items c.0 ≡ Some true = slice_get-get_or holdings.walk.cyclic.items c.0 true c.1 ∙ ap Some c.2 in
    let size = so.cyclic.size in
    none_once dicts holdings.graph so.graph hierarchy none c.0 (subst (λ n. c.0 < n) size c.1) ((so.cyclic.tells c.0).0 at)
