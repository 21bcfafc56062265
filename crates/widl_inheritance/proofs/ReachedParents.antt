-- An interface inherits from those that it reaches through parents.
use Rattle.std.proofs.Common.{◌≡◌, ◌↔◌, ℕ, ◌≤◌, zero, suc, Bool, true, false, nat_eq, List, length, Option, None, Some, arith, refl, ap, subst, ◌∙◌}
use Rattle.std.specs.Prelude.{if◌then◌else◌}
use Rattle.widl_graph.proofs.ParentSteps.{child_within, step_up, up_step}
use Rattle.widl_fits.specs.Hierarchies.{interface_parents}
use Rattle.widl_graph.specs.Reaching.{Reaches, Step, one, more, IsAcyclic}
use Rattle.widl_idl.specs.DefinitionTerms.{IfaceTerm}
use Rattle.widl_overload.specs.sets.Inheritance.{inherits, is_among, parent_of}
use Rattle.widl_graph.proofs.ParentChains.{Climbs, above, climbs_more, climbs_on, few_above, next, next_is}

module _ (ifaces : List IfaceTerm) where
  -- one of so many parents is reached
  reached : (links m n : ℕ) → is_among ifaces links n (parent_of ifaces m) ≡ true → Reaches (interface_parents ifaces) m n
  reached zero m n e = absurd (cc)
  reached (suc links) m n e = by_parent (parent_of ifaces m) refl e (λ q h. reached links q n h)
    where
      by_test : (q : ℕ) (b : Bool) → nat_eq q n ≡ b → parent_of ifaces m ≡ Some q → (if b then true else is_among ifaces links n (parent_of ifaces q)) ≡ true → ((q : ℕ) → is_among ifaces links n (parent_of ifaces q) ≡ true → Reaches (interface_parents ifaces) q n) → Reaches (interface_parents ifaces) m n
      by_test q true same is h rest = let there : q ≡ n = grind arith in one (subst (Step (interface_parents ifaces) m) there (up_step (λ (i : IfaceTerm). i.parent) ifaces m q is))
      by_test q false other is h rest = more (up_step (λ (i : IfaceTerm). i.parent) ifaces m q is) (rest q h)

      by_parent : (p : Option ℕ) → parent_of ifaces m ≡ p → is_among ifaces (suc links) n p ≡ true → ((q : ℕ) → is_among ifaces links n (parent_of ifaces q) ≡ true → Reaches (interface_parents ifaces) q n) → Reaches (interface_parents ifaces) m n
      by_parent None is h rest = absurd (cc)
      by_parent (Some q) is h rest = by_test q (nat_eq q n) refl is h rest

  kept_by : (b a c : Bool) → (a ≡ true → c ≡ true) → (if b then true else a) ≡ true → (if b then true else c) ≡ true
  kept_by true a c rest e = refl
  kept_by false a c rest e = rest e

  -- more parents are asked
  more_links : (links others n : ℕ) (p : Option ℕ) → links ≤ others → is_among ifaces links n p ≡ true → is_among ifaces others n p ≡ true
  more_links zero others n p l e = absurd (cc)
  more_links (suc links) zero n p l e = absurd (omega (arith, l))
  more_links (suc links) (suc others) n None l e = absurd (cc)
  more_links (suc links) (suc others) n (Some m) l e = kept_by (nat_eq m n) (is_among ifaces links n (parent_of ifaces m)) (is_among ifaces others n (parent_of ifaces m)) (more_links links others n (parent_of ifaces m) (omega (arith, l))) e

  record Way (m n : ℕ) : Type 0 where
    count : ℕ
    climbs : Climbs (parent_of ifaces) m (suc count)
    last : above (parent_of ifaces) (suc count) m ≡ n

  way_of : {m n : ℕ} → Reaches (interface_parents ifaces) m n → Way m n
  way_of (one {x = m} {y = n} s) =
      let e = step_up (λ (i : IfaceTerm). i.parent) ifaces m n s in
      record { count = 0; climbs = climbs_more (parent_of ifaces) m n 0 e (λ i below. absurd (omega (arith, below))); last = next_is (parent_of ifaces) m n e }
  way_of (more {x = m} {y = y} {z = n} s r) =
      let e = step_up (λ (i : IfaceTerm). i.parent) ifaces m y s in
      let w = way_of r in
      record { count = suc w.count; climbs = climbs_more (parent_of ifaces) m y (suc w.count) e w.climbs; last = ap (above (parent_of ifaces) (suc w.count)) (next_is (parent_of ifaces) m y e) ∙ w.last }

  -- the way leads through the parents that are asked
  among : (count m n : ℕ) → Climbs (parent_of ifaces) m (suc count) → above (parent_of ifaces) (suc count) m ≡ n → is_among ifaces (suc count) n (parent_of ifaces m) ≡ true
  among zero m n c last = ap (is_among ifaces 1 n) (c 0 (omega arith)) ∙ ap (λ b. if b then true else false) (let same : nat_eq (next (parent_of ifaces) m) n ≡ true = grind (arith, last) in same)
  among (suc count) m n c last =
      ap (is_among ifaces (suc (suc count)) n) (c 0 (omega arith)) ∙ either (nat_eq (next (parent_of ifaces) m) n) (is_among ifaces (suc count) n (parent_of ifaces (next (parent_of ifaces) m))) (among count (next (parent_of ifaces) m) n (climbs_on (parent_of ifaces) m (suc count) c) last)
    where
      either : (b a : Bool) → a ≡ true → (if b then true else a) ≡ true
      either true a e = refl
      either false a e = e

  module _ (acyclic : IsAcyclic (interface_parents ifaces)) where
    few_parents : (m count : ℕ) → Climbs (parent_of ifaces) m count → count ≤ length ifaces
    few_parents m count c = few_above (parent_of ifaces) (interface_parents ifaces) acyclic (up_step (λ (i : IfaceTerm). i.parent) ifaces) (length ifaces) (child_within (λ (i : IfaceTerm). i.parent) ifaces) m count c

    pub inherits_reaching : (m n : ℕ) → (inherits ifaces m n ≡ true) ↔ Reaches (interface_parents ifaces) m n
    inherits_reaching m n = (reached (length ifaces) m n, λ r. let w = way_of r in more_links (suc w.count) (length ifaces) n (parent_of ifaces m) (few_parents m (suc w.count) w.climbs) (among w.count m n w.climbs w.last))
