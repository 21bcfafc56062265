-- What the steps of the graph of dictionaries lead to, and what holds of a dictionary that holds itself.
use Rattle.std.proofs.Common.{◌≡◌, ◌⊎◌, inl, inr, ℕ, ◌+◌, ◌-◌, ◌<◌, Bool, true, false, zero, suc, List, [], ◌∷◌, length, map, slice_get, Option, None, Some, arith, refl, sym, ap, subst, ◌∙◌, nat_lt}
use Rattle.std.specs.List.{Contains}
use Rattle.std.specs.Option.{option_to_list}
use Rattle.std.proofs.lemmas.List.Elements.{Contains-append_left, Contains-append_right, Contains-append_cases}
use Rattle.std.proofs.lemmas.Option.{same_Some, slice_get_within}
use Rattle.widl_graph.proofs.ParentSteps.{listed_parent, parent_step, step_parent}
use Rattle.widl_graph.specs.Reaching.{AreNodes, Reaches, Step, one, more}
use Rattle.widl_graph.proofs.Complete.{step_within}
use Rattle.widl_graph.proofs.Reach.{joined, first_step}
use Rattle.widl_idl.specs.DefinitionTerms.{DictTerm}
use Rattle.widl_inheritance.specs.HoldingGraph.{IsHoldingGraph}
use Rattle.widl_overload.specs.rules.Dictionaries.{HoldsIn, Inherits, LeadsTo, at_once, dictionaries_of_members, dictionary_parents, further}

-- the only item of a list of one
only_item : (x y : ℕ) → Contains (x ∷ []) y → y ≡ x
only_item x y c = sym (same_Some x y (listed_parent (Some x) y c))

-- the number of a parent as that of the node of its members
above_cases : (count : ℕ) (parent : Option ℕ) (y : ℕ) → Contains (map (λ p. count + p) (option_to_list parent)) y → (p : ℕ) × (parent ≡ Some p) × (y ≡ count + p)
above_cases count None y c = absurd (let l = c.1 in omega arith)
above_cases count (Some p) y c = (p, refl, only_item (count + p) y c)

above_has : (count : ℕ) (parent : Option ℕ) (p : ℕ) → parent ≡ Some p → Contains (map (λ q. count + q) (option_to_list parent)) (count + p)
above_has count parent p is = subst (λ o. Contains (map (λ q. count + q) (option_to_list o)) (count + p)) (sym is) (0, omega arith, refl)

pub dictionary_at : (dicts : List DictTerm) (n : ℕ) → n < length dicts → (d : DictTerm) × (slice_get dicts n ≡ Some d)
dictionary_at [] n below = absurd (omega (arith, below))
dictionary_at (d ∷ dicts) zero below = (d, refl)
dictionary_at (d ∷ dicts) (suc n) below = dictionary_at dicts n (omega (arith, below))

module _ (dicts : List DictTerm) where
  -- a dictionary in the type of a member of one's own
  pub holds_own : (n m : ℕ) (d : DictTerm) → slice_get dicts n ≡ Some d → Contains (dictionaries_of_members d) m → HoldsIn dicts n m
  holds_own n m d is c = record { declaring = n; dictionary = d; of_line = inl refl; is = is; inside = c }

  -- one that the parent holds
  pub holds_above : (n p m : ℕ) (d : DictTerm) → slice_get dicts n ≡ Some d → d.parent ≡ Some p → HoldsIn dicts p m → HoldsIn dicts n m
  holds_above n p m d is above h = record { declaring = h.declaring; dictionary = h.dictionary; of_line = inr (by_line h.of_line); is = h.is; inside = h.inside }
    where
      by_line : (p ≡ h.declaring) ⊎ Inherits dicts p h.declaring → Inherits dicts n h.declaring
      by_line (inl e) = one (subst (λ k. Step (dictionary_parents dicts) n k) e (parent_step (λ (t : DictTerm). t.parent) dicts n p d is above))
      by_line (inr r) = more (parent_step (λ (t : DictTerm). t.parent) dicts n p d is above) r

  -- there are no other ones
  pub holds_cases : (n m : ℕ) → HoldsIn dicts n m → (d : DictTerm) × (slice_get dicts n ≡ Some d) × (Contains (dictionaries_of_members d) m ⊎ ((p : ℕ) × (d.parent ≡ Some p) × HoldsIn dicts p m))
  holds_cases n m h = by_line h.of_line
    where
      inherited : (y : ℕ) × Step (dictionary_parents dicts) n y × ((y ≡ h.declaring) ⊎ Inherits dicts y h.declaring) → (d : DictTerm) × (slice_get dicts n ≡ Some d) × (Contains (dictionaries_of_members d) m ⊎ ((p : ℕ) × (d.parent ≡ Some p) × HoldsIn dicts p m))
      inherited f =
          let above = step_parent (λ (t : DictTerm). t.parent) dicts n f.0 f.1 in
          (above.0, above.1, inr (f.0, above.2, record { declaring = h.declaring; dictionary = h.dictionary; of_line = f.2; is = h.is; inside = h.inside }))

      by_line : (n ≡ h.declaring) ⊎ Inherits dicts n h.declaring → (d : DictTerm) × (slice_get dicts n ≡ Some d) × (Contains (dictionaries_of_members d) m ⊎ ((p : ℕ) × (d.parent ≡ Some p) × HoldsIn dicts p m))
      by_line (inl e) = (h.dictionary, ap (slice_get dicts) e ∙ h.is, inl h.inside)
      by_line (inr r) = inherited (first_step r)

  -- one in the list
  pub holding_below : (n m : ℕ) → HoldsIn dicts n m → n < length dicts
  holding_below n m h = let d = holds_cases n m h in slice_get_within dicts n d.0 d.1

  leads_above : (n p m : ℕ) (d : DictTerm) → slice_get dicts n ≡ Some d → d.parent ≡ Some p → LeadsTo dicts p m → LeadsTo dicts n m
  leads_above n p m d is above (at_once h) = at_once (holds_above n p m d is above h)
  leads_above n p m d is above (further {k = k} h l) = further (holds_above n p k d is above h) l

  -- where the members of a dictionary lead to
  pub record MemberStep (n y : ℕ) : Type 0 where
    pub dictionary : DictTerm
    pub is : slice_get dicts n ≡ Some dictionary
    pub goes : (Contains (dictionaries_of_members dictionary) y × (y < length dicts)) ⊎ ((p : ℕ) × (dictionary.parent ≡ Some p) × (y ≡ length dicts + p) × (p < length dicts))

module _ (dicts : List DictTerm) (graph : List (List ℕ)) (linked : IsHoldingGraph dicts (length dicts) graph) where
  pub to_members : (n : ℕ) → n < length dicts → Step graph n (length dicts + n)
  to_members n below = subst (λ ys. Contains ys (length dicts + n)) (sym (linked.types n below)) (0, omega arith, refl)

  pub from_type : (n y : ℕ) → n < length dicts → Step graph n y → y ≡ length dicts + n
  from_type n y below s = only_item (length dicts + n) y (subst (λ ys. Contains ys y) (linked.types n below) s)

  pub to_inside : (n m : ℕ) (d : DictTerm) → slice_get dicts n ≡ Some d → Contains (dictionaries_of_members d) m → Step graph (length dicts + n) m
  to_inside n m d is c = subst (λ ys. Contains ys m) (sym (linked.members n d (slice_get_within dicts n d is) is)) (Contains-append_left (dictionaries_of_members d) (map (λ p. length dicts + p) (option_to_list d.parent)) m c)

  pub to_above : (n p : ℕ) (d : DictTerm) → slice_get dicts n ≡ Some d → d.parent ≡ Some p → Step graph (length dicts + n) (length dicts + p)
  to_above n p d is above = subst (λ ys. Contains ys (length dicts + p)) (sym (linked.members n d (slice_get_within dicts n d is) is)) (Contains-append_right (dictionaries_of_members d) (map (λ q. length dicts + q) (option_to_list d.parent)) (length dicts + p) (above_has (length dicts) d.parent p above))

  pub from_members : (n y : ℕ) → n < length dicts → Step graph (length dicts + n) y → MemberStep dicts n y
  from_members n y below s = record { dictionary = d; is = is; goes = by_part (Contains-append_cases (dictionaries_of_members d) (map (λ p. length dicts + p) (option_to_list d.parent)) y (subst (λ ys. Contains ys y) (linked.members n d below is) s)) }
    where
      d : DictTerm
      d = (dictionary_at dicts n below).0

      is : slice_get dicts n ≡ Some d
      is = (dictionary_at dicts n below).1

      by_parent : (p : ℕ) × (d.parent ≡ Some p) × (y ≡ length dicts + p) → (Contains (dictionaries_of_members d) y × (y < length dicts)) ⊎ ((p : ℕ) × (d.parent ≡ Some p) × (y ≡ length dicts + p) × (p < length dicts))
      by_parent h = inr (h.0, h.1, h.2, (linked.within n d below is).above h.0 h.1)

      by_part : Contains (dictionaries_of_members d) y ⊎ Contains (map (λ p. length dicts + p) (option_to_list d.parent)) y → (Contains (dictionaries_of_members d) y × (y < length dicts)) ⊎ ((p : ℕ) × (d.parent ≡ Some p) × (y ≡ length dicts + p) × (p < length dicts))
      by_part (inl c) = inl (c, (linked.within n d below is).inside y c)
      by_part (inr c) = by_parent (above_cases (length dicts) d.parent y c)

  -- each successor is a node
  pub are_nodes : AreNodes graph
  are_nodes = record { below = λ x y s. by_kind x y s (nat_lt x (length dicts)) refl }
    where
      by_goal : (y : ℕ) (d : DictTerm) → (Contains (dictionaries_of_members d) y × (y < length dicts)) ⊎ ((p : ℕ) × (d.parent ≡ Some p) × (y ≡ length dicts + p) × (p < length dicts)) → y < length graph
      by_goal y d (inl h) = let l = h.1 in let size = linked.size in omega (arith, l, size)
      by_goal y d (inr h) = let e = h.2 in let l = h.3 in let size = linked.size in omega (arith, e, l, size)

      by_kind : (x y : ℕ) → Step graph x y → (b : Bool) → nat_lt x (length dicts) ≡ b → y < length graph
      by_kind x y s true t =
          let below : x < length dicts = grind arith in
          let e = from_type x y below s in
          let size = linked.size in
          omega (arith, e, below, size)
      by_kind x y s false t =
          let within = step_within graph x y s in
          let size = linked.size in
          let above : length dicts + (x - length dicts) ≡ x = grind arith in
          let below : x - length dicts < length dicts = omega (arith, above, within, size) in
          let m = from_members (x - length dicts) y below (subst (λ k. Step graph k y) (sym above) s) in
          by_goal y m.dictionary m.goes

  -- the members of a dictionary lead to those of each from which it inherits
  above_reached : {n m : ℕ} → Inherits dicts n m → Reaches graph (length dicts + n) (length dicts + m)
  above_reached (one {x = n} {y = m} s) = let d = step_parent (λ (t : DictTerm). t.parent) dicts n m s in one (to_above n m d.0 d.1 d.2)
  above_reached (more {x = n} {y = k} s r) = let d = step_parent (λ (t : DictTerm). t.parent) dicts n k s in more (to_above n k d.0 d.1 d.2) (above_reached r)

  -- and a dictionary to each that it holds
  held_reached : (n m : ℕ) → HoldsIn dicts n m → Reaches graph n m
  held_reached n m h = more (to_members n (holding_below dicts n m h)) (by_line h.of_line)
    where
      last : Step graph (length dicts + h.declaring) m
      last = to_inside h.declaring m h.dictionary h.is h.inside

      by_line : (n ≡ h.declaring) ⊎ Inherits dicts n h.declaring → Reaches graph (length dicts + n) m
      by_line (inl e) = one (subst (λ k. Step graph (length dicts + k) m) (sym e) last)
      by_line (inr r) = joined (above_reached r) (one last)

  pub leads_reached : {n m : ℕ} → LeadsTo dicts n m → Reaches graph n m
  leads_reached (at_once {n = n} {m = m} h) = held_reached n m h
  leads_reached (further {n = n} {k = k} h l) = joined (held_reached n k h) (leads_reached l)

  -- a way in the graph to a dictionary as a type leads from one to the other
  pub reached_leads : {x y : ℕ} → Reaches graph x y → y < length dicts → (n : ℕ) → n < length dicts → (x ≡ n) ⊎ (x ≡ length dicts + n) → LeadsTo dicts n y
  reached_leads (one {x = x} {y = y} s) within n below (inl e) = absurd (let l = from_type n y below (subst (λ k. Step graph k y) e s) in omega (arith, l, within))
  reached_leads (one {x = x} {y = y} s) within n below (inr e) = by_goal (from_members n y below (subst (λ k. Step graph k y) e s))
    where
      by_goal : MemberStep dicts n y → LeadsTo dicts n y
      by_goal m = elim m.goes [ inl h ↦ at_once (holds_own dicts n y m.dictionary m.is h.0) | inr h ↦ absurd (let l = h.2 in omega (arith, l, within)) ]
  reached_leads (more {x = x} {y = z} {z = y} s r) within n below (inl e) = reached_leads r within n below (inr (from_type n z below (subst (λ k. Step graph k z) e s)))
  reached_leads (more {x = x} {y = z} {z = y} s r) within n below (inr e) =
      let m = from_members n z below (subst (λ k. Step graph k z) e s) in
      elim m.goes [
        | inl h ↦ further (holds_own dicts n z m.dictionary m.is h.0) (reached_leads r within z h.1 (inl refl))
        | inr h ↦ leads_above dicts n h.0 y m.dictionary m.is h.1 (reached_leads r within h.0 h.3 (inr h.2))
      ]
