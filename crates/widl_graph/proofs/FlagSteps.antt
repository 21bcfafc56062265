-- What nodes reach, a node of the order at a time.
use Rattle.std.proofs.Common.{◌≡◌, ◌≢◌, ◌⊎◌, inl, inr, ℕ, suc, ◌+◌, ◌<◌, ◌≤◌, Bool, true, false, ◌||◌, nat_lt, List, [], ◌∷◌, length, get_or, set, slice_get, Some, arith, refl, sym, ap, subst, ◌∙◌, replicate, ◌↔◌}
use Rattle.std.specs.List.{Contains, list_any}
use Rattle.std.proofs.lemmas.List.{get_or-set_same, get_or-set_other, get_or_past, length-replicate, length-set}
use Rattle.std.proofs.lemmas.List.Folds.{list_any_at}
use Rattle.std.proofs.lemmas.Option.{slice_get_within, slice_get-get_or}
use Rattle.widl_graph.proofs.Reach.{first_step}
use Rattle.widl_graph.specs.declared.walk.Walk.{Walk}
use Rattle.widl_graph.specs.Order.{IsOrder, StandsBefore}
use Rattle.widl_graph.specs.Reaching.{Step, Reaches, one, more, successors_of, IsAcyclic}
use Rattle.widl_graph.proofs.Orders.{earlier_place}
use Rattle.widl_graph.specs.Walks.{IsWalkOver}
use Rattle.widl_graph.specs.Flags.{ReachesFlag, TellsReached, reaches_by}

-- a test that one of a list passes
any_from : (test : ℕ → Bool) (xs : List ℕ) → list_any test xs ≡ true → (y : ℕ) × Contains xs y × (test y ≡ true)
any_from test [] e = absurd (cc)
any_from test (x ∷ xs) e = by_test (test x) refl (λ h. any_from test xs h) e
  where
    by_test : (b : Bool) → test x ≡ b → (list_any test xs ≡ true → (y : ℕ) × Contains xs y × (test y ≡ true)) → (b || list_any test xs) ≡ true → (y : ℕ) × Contains (x ∷ xs) y × (test y ≡ true)
    by_test true is rest h = (x, (0, omega arith, refl), is)
    by_test false is rest h = (let found = rest h in (found.0, (suc found.1.0, omega (arith, found.1.1), found.1.2), found.2))

any_at : (test : ℕ → Bool) (xs : List ℕ) (y : ℕ) → Contains xs y → test y ≡ true → list_any test xs ≡ true
any_at test xs y c is = list_any_at test xs c.0 y c.1 (ap test c.2 ∙ is)

left_or : (a b : Bool) → a ≡ true → (a || b) ≡ true
left_or true b e = refl
left_or false b e = absurd (cc)

right_or : (a b : Bool) → b ≡ true → (a || b) ≡ true
right_or true b e = refl
right_or false b e = e

or_cases : (a b : Bool) → (a || b) ≡ true → (a ≡ true) ⊎ (b ≡ true)
or_cases true b e = inl refl
or_cases false b e = inr e

-- what a node reaches, by its successors
module _ (graph : List (List ℕ)) (flags found : List Bool) (x : ℕ) (known : (y : ℕ) → Step graph x y → (get_or found y false ≡ true) ↔ ReachesFlag graph flags y) where
  reached : list_any (reaches_by flags found) (successors_of graph x) ≡ true → ReachesFlag graph flags x
  reached e =
      let h = any_from (reaches_by flags found) (successors_of graph x) e in
      elim (or_cases (get_or flags h.0 false) (get_or found h.0 false) h.2) [ inl own ↦ record { node = h.0; reaches = one h.1; flagged = own } | inr above ↦ (let r = (known h.0 h.1).0 above in record { node = r.node; reaches = more h.1 r.reaches; flagged = r.flagged }) ]

  by_step : (r : ReachesFlag graph flags x) → (y : ℕ) × Step graph x y × ((y ≡ r.node) ⊎ Reaches graph y r.node) → list_any (reaches_by flags found) (successors_of graph x) ≡ true
  by_step r s =
      any_at (reaches_by flags found) (successors_of graph x) s.0 s.1
      (elim s.2 [ inl e ↦ left_or (get_or flags s.0 false) (get_or found s.0 false) (ap (λ y. get_or flags y false) e ∙ r.flagged) | inr more_steps ↦ right_or (get_or flags s.0 false) (get_or found s.0 false) ((known s.0 s.1).1 (record { node = r.node; reaches = more_steps; flagged = r.flagged })) ])

  reaches_so : ReachesFlag graph flags x → list_any (reaches_by flags found) (successors_of graph x) ≡ true
  reaches_so r = by_step r (first_step r.reaches)

-- the flags tell of the first nodes of the order what they reach
pub record TellsFirst (graph : List (List ℕ)) (flags : List Bool) (order : List ℕ) (count : ℕ) (found : List Bool) : Type 0 where
  pub size : length found ≡ length graph
  pub tells : (place x : ℕ) → place < count → slice_get order place ≡ Some x → (get_or found x false ≡ true) ↔ ReachesFlag graph flags x

pub first_none : (graph : List (List ℕ)) (flags : List Bool) (order : List ℕ) (count : ℕ) (found : List Bool) → count ≡ length graph → found ≡ replicate count false → TellsFirst graph flags order 0 found
first_none graph flags order count found size is = record { size = ap length is ∙ length-replicate count false ∙ size; tells = λ place x below. absurd (omega (arith, below)) }

module _ (graph : List (List ℕ)) (flags : List Bool) (order : List ℕ) (count : ℕ) (old : List Bool) (x : ℕ) (flag : Bool) (is_order : IsOrder (length graph) order) (here : slice_get order count ≡ Some x) (known : TellsFirst graph flags order count old) where
  some_is : {a b : ℕ} → Some a ≡ Some b → a ≡ b
  some_is e = (cc)

  within : x < length old
  within = let l = is_order.nodes count x here in let size = known.size in omega (arith, l, size)

  -- the successors of the next node are known
  known_step : ((y : ℕ) → Step graph x y → StandsBefore order y x) → (y : ℕ) → Step graph x y → (get_or old y false ≡ true) ↔ ReachesFlag graph flags y
  known_step before y s = let p = earlier_place (length graph) order count x y is_order here (before y s) in known.tells p.0 y p.1 p.2

  flag_is : ((y : ℕ) → Step graph x y → StandsBefore order y x) → flag ≡ list_any (reaches_by flags old) (successors_of graph x) → (flag ≡ true) ↔ ReachesFlag graph flags x
  flag_is before e = (λ h. reached graph flags old x (known_step before) (sym e ∙ h), λ r. e ∙ reaches_so graph flags old x (known_step before) r)

  at_place : (new : List Bool) → new ≡ set old x flag → (flag ≡ true) ↔ ReachesFlag graph flags x → (place z : ℕ) → place < count + 1 → slice_get order place ≡ Some z → (b : Bool) → nat_lt place count ≡ b → (get_or new z false ≡ true) ↔ ReachesFlag graph flags z
  at_place new is found place z below listed true before =
      let lower : place < count = grind arith in
      let other : z ≢ x = λ e. let one_place : place ≡ count = is_order.once place count x (listed ∙ ap Some e) here in omega arith in
      let same : get_or new z false ≡ get_or old z false = ap (λ fs. get_or fs z false) is ∙ get_or-set_other old x z flag false other in
      subst (λ b. (b ≡ true) ↔ ReachesFlag graph flags z) (sym same) (known.tells place z lower listed)
  at_place new is found place z below listed false before =
      let last : place ≡ count = grind arith in
      let same : z ≡ x = some_is (sym listed ∙ ap (slice_get order) last ∙ here) in
      let set_here : get_or new x false ≡ flag = ap (λ fs. get_or fs x false) is ∙ get_or-set_same old x flag false within in
      subst (λ y. (get_or new y false ≡ true) ↔ ReachesFlag graph flags y) (sym same) (subst (λ b. (b ≡ true) ↔ ReachesFlag graph flags x) (sym set_here) found)

  -- one node more
  pub first_next : (new : List Bool) → ((y : ℕ) → Step graph x y → StandsBefore order y x) → flag ≡ list_any (reaches_by flags old) (successors_of graph x) → new ≡ set old x flag → TellsFirst graph flags order (count + 1) new
  first_next new before e is = record {
    size = ap length is ∙ length-set old x flag ∙ known.size;
    tells = λ place z below listed. at_place new is (flag_is before e) place z below listed (nat_lt place count) refl;
  }

-- the same, as a loop over the order of a walk has it
pub walked_next : (graph : List (List ℕ)) (walk : Walk) (flags : List Bool) (count : ℕ) (old new : List Bool) (flag : Bool) (numbers : List ℕ) (seen : List Bool) → IsWalkOver graph walk → IsAcyclic graph → numbers ≡ walk.order.items → seen ≡ old → count < length numbers
    → flag ≡ list_any (reaches_by flags seen) (successors_of graph (get_or numbers count 0)) → new ≡ set old (get_or numbers count 0) flag
    → TellsFirst graph flags walk.order.items count old → TellsFirst graph flags walk.order.items (count + 1) new
walked_next graph walk flags count old new flag numbers seen walked acyclic ordered same below e is known =
    let x : ℕ = get_or numbers count 0 in
    let here : slice_get walk.order.items count ≡ Some x = ap (λ l. slice_get l count) (sym ordered) ∙ slice_get-get_or numbers count 0 below in
    first_next graph flags walk.order.items count old x flag walked.order here known new (λ y s. walked.before x y (acyclic x) s) (e ∙ ap (λ fs. list_any (reaches_by flags fs) (successors_of graph x)) same) is

-- a number past the nodes reaches nothing
past_none : (graph : List (List ℕ)) (flags : List Bool) (x : ℕ) → length graph ≤ x → ReachesFlag graph flags x → ⊥
past_none graph flags x past r =
    let s = first_step r.reaches in
    let step : Contains [] s.0 = subst (λ ys. Contains ys s.0) (get_or_past graph x [] past) s.1 in
    let below = step.1 in omega arith

-- after the last node of the order
pub first_all : (graph : List (List ℕ)) (flags : List Bool) (order : List ℕ) (count : ℕ) (found : List Bool) → IsOrder (length graph) order → length order ≤ count → TellsFirst graph flags order count found → TellsReached graph flags found
first_all graph flags order count found is_order past known = record { tells = λ x. by_size x (nat_lt x (length graph)) refl }
  where
    by_size : (x : ℕ) (b : Bool) → nat_lt x (length graph) ≡ b → (get_or found x false ≡ true) ↔ ReachesFlag graph flags x
    by_size x true h =
        let below : x < length graph = grind arith in
        let here = is_order.each x below in
        let inside = slice_get_within order here.0 x here.1 in
        known.tells here.0 x (omega (arith, inside, past)) here.1
    by_size x false h =
        let size = known.size in
        let beyond : length graph ≤ x = grind arith in
        let none : get_or found x false ≡ false = get_or_past found x false (omega (arith, beyond, size)) in
        (λ e. absurd (let wrong : true ≡ false = sym e ∙ none in (cc)), λ r. absurd (past_none graph flags x beyond r))
